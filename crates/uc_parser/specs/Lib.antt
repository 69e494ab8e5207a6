pub mod ParseStatementsParts
pub mod ParseCommandsParts
pub mod Parts
pub mod Verdict
pub mod Law
