pub mod ExpressionWords
pub mod StatementWords
pub mod DeclarationWords
