use Rattle.std.proofs.Common.{sym}
use Rattle.uc_layout.proofs.Fits.{unlike_tables}
use Rattle.uc_layout.proofs.interpretation.tables_fit.Goals as goal

pub returns-then-functions-tables : goal.returns-then-functions-tables
returns-then-functions-tables c = sym (unlike_tables c.args.functions.now c.args.tables.now c.if-functions-tables.true)
