use Rattle.std.proofs.Common.{rules}
use Rattle.uc_values.proofs.Fitting.{zero-fields}
use Rattle.uc_values.proofs.fit.+zero.Goals as goal

pub zero-returns-in_ok-parts-in-Rec : goal.zero-returns-in_ok-parts-in-Rec
zero-returns-in_ok-parts-in-Rec t c = search (rules, zero-fields)
