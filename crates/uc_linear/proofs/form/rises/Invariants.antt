use Rattle.std.proofs.Common.{drop}
use Rattle.std.specs.Prelude.{◌↔◌}
use Rattle.uc_linear.specs.Linear.{Rises}
use Rattle.uc_linear.proofs.form.rises.Given as goal

abbrev pub invariant-loop-variable : goal.invariant-loop-variable
invariant-loop-variable l = Rises 0 l.pairs ↔ Rises l.low (drop l.variable-index l.pairs)
