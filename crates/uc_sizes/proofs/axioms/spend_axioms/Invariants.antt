use Rattle.uc_lookup.specs.Parts.{system_in}
use Rattle.uc_sizes.specs.Spending.{size_in}
use Rattle.uc_sizes.proofs.Spending.{SpentUpTo}
use Rattle.uc_sizes.specs.Expanding.{used_axioms}
use Rattle.uc_sizes.proofs.axioms.spend_axioms.Given as goal

abbrev pub invariant-loop-module : goal.invariant-loop-module
invariant-loop-module l = SpentUpTo (used_axioms (system_in l.system)) l.module-items (size_in l.fn.spent) l.module-index (size_in l.spent)
