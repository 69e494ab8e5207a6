use Rattle.uc_lookup.specs.Parts.{system_in}
use Rattle.uc_sizes.specs.Spending.{size_in}
use Rattle.uc_sizes.proofs.Spending.{SpentUpTo}
use Rattle.uc_order_rules.specs.Sizes.{procedure_size}
use Rattle.uc_sizes.proofs.expansion.spend_procedures.Given as goal

abbrev pub invariant-loop-declaration : goal.invariant-loop-declaration
invariant-loop-declaration l = SpentUpTo (procedure_size (system_in l.system)) l.declarations (size_in l.fn.spent) l.declaration-index (size_in l.spent)
