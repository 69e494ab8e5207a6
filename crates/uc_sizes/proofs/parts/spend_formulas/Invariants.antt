use Rattle.uc_lookup.specs.Parts.{system_in}
use Rattle.uc_sizes.specs.Spending.{size_in}
use Rattle.uc_sizes.proofs.Spending.{SpentUpTo}
use Rattle.uc_order_rules.specs.Sizes.{formula_in}
use Rattle.uc_sizes.specs.Expanding.{expression_sizes}
use Rattle.uc_sizes.proofs.parts.spend_formulas.Given as goal

abbrev pub invariant-loop-declaration : goal.invariant-loop-declaration
invariant-loop-declaration l = SpentUpTo (λ d. expression_sizes (system_in l.system) l.path (formula_in d)) l.declarations (size_in l.fn.spent) l.declaration-index (size_in l.spent)
