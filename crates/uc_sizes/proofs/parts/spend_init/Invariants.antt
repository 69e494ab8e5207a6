use Rattle.uc_lookup.specs.Parts.{system_in}
use Rattle.uc_sizes.specs.Spending.{size_in}
use Rattle.uc_sizes.proofs.Spending.{SpentUpTo}
use Rattle.uc_meaning.specs.Lookup.{init_in}
use Rattle.uc_order_rules.specs.Sizes.{code_size}
use Rattle.uc_sizes.proofs.parts.spend_init.Given as goal

abbrev pub invariant-loop-declaration : goal.invariant-loop-declaration
invariant-loop-declaration l = SpentUpTo (λ d. code_size (system_in l.system) l.path (init_in d)) l.declaration-items (size_in l.fn.spent) l.declaration-index (size_in l.spent)
