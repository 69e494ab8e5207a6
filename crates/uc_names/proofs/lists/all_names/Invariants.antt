use Rattle.uc_names.specs.Homes.{HoldsNames}
use Rattle.uc_names.proofs.InOrder.{MadeUpTo}
use Rattle.uc_names.proofs.lists.all_names.Given as goal

abbrev pub invariant-loop-home : goal.invariant-loop-home
invariant-loop-home l = MadeUpTo (HoldsNames l.design) l.tables l.home
