use Rattle.uc_names.specs.Homes.{HoldsOwn}
use Rattle.uc_names.proofs.InOrder.{MadeUpTo}
use Rattle.uc_names.proofs.lists.all_own.Given as goal

abbrev pub invariant-loop-home : goal.invariant-loop-home
invariant-loop-home l = MadeUpTo (HoldsOwn l.design) l.tables l.home
