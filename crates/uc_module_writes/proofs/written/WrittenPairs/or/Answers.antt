use Rattle.uc_module_writes.proofs.Going.{or_on}
use Rattle.uc_module_writes.proofs.Growing.{same_as}
use Rattle.uc_module_writes.proofs.written.WrittenPairs.or.Goals as goal

pub returns : goal.returns
returns c =
    λ names.
    or_on names c.args.self.now c.args.other.now _ (same_as _ _ _ _ c.in_ok-add_copies.ensures c.as_slice.ensures) (same_as _ _ _ _ c.in_ok-add_copies-2.ensures c.as_slice-2.ensures)
    (same_as _ _ _ _ c.in_ok-add_copies-3.ensures c.as_slice-3.ensures)
