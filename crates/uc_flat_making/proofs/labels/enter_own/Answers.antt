use Rattle.uc_flat_making.proofs.Entered.{own_enters}
use Rattle.uc_flat_making.proofs.labels.enter_own.Goals as goal

pub returns : goal.returns
returns c = own_enters c.args.tables.now c.args.code.now c.in_ok-found.found _ _ _ c.in_ok-found.ensures c.as_slice.ensures c.in_ok-enter_enums.ensures
