use Rattle.uc_flat_making.proofs.Entered.{labels_are}
use Rattle.uc_flat_making.proofs.labels.labels_of.Goals as goal

pub returns : goal.returns
returns c =
    labels_are c.args.tables.now c.args.code.now c.in_ok-found.found _ _ _ _ _ _ _ c.new-labels.ensures c.in_ok-found.ensures c.as_slice.ensures c.as_slice-2.ensures c.as_slice-3.ensures
    c.in_ok-enter_enums.ensures c.in_ok-enter_imported.ensures c.in_ok-enter_named.ensures
