use Rattle.uc_names.proofs.PlaceNumbers.{numbers_known}
use Rattle.uc_names.proofs.design.DesignNames.of.Goals as goal

pub invariant_of-result : goal.invariant_of-result
invariant_of-result c = record {
  modules_known = c.in_ok-modules.ensures;
  enums_known = numbers_known _ _ _ c.in_ok-written.written c.in_ok-enums.ensures c.as_slice.ensures c.in_ok-written.ensures;
}
