use Rattle.uc_names.proofs.OpaquePlaces.{opaques_known}
use Rattle.uc_names.proofs.numbers.OpaqueNumbers.of.Goals as goal

pub returns : goal.returns
returns c = opaques_known _ _ _ c.in_ok-types.types c.in_ok-numbers.ensures c.as_slice.ensures c.in_ok-types.ensures
