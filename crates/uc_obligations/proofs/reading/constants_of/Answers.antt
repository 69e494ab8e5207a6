use Rattle.std.proofs.Common.{subst, arith}
use Rattle.std.specs.Option.{option_copied}
use Rattle.uc_obligations.specs.Reading.{IsFitting}
use Rattle.uc_obligations.proofs.Read.{read_none, read_more, read_all, unread}
use Rattle.uc_obligations.proofs.reading.constants_of.Goals as goal

pub loop-place-init : goal.loop-place-init
loop-place-init c = read_none _ _ _ c.new-values.ensures

pub returns-in_default : goal.returns-in_default
returns-in_default c = unread c.args.f.now c.as_slice-constants.result.now c.loop-place.place _ c.as_slice-constants.ensures c.loop-place-test.true (subst (IsFitting _ _) c.in_default.is c.in_ok-value.ensures)

pub loop-place-preserved : goal.loop-place-preserved
loop-place-preserved c =
    read_more _ _ c.as_slice.result.now _ _ _ _ (option_copied c.at-given.result) c.in-Some.value c.loop-place.invariant c.loop-place-test.true c.index-constants-place.is c.as_slice.ensures c.at-given.ensures
    (subst (IsFitting _ _) c.in-Some.is c.in_ok-value.ensures) c.in_ok-push.ensures.ok

pub returns : goal.returns
returns c = read_all c.args.f.now c.args.model.now _ _ _ c.as_slice-constants.ensures (omega (arith, c.loop-place.auto)) c.loop-place-test.false c.loop-place.invariant
