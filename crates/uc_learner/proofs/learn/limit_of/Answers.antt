use Rattle.std.proofs.Common.{arith, ◌≡◌, ◌<◌, ◌+◌, ◌*◌, ◌^◌, take}
use Rattle.uc_learner.specs.Answered.{inputs_count}
use Rattle.uc_learner.proofs.Roaming.{power_double, power_same, too_many}
use Rattle.uc_learner.proofs.learn.limit_of.Goals as goal
use Rattle.uc_learner.proofs.learn.limit_of.Goals.{then-inputs-at+else-reserve-room, else-inputs-at}

pub returns-then-reserve-room-clause-spares : goal.returns-then-reserve-room-clause-spares
returns-then-reserve-room-clause-spares c =
    λ room.
    let over : c.in-Some.room < 2 ^ inputs_count c.args.inputs.now =
    too_many c.args.inputs.now c.loop-at.at c.loop-at.reserve c.in-Some.room c.loop-at-test.true c.if-inputs-at.true c.loop-at.invariant.power c.if-reserve-room.true in
    absurd (omega (arith, over, room, c.in-Some.ensures))

pub loop-at-preserved : goal.loop-at-preserved
loop-at-preserved c = record {
  power = elim c.if-inputs-at.branch [
    | then-inputs-at+else-reserve-room w ↦
        (let next : 2 ^ inputs_count (take (c.loop-at.at + 1) c.args.inputs.now) ≡ (2 ^ inputs_count (take c.loop-at.at c.args.inputs.now)) * 2 = power_double c.args.inputs.now c.loop-at.at c.loop-at-test.true w.if-inputs-at.true in
        omega (arith, next, w.reserve-is, c.loop-at.invariant.power))
    | else-inputs-at w ↦
        (let next : 2 ^ inputs_count (take (c.loop-at.at + 1) c.args.inputs.now) ≡ 2 ^ inputs_count (take c.loop-at.at c.args.inputs.now) = power_same c.args.inputs.now c.loop-at.at c.loop-at-test.true w.if-inputs-at.false in
        omega (arith, next, w.reserve-is, c.loop-at.invariant.power))
  ];
}
