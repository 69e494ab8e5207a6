use Rattle.std.proofs.Common.{arith, refl, ◌≡◌, ◌<◌, length, get_or}
use Rattle.std.proofs.lemmas.Grind.{common_steps}
use Rattle.uc_learner.proofs.Accepting.{can_teach}
use Rattle.uc_learner.proofs.acceptance.taught_at.Goals as goal

pub returns-then-is_rest_false : goal.returns-then-is_rest_false
returns-then-is_rest_false c =
    can_teach c.args.trail.now c.args.choices.now c.args.clause.now c.in_ok-asserted.field-0.now c.in_ok-place.place c.in_ok-from.from c.in_ok-target.target
    (grind (arith, common_steps)) (grind (arith, common_steps)) (omega (arith, c.if-target-place.true))
    (record {
      at = c.in_ok-place.ensures;
      behind = c.in_ok-from.ensures;
      first = c.in_ok-target.ensures;
      input = c.if-is_choice.ensures refl;
      before = c.if-is_rest_false.ensures refl;
    })
