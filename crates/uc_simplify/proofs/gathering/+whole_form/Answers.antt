use Rattle.uc_simplify.proofs.Forms.{halves_right}
use Rattle.uc_simplify.proofs.gathering.+whole_form.Goals as goal

pub returns-in_ok-form-in_default : goal.returns-in_ok-form-in_default
returns-in_ok-form-in_default t c =
    halves_right c.args.terms.now c.args.parts.now c.split_at.result.0.now c.split_at.result.1.now _ c.in_ok-form-in_default.form c.in_ok-first-in_default.first c.in_ok-others-in_default.others c.split_at.ensures.front c.split_at.ensures.back c.in_ok-form-in_default.ensures.ok
    c.in_ok-first-in_default.ensures c.in_ok-others-in_default.ensures
