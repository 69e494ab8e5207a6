use Rattle.uc_simplify.specs.Forms.{numbers_at}
use Rattle.uc_simplify.proofs.Forms.{form_listed}
use Rattle.uc_simplify.proofs.gathering.sum_form.Goals as goal

pub returns-in-Ok : goal.returns-in-Ok
returns-in-Ok c = form_listed c.args.terms.now c.args.parts.now c.in-Ok.form (λ m. numbers_at m c.args.terms.now c.args.parts.now) c.pairs-pairs.ensures.rises c.in-Ok.ensures
