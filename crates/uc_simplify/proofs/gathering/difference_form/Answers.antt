use Rattle.std.proofs.Common.{◌-ℤ◌, [], ◌∷◌}
use Rattle.uc_simplify.specs.Forms.{number_at}
use Rattle.uc_simplify.proofs.Forms.{form_listed}
use Rattle.uc_simplify.proofs.gathering.difference_form.Goals as goal

pub returns-in-Ok : goal.returns-in-Ok
returns-in-Ok c =
    form_listed c.args.terms.now (c.args.a ∷ c.args.b ∷ []) c.in-Ok.form (λ m. number_at m c.args.terms.now c.args.a -ℤ number_at m c.args.terms.now c.args.b) c.pairs-pairs.ensures.rises c.in-Ok.ensures
