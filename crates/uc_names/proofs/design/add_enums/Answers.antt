use Rattle.std.proofs.Common.{◌++◌, ap, ◌∙◌}
use Rattle.uc_type_names.specs.Lent.{meant}
use Rattle.uc_names.proofs.Forms.{meant_joined}
use Rattle.uc_names.proofs.design.add_enums.Goals as goal

pub returns : goal.returns
returns c = ap meant c.in_ok-append.ensures ∙ meant_joined c.args.enums.now c.in_ok-more.more ∙ ap (λ es. meant c.args.enums.now ++ es) c.in_ok-more.ensures
