use Rattle.std.proofs.Common.{ap, ◌∙◌, ◌++◌}
use Rattle.uc_syntax.specs.WrittenTypes.{types_in}
use Rattle.uc_type_names.specs.Lent.{lent}
use Rattle.uc_type_names.proofs.Forms.{lent_none}
use Rattle.uc_type_names.proofs.written.types_in.Goals as goal

pub returns : goal.returns
returns c =
    c.in_ok-add_declaration.ensures ∙ ap (λ ts. lent ts ++ types_in c.args.declaration.now) c.new-types.ensures
    ∙ lent_none (types_in c.args.declaration.now)
