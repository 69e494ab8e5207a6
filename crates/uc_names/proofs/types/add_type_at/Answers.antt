use Rattle.std.proofs.Common.{◌++◌, ◌∙◌, ap}
use Rattle.uc_names.specs.Senses.{entries_meant}
use Rattle.uc_names.proofs.Forms.{brought_alias, brought_opaque}
use Rattle.uc_names.proofs.types.add_type_at.Goals as goal

pub returns-in_ok-push-in-OpaqueType : goal.returns-in_ok-push-in-OpaqueType
returns-in_ok-push-in-OpaqueType c =
    λ ms there. c.in_ok-push-in-OpaqueType.ensures ms
    ∙ ap (λ es. entries_meant ms c.args.entries.now ++ es) (brought_opaque ms c.args.at c.args.declared c.args.declaration.now _ _ there c.in-OpaqueType.is)

pub returns-in_ok-push-in-TypeAlias : goal.returns-in_ok-push-in-TypeAlias
returns-in_ok-push-in-TypeAlias c =
    λ ms there. c.in_ok-push-in-TypeAlias.ensures ms
    ∙ ap (λ es. entries_meant ms c.args.entries.now ++ es) (brought_alias ms c.args.at c.args.declared c.args.declaration.now _ _ _ there c.in-TypeAlias.is)
