use Rattle.std.proofs.Common.{ap, sym, ◌∙◌}
use Rattle.std.specs.List.{list_all}
use Rattle.uc_values.specs.Types.{is_flat, is_scalar}
use Rattle.uc_declared_types.proofs.Flat.{flat_record}
use Rattle.uc_declared_types.proofs.shapes.is_flat.Goals as goal

pub returns-in-Rec : goal.returns-in-Rec
returns-in-Rec c = c.are_scalar.ensures ∙ ap (list_all (λ f. is_scalar f.ty)) c.as_slice.ensures ∙ sym (ap is_flat c.in-Rec.is ∙ flat_record c.in-Rec.fields)
