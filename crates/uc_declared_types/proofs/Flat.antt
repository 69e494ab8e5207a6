-- Which records are flat.
use Rattle.std.proofs.Common.{◌≡◌, Bool, List, [], ◌∷◌, map, refl, ap, sym, ◌∙◌}
use Rattle.std.specs.Prelude.{◌&&◌}
use Rattle.std.specs.List.{list_all}
use Rattle.uc_values.specs.declared.ty.Field.{Field}
use Rattle.uc_values.specs.declared.ty.Ty.{Ty}
use Rattle.uc_values.specs.declared.ty.Ty.TheVariants.{rolls-Rec}
use Rattle.uc_values.specs.declared.ty.Ty.TheViews.{Rec}
use Rattle.uc_values.specs.declared.ty.Ty.TheFolds.{fold-roll-Ty}
use Rattle.uc_values.specs.declared.ty.Ty.TheOpen.Ty-F.{Rec as record_type}
use Rattle.uc_values.specs.Types.{Shape, is_flat, is_scalar, shape, shape_form}

mapped : (fs : List (Field Ty)) → list_all (λ (f : Field Shape). f.ty.scalar) (map (λ f. record { name = f.name; ty = shape f.ty }) fs) ≡ list_all (λ f. is_scalar f.ty) fs
mapped [] = refl
mapped (f ∷ fs) = ap (λ b. is_scalar f.ty && b) (mapped fs)

pub flat_record : (fs : List (Field Ty)) → is_flat (Rec fs) ≡ list_all (λ f. is_scalar f.ty) fs
flat_record fs = ap is_flat (sym (rolls-Rec fs)) ∙ ap (λ (s : Shape). s.flat) (fold-roll-Ty Shape shape_form (record_type fs)) ∙ mapped fs
