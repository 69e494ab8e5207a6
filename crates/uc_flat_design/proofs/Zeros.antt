-- The types of further cells are those that are read of locals, and those of kept sources.
use Rattle.std.proofs.Common.{◌≡◌, List, sym, ◌∙◌, subst, Some}
use Rattle.uc_syntax.specs.declared.type_expression.TypeExpr.{TypeExpr}
use Rattle.uc_syntax.specs.declared.declaration.Module.{Module}
use Rattle.uc_values.specs.declared.ty.Ty.{Ty}
use Rattle.uc_values.specs.declared.ty.Ty.TheViews.{out-Ty}
use Rattle.uc_values.specs.declared.ty.Ty.TheOpen.{Ty-F}
use Rattle.uc_values.specs.declared.ty.Ty.TheOpen.Ty-F.{Bool as boolean_type, Int as integer_type, Bv as bits_type, Rec as record_type, Arr as array_type, Enum as enum_type, Un as open_type}
use Rattle.uc_values.specs.declared.ty.Ty.TheFolds.{fold-Ty, map-Ty, fold-roll-Ty}
use Rattle.uc_values.specs.Values.{zero_of as zero_value}
use Rattle.uc_values.proofs.Shapes.{and_true}
use Rattle.uc_meaning.specs.Lookup.{System}
use Rattle.uc_meaning.specs.Types.{type_of_written}
use Rattle.uc_ops.specs.declared.op.Op.TheVariants.{Const, MkRec}
use Rattle.uc_ops.specs.Typing.{Valid}
use Rattle.uc_flat.specs.Reading.{type_of}
use Rattle.uc_flat.proofs.Forms.{type_apply}
use Rattle.uc_flat_code.specs.CellTypes.{is_cell_type, cell_type_of}
use Rattle.uc_flat_code.specs.Zero.{Zero, parts_form, type_form, zero_form, zero_of}
use Rattle.uc_flat_design.proofs.FlatInitLawOptions.{if_some, some_same}
use Rattle.uc_flat_code.proofs.Zeros.{zero_type as zero_own}
use Rattle.uc_flat_design.proofs.Fields.{rolled}

parts_typed : (types : List Ty) (ty : Ty) (y : Ty-F Zero) → type_of types (parts_form ty y) ≡ ty
parts_typed types ty (record_type fields) = type_apply types (MkRec ty) _
parts_typed types ty boolean_type = type_apply types (Const ty (zero_value ty)) _
parts_typed types ty integer_type = type_apply types (Const ty (zero_value ty)) _
parts_typed types ty (bits_type w) = type_apply types (Const ty (zero_value ty)) _
parts_typed types ty (enum_type e l) = type_apply types (Const ty (zero_value ty)) _
parts_typed types ty (open_type u) = type_apply types (Const ty (zero_value ty)) _
parts_typed types ty (array_type i e) = type_apply types (Const ty (zero_value ty)) _

abbrev IsOfIts : List Ty → Zero → Type 0
IsOfIts types z = type_of types z.expression ≡ z.ty

-- what a further cell begins with is of its type
pub zero_type : (types : List Ty) (ty : Ty) → type_of types (zero_of ty) ≡ ty
unfolding zero_of
zero_type types ty =
    subst (λ t. IsOfIts types (fold-Ty Zero zero_form t)) (rolled ty)
    (subst (IsOfIts types) (sym (fold-roll-Ty Zero zero_form (out-Ty ty))) (parts_typed types (type_form (map-Ty Ty Zero (fold-Ty Zero zero_form) (out-Ty ty))) (map-Ty Ty Zero (fold-Ty Zero zero_form) (out-Ty ty))))
    ∙ zero_own ty

-- the type that is read of a written type
pub cell_type_read : (system : System) (code : Module) (type : TypeExpr) (ty : Ty) → cell_type_of system code type ≡ Some ty → (type_of_written system code type ≡ ty) × Valid ty
cell_type_read system code type ty h =
    let own = type_of_written system code type in
    let b = if_some (is_cell_type own) (Some own) ty h in
    let same = some_same own ty b.1 in
    (same, subst Valid same (and_true b.0).0)
