-- Names of a design that stand for cells are those of its variables.
use Rattle.std.proofs.Common.{◌≡◌, ℕ, [], length, refl, sym, ap, ◌∙◌, true, false, Bool, Option, Some, None, arith}
use Rattle.std.specs.Prelude.{nat_lt, if◌then◌else◌, slice_get}
use Rattle.uc_syntax.specs.declared.type_expression.TypeExpr.{TypeExpr}
use Rattle.uc_syntax.specs.declared.declaration.VariableKind.{VariableKind}
use Rattle.uc_syntax.specs.declared.declaration.VariableKind.TheVariants.{Variable, Input, Output, Constant as constant_kind}
use Rattle.uc_syntax.specs.declared.declaration.Module.{Module}
use Rattle.uc_values.specs.declared.ty.Ty.{Ty}
use Rattle.uc_meaning.specs.Lookup.{System, variable_of}
use Rattle.uc_meaning.specs.Types.{label_of, type_of_written}
use Rattle.uc_meaning.specs.Cells.{cell_of}
use Rattle.uc_meaning.specs.Expressions.{label_count}
use Rattle.uc_flat_expressions.specs.declared.typed.Meant.TheVariants.{Unknown, Cell, Label, Constant}
use Rattle.uc_flat_design.specs.Names.{of_label, of_cell_number, of_kind, of_variable, by_label, meant_in, counted, names_over_cells}
use Rattle.uc_flat_design.proofs.Cells.{HasCells}
use Rattle.uc_flat_design.proofs.Meaning.{counted_at, mapped_at}

-- A name that stands for a cell is that of a variable with this cell.
pub record IsEntry (system : System) (code : Module) (x k : ℕ) (ty : Ty) : Type 0 where
  pub kind : VariableKind
  pub type : TypeExpr
  pub no_label : label_of system code x ≡ None
  pub variable : variable_of code x ≡ Some (kind, type)
  pub has_cells : HasCells kind
  pub cell : cell_of system [] x ≡ Some k
  pub own : type_of_written system code type ≡ ty

no_cell_label : (system : System) (l : ℕ × ℕ) (k : ℕ) (o : Option ℕ) (ty : Ty) → of_label system l ≡ Cell k o ty → ⊥
no_cell_label system l k o ty h = by_test (nat_lt l.1 (label_count system l.0)) h
  where
    by_test : (b : Bool) → (if b then Label l.0 (label_count system l.0) l.1 else Unknown) ≡ Cell k o ty → ⊥
    by_test true e = cc
    by_test false e = cc

no_cell_unknown : (k : ℕ) (o : Option ℕ) (ty : Ty) → Unknown ≡ Cell k o ty → ⊥
no_cell_unknown k o ty h = cc

no_cell_constant : (j k : ℕ) (o : Option ℕ) (u ty : Ty) → Constant j u ≡ Cell k o ty → ⊥
no_cell_constant j k o u ty h = cc

same_number : (k j : ℕ) (o p : Option ℕ) (t u : Ty) → Cell k o t ≡ Cell j p u → k ≡ j
same_number k j o p t u h = cc

same_type : (k j : ℕ) (o p : Option ℕ) (t u : Ty) → Cell k o t ≡ Cell j p u → t ≡ u
same_type k j o p t u h = cc

entry_cell : (system : System) (code : Module) (x k : ℕ) (p : Option ℕ) (ty : Ty) (kind : VariableKind) (type : TypeExpr) → label_of system code x ≡ None → variable_of code x ≡ Some (kind, type) → HasCells kind
    → (o : Option ℕ) → cell_of system [] x ≡ o → of_cell_number o (type_of_written system code type) ≡ Cell k p ty → IsEntry system code x k ty
entry_cell system code x k p ty kind type l v h None c e = absurd (no_cell_unknown k p ty e)
entry_cell system code x k p ty kind type l v h (Some j) c e =
    record { kind = kind; type = type; no_label = l; variable = v; has_cells = h; cell = c ∙ ap Some (same_number j k None p (type_of_written system code type) ty e); own = same_type j k None p (type_of_written system code type) ty e }

entry_kind : (system : System) (code : Module) (x k : ℕ) (p : Option ℕ) (ty : Ty) (kind : VariableKind) (type : TypeExpr) → label_of system code x ≡ None → variable_of code x ≡ Some (kind, type)
    → of_kind system code x type kind ≡ Cell k p ty → IsEntry system code x k ty
entry_kind system code x k p ty Variable type l v e = entry_cell system code x k p ty Variable type l v tt (cell_of system [] x) refl e
entry_kind system code x k p ty Input type l v e = entry_cell system code x k p ty Input type l v tt (cell_of system [] x) refl e
entry_kind system code x k p ty Output type l v e = entry_cell system code x k p ty Output type l v tt (cell_of system [] x) refl e
entry_kind system code x k p ty constant_kind type l v e = absurd (no_cell_constant _ k p _ ty e)

entry_variable : (system : System) (code : Module) (x k : ℕ) (p : Option ℕ) (ty : Ty) → label_of system code x ≡ None → (o : Option (VariableKind × TypeExpr)) → variable_of code x ≡ o
    → of_variable system code x o ≡ Cell k p ty → IsEntry system code x k ty
entry_variable system code x k p ty l None v e = absurd (no_cell_unknown k p ty e)
entry_variable system code x k p ty l (Some d) v e = entry_kind system code x k p ty d.0 d.1 l v e

entry_label : (system : System) (code : Module) (x k : ℕ) (p : Option ℕ) (ty : Ty) → (o : Option (ℕ × ℕ)) → label_of system code x ≡ o → by_label system code x o ≡ Cell k p ty → IsEntry system code x k ty
entry_label system code x k p ty (Some l) q e = absurd (no_cell_label system l k p ty e)
entry_label system code x k p ty None q e = entry_variable system code x k p ty q (variable_of code x) refl e

pub entry : (system : System) (code : Module) (x k : ℕ) (p : Option ℕ) (ty : Ty) → slice_get (names_over_cells system code) x ≡ Some (Cell k p ty) → IsEntry system code x k ty
entry system code x k p ty h =
    let y = mapped_at (meant_in system code) (counted 0 (length system.names)) x (Cell k p ty) h in
    let is : y.0 ≡ x = omega (arith, counted_at 0 (length system.names) x y.0 y.1) in
    entry_label system code x k p ty (label_of system code x) refl (ap (meant_in system code) (sym is) ∙ y.2)
