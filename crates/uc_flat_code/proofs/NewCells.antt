-- What each form of expression over cells reads of the new state.
use Rattle.std.proofs.Common.{◌≡◌, ℕ, List, [], ◌∷◌, ◌++◌, map, refl, sym, ap, ◌∙◌}
use Rattle.std.specs.Prelude.{Result, IfOk, Ok, Err}
use Rattle.std.specs.List.{flat_map}
use Rattle.uc_ops.specs.declared.op.Op.{Op}
use Rattle.uc_flat.specs.declared.expression.Expression.{Expression}
use Rattle.uc_flat.specs.declared.expression.Expression.TheOpen.Expression-F.{Cell as CellForm, Apply as ApplyForm}
use Rattle.uc_flat.specs.declared.expression.Expression.TheVariants.{Cell, Apply, rolls-Cell, rolls-Apply}
use Rattle.uc_flat.specs.declared.expression.Expression.TheFolds.{fold-roll-Expression}
use Rattle.uc_flat_code.specs.declared.once.Part.{Part}
use Rattle.uc_flat_code.specs.Once.{new_cell, new_form, new_cells}

pub new_cells_cell : (first k : ℕ) → new_cells first (Cell k) ≡ new_cell first k
unfolding new_cells
new_cells_cell first k = ap (new_cells first) (sym (rolls-Cell k)) ∙ fold-roll-Expression (List Part) (new_form first) (CellForm k)

all_parts : (f : Expression → List Part) (es : List Expression) → flat_map (λ ps. ps) (map f es) ≡ flat_map f es
all_parts f [] = refl
all_parts f (e ∷ es) = ap (λ ps. f e ++ ps) (all_parts f es)

pub new_cells_apply : (first : ℕ) (op : Op) (parts : List Expression) → new_cells first (Apply op parts) ≡ flat_map (new_cells first) parts
unfolding new_cells
new_cells_apply first op parts = ap (new_cells first) (sym (rolls-Apply op parts)) ∙ fold-roll-Expression (List Part) (new_form first) (ApplyForm op parts) ∙ all_parts (new_cells first) parts

if_ok : {E : Type 0} (r : Result (List Part) E) (p q : List Part) → p ≡ q → IfOk r (λ o. o ≡ p) → IfOk r (λ o. o ≡ q)
if_ok (Ok o) p q e h = h ∙ e
if_ok (Err x) p q e h = tt

pub cell_told : {E : Type 0} (first : ℕ) (e : Expression) (k : ℕ) (before : List Part) (r : Result (List Part) E) → e ≡ Cell k → IfOk r (λ all. all ≡ before ++ new_cell first k) → IfOk r (λ all. all ≡ before ++ new_cells first e)
cell_told first e k before r is h = if_ok r (before ++ new_cell first k) (before ++ new_cells first e) (ap (λ ps. before ++ ps) (sym (ap (new_cells first) is ∙ new_cells_cell first k))) h

pub apply_told : {E : Type 0} (first : ℕ) (e : Expression) (op : Op) (parts slice : List Expression) (before : List Part) (r : Result (List Part) E) → e ≡ Apply op parts → slice ≡ parts → IfOk r (λ all. all ≡ before ++ flat_map (new_cells first) slice) → IfOk r (λ all. all ≡ before ++ new_cells first e)
apply_told first e op parts slice before r is s h =
    if_ok r (before ++ flat_map (new_cells first) slice) (before ++ new_cells first e)
    (ap (λ ps. before ++ ps) (ap (flat_map (new_cells first)) s ∙ sym (ap (new_cells first) is ∙ new_cells_apply first op parts))) h
