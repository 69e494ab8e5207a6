-- Which cells each form of expression reads.
use Rattle.std.proofs.Common.{◌≡◌, ℕ, List, [], ◌∷◌, map, sym, ap, ◌∙◌, refl, Bool}
use Rattle.std.specs.Prelude.{◌&&◌, not, nat_eq}
use Rattle.std.specs.List.{list_any, list_all}
use Rattle.uc_ops.specs.declared.op.Op.{Op}
use Rattle.uc_flat.specs.declared.expression.Expression.{Expression}
use Rattle.uc_flat.specs.declared.expression.Expression.TheOpen.Expression-F.{Cell as CellForm, Apply as ApplyForm}
use Rattle.uc_flat.specs.declared.expression.Expression.TheVariants.{Cell, Apply, rolls-Cell, rolls-Apply}
use Rattle.uc_flat.specs.declared.expression.Expression.TheFolds.{fold-roll-Expression}
use Rattle.uc_flat_code.specs.Code.{spares, spares_form}

pub is_cell : (cells : List ℕ) (k : ℕ) → spares cells (Cell k) ≡ not (list_any (λ c. nat_eq c k) cells)
unfolding spares
is_cell cells k = ap (spares cells) (sym (rolls-Cell k)) ∙ fold-roll-Expression Bool (spares_form cells) (CellForm k)

all_parts : (f : Expression → Bool) (es : List Expression) → list_all (λ b. b) (map f es) ≡ list_all f es
all_parts f [] = refl
all_parts f (e ∷ es) = ap (λ b. f e && b) (all_parts f es)

pub is_apply : (cells : List ℕ) (op : Op) (parts : List Expression) → spares cells (Apply op parts) ≡ list_all (λ e. spares cells e) parts
unfolding spares
is_apply cells op parts = ap (spares cells) (sym (rolls-Apply op parts)) ∙ fold-roll-Expression Bool (spares_form cells) (ApplyForm op parts) ∙ all_parts (spares cells) parts

pub spares_cell : (cells : List ℕ) (e : Expression) (k : ℕ) (b : Bool) → e ≡ Cell k → b ≡ not (list_any (λ c. nat_eq c k) cells) → b ≡ spares cells e
spares_cell cells e k b is h = h ∙ sym (ap (spares cells) is ∙ is_cell cells k)

pub spares_apply : (cells : List ℕ) (e : Expression) (op : Op) (parts : List Expression) (b : Bool) → e ≡ Apply op parts → b ≡ list_all (λ x. spares cells x) parts → b ≡ spares cells e
spares_apply cells e op parts b is h = h ∙ sym (ap (spares cells) is ∙ is_apply cells op parts)
