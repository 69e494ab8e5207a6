-- What each form of expression and of statement comes to.
use Rattle.std.proofs.Common.{◌≡◌, ℕ, ◌+◌, List, [], ◌∷◌, map, Some, None, refl, sym, ap, ◌∙◌, subst, slice_set}
use Rattle.std.specs.Prelude.{Bool as Truth, not, ◌++◌, if◌then◌else◌}
use Rattle.uc_values.specs.declared.ty.Ty.{Ty}
use Rattle.uc_values.specs.declared.value.Value.{Value}
use Rattle.uc_values.specs.Values.{TypedValue}
use Rattle.uc_ops.specs.declared.model.Model.{Model}
use Rattle.uc_ops.specs.declared.op.Op.{Op}
use Rattle.uc_ops.specs.Typing.{part_type, type_of as result_type}
use Rattle.uc_ops.specs.Meaning.{part, apply}
use Rattle.uc_flat.specs.declared.expression.Expression.{Expression}
use Rattle.uc_flat.specs.declared.expression.Expression.TheOpen.{Expression-F}
use Rattle.uc_flat.specs.declared.expression.Expression.TheOpen.Expression-F.{Cell as CellForm, Apply as ApplyForm}
use Rattle.uc_flat.specs.declared.expression.Expression.TheViews.{roll-Expression}
use Rattle.uc_flat.specs.declared.expression.Expression.TheVariants.{Cell, Apply, rolls-Cell, rolls-Apply}
use Rattle.uc_flat.specs.declared.expression.Expression.TheFolds.{fold-roll-Expression, ind-Expression, map-Expression}
use Rattle.uc_flat.specs.declared.statement.Statement.{Statement}
use Rattle.uc_flat.specs.declared.statement.Statement.TheOpen.Statement-F.{Assign as AssignForm, Havoc as HavocForm, Assume as AssumeForm, Assert as AssertForm, If as IfForm}
use Rattle.uc_flat.specs.declared.statement.Statement.TheViews.{roll-Statement}
use Rattle.uc_flat.specs.declared.statement.Statement.TheVariants.{Assign, Havoc, Assume, Assert, If}
use Rattle.uc_flat.specs.declared.statement.Statement.TheFolds.{fold-roll-Statement}
use Rattle.uc_flat.specs.Reading.{type_form, type_of, read_form, read, value_of, is_true}
use Rattle.uc_flat.specs.Drawn.{Drawn, free, listed_if, assigns, takes, assumes, asserts, either_arm, go_form, go, drawn}
use Rattle.uc_flat.specs.Counts.{draws, draws_form, all_draws}
use Rattle.uc_flat.specs.Running.{Placed, Execution, in_turn, chooses, run_form, runs}

pub type_cell : (types : List Ty) (k : ℕ) → type_of types (Cell k) ≡ part_type types k
unfolding type_of roll-Expression denote.Hole.Carrier.roll
type_cell types k = fold-roll-Expression Ty (type_form types) (CellForm k)

pub type_apply : (types : List Ty) (op : Op) (parts : List Expression) → type_of types (Apply op parts) ≡ result_type op (map (type_of types) parts)
unfolding type_of roll-Expression denote.Hole.Carrier.roll
type_apply types op parts = fold-roll-Expression Ty (type_form types) (ApplyForm op parts)

pub read_cell : (m : Model) (types : List Ty) (cells : List Value) (k : ℕ) → read m types cells (Cell k) ≡ record { ty = part_type types k; value = part cells k }
unfolding read roll-Expression denote.Hole.Carrier.roll
read_cell m types cells k = fold-roll-Expression TypedValue (read_form m types cells) (CellForm k)

abbrev pub types_in : List TypedValue → List Ty
types_in parts = map (λ p. p.ty) parts

abbrev pub values_in : List TypedValue → List Value
values_in parts = map (λ p. p.value) parts

pub read_apply : (m : Model) (types : List Ty) (cells : List Value) (op : Op) (parts : List Expression)
    → read m types cells (Apply op parts) ≡ record {
      ty = result_type op (types_in (map (read m types cells) parts));
      value = apply m op (types_in (map (read m types cells) parts)) (values_in (map (read m types cells) parts));
    }
unfolding read roll-Expression denote.Hole.Carrier.roll
read_apply m types cells op parts = fold-roll-Expression TypedValue (read_form m types cells) (ApplyForm op parts)

-- an expression is read with its type
abbrev Typed : Model → List Ty → List Value → Expression → Type 0
Typed m types cells e = (read m types cells e).ty ≡ type_of types e

abbrev Proved : Model → List Ty → List Value → Type 0
Proved m types cells = (e : Expression) × Typed m types cells e

parts_typed : (m : Model) (types : List Ty) (cells : List Value) (ps : List (Proved m types cells)) → types_in (map (read m types cells) (map (λ p. p.0) ps)) ≡ map (type_of types) (map (λ p. p.0) ps)
parts_typed m types cells [] = refl
parts_typed m types cells (p ∷ ps) = ap (λ t. t ∷ types_in (map (read m types cells) (map (λ q. q.0) ps))) p.1 ∙ ap (λ ts. type_of types p.0 ∷ ts) (parts_typed m types cells ps)

typed_cases : (m : Model) (types : List Ty) (cells : List Value) (y : Expression-F (Proved m types cells)) → Typed m types cells (roll-Expression (map-Expression (Proved m types cells) Expression (λ p. p.0) y))
typed_cases m types cells (CellForm k) = subst (Typed m types cells) (sym (rolls-Cell k)) (ap (λ (v : TypedValue). v.ty) (read_cell m types cells k) ∙ sym (type_cell types k))
typed_cases m types cells (ApplyForm op ps) =
    let xs = map (λ p. p.0) ps in
    subst (Typed m types cells) (sym (rolls-Apply op xs))
    (ap (λ (v : TypedValue). v.ty) (read_apply m types cells op xs) ∙ ap (result_type op) (parts_typed m types cells ps) ∙ sym (type_apply types op xs))

pub read-typed : (m : Model) (types : List Ty) (cells : List Value) (e : Expression) → Typed m types cells e
read-typed m types cells = ind-Expression (Typed m types cells) (λ x y is. subst (λ w. Typed m types cells (roll-Expression w)) is (typed_cases m types cells y))

types_read : (m : Model) (types : List Ty) (cells : List Value) (es : List Expression) → types_in (map (read m types cells) es) ≡ map (type_of types) es
types_read m types cells [] = refl
types_read m types cells (e ∷ es) = ap (λ t. t ∷ types_in (map (read m types cells) es)) (read-typed m types cells e) ∙ ap (λ ts. type_of types e ∷ ts) (types_read m types cells es)

values_read : (m : Model) (types : List Ty) (cells : List Value) (es : List Expression) → values_in (map (read m types cells) es) ≡ map (value_of m types cells) es
values_read m types cells [] = refl
values_read m types cells (e ∷ es) = ap (λ vs. value_of m types cells e ∷ vs) (values_read m types cells es)

pub value_cell : (m : Model) (types : List Ty) (cells : List Value) (k : ℕ) → value_of m types cells (Cell k) ≡ part cells k
value_cell m types cells k = ap (λ (v : TypedValue). v.value) (read_cell m types cells k)

-- an operation has its value on the types and the values of its parts
pub value_apply : (m : Model) (types : List Ty) (cells : List Value) (op : Op) (parts : List Expression)
    → value_of m types cells (Apply op parts) ≡ apply m op (map (type_of types) parts) (map (value_of m types cells) parts)
value_apply m types cells op parts =
    ap (λ (v : TypedValue). v.value) (read_apply m types cells op parts)
    ∙ ap (λ ts. apply m op ts (values_in (map (read m types cells) parts))) (types_read m types cells parts)
    ∙ ap (apply m op (map (type_of types) parts)) (values_read m types cells parts)

pub go_assign : (m : Model) (types : List Ty) (frees : List Value) (k : ℕ) (e : Expression) (r : Drawn) → go m types frees (Assign k e) r ≡ assigns m types k e r
unfolding go roll-Statement denote.Hole.Carrier.roll
go_assign m types frees k e r = ap (λ f. f r) (fold-roll-Statement (Drawn → Drawn) (go_form m types frees) (AssignForm k e))

pub go_havoc : (m : Model) (types : List Ty) (frees : List Value) (k : ℕ) (listed : Truth) (r : Drawn) → go m types frees (Havoc k listed) r ≡ takes listed (free frees (part_type types k) r.next) k r
unfolding go roll-Statement denote.Hole.Carrier.roll
go_havoc m types frees k listed r = ap (λ f. f r) (fold-roll-Statement (Drawn → Drawn) (go_form m types frees) (HavocForm k listed))

pub go_assume : (m : Model) (types : List Ty) (frees : List Value) (e : Expression) (r : Drawn) → go m types frees (Assume e) r ≡ assumes m types e r
unfolding go roll-Statement denote.Hole.Carrier.roll
go_assume m types frees e r = ap (λ f. f r) (fold-roll-Statement (Drawn → Drawn) (go_form m types frees) (AssumeForm e))

pub go_assert : (m : Model) (types : List Ty) (frees : List Value) (site : ℕ) (e : Expression) (r : Drawn) → go m types frees (Assert site e) r ≡ asserts m types site e r
unfolding go roll-Statement denote.Hole.Carrier.roll
go_assert m types frees site e r = ap (λ f. f r) (fold-roll-Statement (Drawn → Drawn) (go_form m types frees) (AssertForm site e))

pub go_if : (m : Model) (types : List Ty) (frees : List Value) (e : Expression) (xs ys : List Statement) (r : Drawn)
    → go m types frees (If e xs ys) r ≡ either_arm (is_true m types r.cells e) (drawn m types frees xs) (drawn m types frees ys) r
unfolding go drawn roll-Statement denote.Hole.Carrier.roll
go_if m types frees e xs ys r = ap (λ f. f r) (fold-roll-Statement (Drawn → Drawn) (go_form m types frees) (IfForm e xs ys))

pub draws_assign : (k : ℕ) (e : Expression) → draws (Assign k e) ≡ 0
unfolding draws roll-Statement denote.Hole.Carrier.roll
draws_assign k e = fold-roll-Statement ℕ draws_form (AssignForm k e)

pub draws_havoc : (k : ℕ) (listed : Truth) → draws (Havoc k listed) ≡ 1
unfolding draws roll-Statement denote.Hole.Carrier.roll
draws_havoc k listed = fold-roll-Statement ℕ draws_form (HavocForm k listed)

pub draws_assume : (e : Expression) → draws (Assume e) ≡ 0
unfolding draws roll-Statement denote.Hole.Carrier.roll
draws_assume e = fold-roll-Statement ℕ draws_form (AssumeForm e)

pub draws_assert : (site : ℕ) (e : Expression) → draws (Assert site e) ≡ 0
unfolding draws roll-Statement denote.Hole.Carrier.roll
draws_assert site e = fold-roll-Statement ℕ draws_form (AssertForm site e)

pub draws_if : (e : Expression) (xs ys : List Statement) → draws (If e xs ys) ≡ all_draws xs + all_draws ys
unfolding draws roll-Statement denote.Hole.Carrier.roll
draws_if e xs ys = fold-roll-Statement ℕ draws_form (IfForm e xs ys)

pub runs_assign : (m : Model) (types : List Ty) (k : ℕ) (e : Expression) (p : Placed)
    → runs m types (Assign k e) p ≡ Some (record { cells = slice_set p.cells k (value_of m types p.cells e); left = p.left; others = p.others; sites = p.sites })
unfolding runs roll-Statement denote.Hole.Carrier.roll
runs_assign m types k e p = ap (λ f. f p) (fold-roll-Statement Execution (run_form m types) (AssignForm k e))

pub runs_havoc : (m : Model) (types : List Ty) (k : ℕ) (listed : Truth) (p : Placed) → runs m types (Havoc k listed) p ≡ chooses listed (part_type types k) k p
unfolding runs roll-Statement denote.Hole.Carrier.roll
runs_havoc m types k listed p = ap (λ f. f p) (fold-roll-Statement Execution (run_form m types) (HavocForm k listed))

pub runs_assume : (m : Model) (types : List Ty) (e : Expression) (p : Placed) → runs m types (Assume e) p ≡ (if is_true m types p.cells e then Some p else None)
unfolding runs roll-Statement denote.Hole.Carrier.roll
runs_assume m types e p = ap (λ f. f p) (fold-roll-Statement Execution (run_form m types) (AssumeForm e))

pub runs_assert : (m : Model) (types : List Ty) (site : ℕ) (e : Expression) (p : Placed)
    → runs m types (Assert site e) p ≡ Some (record { cells = p.cells; left = p.left; others = p.others; sites = p.sites ++ listed_if (not (is_true m types p.cells e)) site })
unfolding runs roll-Statement denote.Hole.Carrier.roll
runs_assert m types site e p = ap (λ f. f p) (fold-roll-Statement Execution (run_form m types) (AssertForm site e))

pub runs_if : (m : Model) (types : List Ty) (e : Expression) (xs ys : List Statement) (p : Placed)
    → runs m types (If e xs ys) p ≡ in_turn (if is_true m types p.cells e then map (runs m types) xs else map (runs m types) ys) p
unfolding runs roll-Statement denote.Hole.Carrier.roll
runs_if m types e xs ys p = ap (λ f. f p) (fold-roll-Statement Execution (run_form m types) (IfForm e xs ys))
