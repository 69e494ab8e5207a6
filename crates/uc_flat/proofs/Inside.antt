-- What stands inside expressions and code.
use Rattle.std.proofs.Common.{◌≡◌, ℕ, ◌<◌, List, [], ◌∷◌, length, zero, suc, refl, sym, subst, arith, get_or}
use Rattle.std.specs.Prelude.{Contains}
use Rattle.uc_values.specs.declared.ty.Ty.{Ty}
use Rattle.uc_ops.specs.declared.op.Op.{Op}
use Rattle.uc_flat.specs.declared.expression.Expression.{Expression}
use Rattle.uc_flat.specs.declared.expression.Expression.TheVariants.{Apply}
use Rattle.uc_flat.specs.declared.statement.Statement.{Statement}
use Rattle.uc_flat.specs.declared.statement.Statement.TheVariants.{If}
use Rattle.uc_flat.specs.Fine.{IsWithin, itself, deeper, IsTyped, IsInside, outermost, in_first, in_second, AreFine, ReadsBelow, CodeReadsBelow}

pub contains_first : {A : Type 0} (x : A) (xs : List A) → Contains (x ∷ xs) x
contains_first x xs = (0, omega arith, refl)

pub contains_later : {A : Type 0} (x y : A) (xs : List A) → Contains xs y → Contains (x ∷ xs) y
contains_later x y xs c = (suc c.0, omega (arith, c.1), c.2)

pub contains_at : {A : Type 0} (xs : List A) (k : ℕ) (x : A) → k < length xs → x ≡ get_or xs k x → Contains xs x
contains_at xs k x l i = (k, l, sym i)

one_at : {A : Type 0} (x y : A) (k : ℕ) → k < length (x ∷ []) → get_or (x ∷ []) k y ≡ y → x ≡ y
one_at x y zero l e = e
one_at x y (suc k) l e = absurd (omega (arith, l))

pub contains_one : {A : Type 0} (x y : A) → Contains (x ∷ []) y → x ≡ y
contains_one x y c = one_at x y c.0 c.1 c.2

-- what stands inside a part stands inside the whole
pub within_whole : (e part : Expression) → IsWithin e part → (x : Expression) → IsWithin part x → IsWithin e x
within_whole e part h x itself = h
within_whole e part h x (deeper op parts y d c) = deeper op parts x (within_whole e part h (Apply op parts) d) c

pub part_within : (e : Expression) (op : Op) (parts : List Expression) (part : Expression) → e ≡ Apply op parts → Contains parts part → IsWithin e part
part_within e op parts part i c = deeper op parts part (subst (IsWithin e) i itself) c

pub typed_part : (types : List Ty) (e part : Expression) → IsWithin e part → IsTyped types e → IsTyped types part
typed_part types e part w h = record { cells = λ k d. h.cells k (within_whole e part w _ d); parts = λ op ps d. h.parts op ps (within_whole e part w _ d) }

pub reads_part : (n : ℕ) (e part : Expression) → IsWithin e part → ReadsBelow n e → ReadsBelow n part
reads_part n e part w h k ty ps d = h k ty ps (within_whole e part w _ d)

-- what stands inside code that stands inside other code
pub inside_whole : (a b : List Statement) → ((s : Statement) → Contains a s → IsInside b s) → (s : Statement) → IsInside a s → IsInside b s
inside_whole a b f s (outermost x c) = f s c
inside_whole a b f s (in_first e xs ys x d c) = in_first e xs ys s (inside_whole a b f (If e xs ys) d) c
inside_whole a b f s (in_second e xs ys x d c) = in_second e xs ys s (inside_whole a b f (If e xs ys) d) c

pub fine_within : (types : List Ty) (a b : List Statement) → ((s : Statement) → Contains a s → IsInside b s) → AreFine types b → AreFine types a
fine_within types a b f h = record {
  assigns = λ k e d. h.assigns k e (inside_whole a b f _ d);
  havocs = λ k l d. h.havocs k l (inside_whole a b f _ d);
  assumes = λ e d. h.assumes e (inside_whole a b f _ d);
  asserts = λ n e d. h.asserts n e (inside_whole a b f _ d);
  decides = λ e xs ys d. h.decides e xs ys (inside_whole a b f _ d);
}

pub reads_within : (n : ℕ) (a b : List Statement) → ((s : Statement) → Contains a s → IsInside b s) → CodeReadsBelow n b → CodeReadsBelow n a
reads_within n a b f h = record {
  assigns = λ k e d. h.assigns k e (inside_whole a b f _ d);
  assumes = λ e d. h.assumes e (inside_whole a b f _ d);
  asserts = λ s e d. h.asserts s e (inside_whole a b f _ d);
  decides = λ e xs ys d. h.decides e xs ys (inside_whole a b f _ d);
}

pub one_inside : (x : Statement) → IsInside (x ∷ []) x
one_inside x = outermost x (contains_first x [])

-- a statement of code, by itself
pub one_of : (code : List Statement) (x : Statement) → Contains code x → (s : Statement) → Contains (x ∷ []) s → IsInside code s
one_of code x c s d = subst (IsInside code) (contains_one x s d) (outermost x c)

pub rest_of : (x : Statement) (xs : List Statement) → (s : Statement) → Contains xs s → IsInside (x ∷ xs) s
rest_of x xs s c = outermost s (contains_later x s xs c)

-- the arms of a conditional
pub first_of : (e : Expression) (xs ys : List Statement) → (s : Statement) → Contains xs s → IsInside (If e xs ys ∷ []) s
first_of e xs ys s c = in_first e xs ys s (one_inside (If e xs ys)) c

pub second_of : (e : Expression) (xs ys : List Statement) → (s : Statement) → Contains ys s → IsInside (If e xs ys ∷ []) s
second_of e xs ys s c = in_second e xs ys s (one_inside (If e xs ys)) c
