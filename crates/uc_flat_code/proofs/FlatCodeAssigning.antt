-- Fields in order, and targets from left to right, as far as a loop has come.
use Rattle.std.proofs.Common.{◌≡◌, ℕ, zero, suc, ◌+◌, ◌<◌, ◌≤◌, List, [], ◌∷◌, ◌++◌, length, drop, get_or, refl, sym, ap, ◌∙◌, Option, Some, None, arith}
use Rattle.std.specs.Prelude.{if◌then◌else◌, Err, slice_set}
use Rattle.std.specs.Option.{option_map, option_and_then}
use Rattle.std.proofs.lemmas.List.{drop_all}
use Rattle.uc_syntax.specs.declared.expression.Expr.{Expr}
use Rattle.uc_syntax.specs.declared.statement.Target.{Target}
use Rattle.uc_values.specs.declared.ty.Field.{Field}
use Rattle.uc_values.specs.declared.ty.Ty.{Ty}
use Rattle.uc_flat.specs.declared.expression.Expression.{Expression}
use Rattle.uc_flat.specs.declared.statement.Statement.{Statement}
use Rattle.uc_flat_expressions.specs.declared.typed.Meant.{Meant}
use Rattle.uc_flat_expressions.specs.declared.typed.FlatError.{FlatError}
use Rattle.uc_flat_expressions.specs.declared.typed.FlatError.TheVariants.{NoMemory, NotBuilt}
use Rattle.uc_flat_expressions.specs.Answers.{IsAnswer}
use Rattle.uc_flat_expressions.specs.Expressions.{flat_of}
use Rattle.uc_flat_code.specs.declared.writing.Writing.{Writing}
use Rattle.uc_flat_code.specs.declared.writing.Written.{Written}
use Rattle.uc_flat_code.specs.Code.{MayBe, written, in_order, field_in, fields_in, assigned, spares, one_assigned, with_cell, each_assigned, assign_of}

item_at : {A : Type 0} (xs : List A) (k : ℕ) (x : A) → k < length xs → x ≡ get_or xs k x → drop k xs ≡ x ∷ drop (k + 1) xs
item_at [] k x l e = absurd (omega (arith, l))
item_at (y ∷ xs) zero x l e = ap (λ z. z ∷ xs) (sym e)
item_at (y ∷ xs) (suc k) x l e = item_at xs k x (omega (arith, l)) e ∙ ap (λ n. x ∷ drop n (y ∷ xs)) (moved k)
  where
    moved : (a : ℕ) → suc (a + 1) ≡ suc a + 1
    moved a = omega arith

any_item : {A : Type 0} (xs : List A) (k : ℕ) → k < length xs → (x : A) × (drop k xs ≡ x ∷ drop (k + 1) xs)
any_item [] k l = absurd (omega (arith, l))
any_item (y ∷ xs) zero l = (y, refl)
any_item (y ∷ xs) (suc k) l = let r = any_item xs k (omega (arith, l)) in (r.0, r.1 ∙ ap (λ n. r.0 ∷ drop n (y ∷ xs)) (moved k))
  where
    moved : (a : ℕ) → suc (a + 1) ≡ suc a + 1
    moved a = omega arith

regrouped : {A : Type 0} (xs ys zs : List A) → (xs ++ ys) ++ zs ≡ xs ++ (ys ++ zs)
regrouped [] ys zs = refl
regrouped (x ∷ xs) ys zs = ap (λ us. x ∷ us) (regrouped xs ys zs)

-- one field more
pub fields_step : (whole e : Expression) (fields : List (Field Ty)) (all more goal : List Expression) (k : ℕ) → k < length fields → more ≡ all ++ e ∷ [] → Some (field_in whole k) ≡ Some e → all ++ fields_in whole k (drop k fields) ≡ goal
    → more ++ fields_in whole (k + 1) (drop (k + 1) fields) ≡ goal
unfolding fields_in
fields_step whole e fields all more goal k l m is h =
    let r = any_item fields k l in
    ap (λ xs. xs ++ fields_in whole (k + 1) (drop (k + 1) fields)) m
    ∙ regrouped all (e ∷ []) (fields_in whole (k + 1) (drop (k + 1) fields))
    ∙ ap (λ x. all ++ x ∷ fields_in whole (k + 1) (drop (k + 1) fields)) (sym (same (field_in whole k) e is))
    ∙ ap (λ ds. all ++ fields_in whole k ds) (sym r.1)
    ∙ h
  where
    same : (x y : Expression) → Some x ≡ Some y → x ≡ y
    same x y q = cc

pub set_past : (xs : List Expression) (k : ℕ) (v : Expression) → length xs ≤ k → xs ≡ slice_set xs k v
set_past [] k v h = refl
set_past (x ∷ xs) zero v h = absurd (omega (arith, h))
set_past (x ∷ xs) (suc k) v h = ap (λ ys. x ∷ ys) (set_past xs k v (omega (arith, h)))

-- ---- assignments

abbrev pub left_of : List Meant → Writing → List ℕ → List Target → List Expr → MayBe
left_of names w before ts es = in_order (each_assigned names w before ts es)

pub uneven_none : (names : List Meant) (w : Writing) (before : List ℕ) (ts : List Target) (es : List Expr) → (length ts ≡ length es → ⊥) → left_of names w before ts es ≡ None
unfolding each_assigned
uneven_none names w before [] [] h = absurd (h refl)
uneven_none names w before [] (e ∷ es) h = refl
uneven_none names w before (t ∷ ts) [] h = refl
uneven_none names w before (t ∷ ts) (e ∷ es) h =
    ap (λ o. option_and_then (λ x. option_map (λ xs. x ++ xs) o) (one_assigned names w before t e)) (uneven_none names w (with_cell before (written names w t.name t.is_primed)) ts es (λ q. h (omega (arith, q))))
    ∙ nothing (one_assigned names w before t e)
  where
    nothing : (o : MayBe) → option_and_then (λ x. option_map (λ xs. x ++ xs) None) o ≡ None
    nothing None = refl
    nothing (Some x) = refl

-- the statements of a target and of those behind it
next_is : (names : List Meant) (w : Writing) (targets : List Target) (sources : List Expr) (before : List ℕ) (k : ℕ) (t : Target) (e : Expr) → k < length targets → length targets ≡ length sources → t ≡ get_or targets k t → e ≡ get_or sources k e
    → left_of names w before (drop k targets) (drop k sources) ≡ option_and_then (λ x. option_map (λ xs. x ++ xs) (left_of names w (with_cell before (written names w t.name t.is_primed)) (drop (k + 1) targets) (drop (k + 1) sources))) (one_assigned names w before t e)
unfolding each_assigned
next_is names w targets sources before k t e l even tt' ee =
    ap (λ ts. left_of names w before ts (drop k sources)) (item_at targets k t l tt')
    ∙ ap (λ es. left_of names w before (t ∷ drop (k + 1) targets) es) (item_at sources k e (omega (arith, l, even)) ee)

none_map : {A B : Type 0} (f : A → B) (o : Option A) → o ≡ None → option_map f o ≡ None
none_map f o h = ap (option_map f) h

-- where a target, or its source, has no form
pub target_err : (names : List Meant) (w : Writing) (targets : List Target) (sources : List Expr) (before : List ℕ) (all : List Statement) (k : ℕ) (t : Target) (err : FlatError) → k < length targets → length targets ≡ length sources → t ≡ get_or targets k t
    → assign_of names w targets sources ≡ option_map (λ xs. all ++ xs) (left_of names w before (drop k targets) (drop k sources)) → IsAnswer {A = Written} (written names w t.name t.is_primed) (Err err) → IsAnswer {A = List Statement} (assign_of names w targets sources) (Err err)
target_err names w targets sources before all k t NoMemory l even at inv h = tt
target_err names w targets sources before all k t NotBuilt l even at inv h =
    let e = source_at sources k (omega (arith, l, even)) in
    inv ∙ none_map (λ xs. all ++ xs) (left_of names w before (drop k targets) (drop k sources))
    (next_is names w targets sources before k t e.0 l even at e.1
    ∙ ap (option_and_then (λ x. option_map (λ xs. x ++ xs) (left_of names w (with_cell before (written names w t.name t.is_primed)) (drop (k + 1) targets) (drop (k + 1) sources))))
    (ap (option_and_then (λ k'. option_and_then (λ x. if spares before x.expression then assigned k' t.parts x else None) (flat_of names e.0))) h))
  where
    source_at : (es : List Expr) (j : ℕ) → j < length es → (e : Expr) × (e ≡ get_or es j e)
    source_at [] j m = absurd (omega (arith, m))
    source_at (e ∷ es) zero m = (e, refl)
    source_at (e ∷ es) (suc j) m = source_at es j (omega (arith, m))

pub source_err : (names : List Meant) (w : Writing) (targets : List Target) (sources : List Expr) (before : List ℕ) (all : List Statement) (k : ℕ) (t : Target) (e : Expr) (at : Written) (err : FlatError) → k < length targets → length targets ≡ length sources
    → t ≡ get_or targets k t → e ≡ get_or sources k e → assign_of names w targets sources ≡ option_map (λ xs. all ++ xs) (left_of names w before (drop k targets) (drop k sources)) → written names w t.name t.is_primed ≡ Some at
    → IsAnswer {A = List Statement} (option_and_then (λ x. if spares before x.expression then assigned at t.parts x else None) (flat_of names e)) (Err err) → IsAnswer {A = List Statement} (assign_of names w targets sources) (Err err)
source_err names w targets sources before all k t e at NoMemory l even tt' ee inv is h = tt
source_err names w targets sources before all k t e at NotBuilt l even tt' ee inv is h =
    inv ∙ none_map (λ xs. all ++ xs) (left_of names w before (drop k targets) (drop k sources))
    (next_is names w targets sources before k t e l even tt' ee
    ∙ ap (option_and_then (λ x. option_map (λ xs. x ++ xs) (left_of names w (with_cell before (written names w t.name t.is_primed)) (drop (k + 1) targets) (drop (k + 1) sources))))
    (ap (option_and_then (λ k'. option_and_then (λ x. if spares before x.expression then assigned k' t.parts x else None) (flat_of names e))) is ∙ h))

more_map : (all more : List Statement) (o : MayBe) → option_map (λ xs. all ++ xs) (option_map (λ xs. more ++ xs) o) ≡ option_map (λ xs. (all ++ more) ++ xs) o
more_map all more None = refl
more_map all more (Some xs) = ap Some (sym (regrouped all more xs))

-- one target more
pub target_step : (names : List Meant) (w : Writing) (targets : List Target) (sources : List Expr) (before cells : List ℕ) (all more whole : List Statement) (k : ℕ) (t : Target) (e : Expr) (at : Written) → k < length targets → length targets ≡ length sources
    → t ≡ get_or targets k t → e ≡ get_or sources k e → assign_of names w targets sources ≡ option_map (λ xs. all ++ xs) (left_of names w before (drop k targets) (drop k sources)) → written names w t.name t.is_primed ≡ Some at
    → option_and_then (λ x. if spares before x.expression then assigned at t.parts x else None) (flat_of names e) ≡ Some more → whole ≡ all ++ more → cells ≡ before ++ at.cell ∷ []
    → assign_of names w targets sources ≡ option_map (λ xs. whole ++ xs) (left_of names w cells (drop (k + 1) targets) (drop (k + 1) sources))
target_step names w targets sources before cells all more whole k t e at l even tt' ee inv is h m c =
    inv
    ∙ ap (option_map (λ xs. all ++ xs))
    (next_is names w targets sources before k t e l even tt' ee
    ∙ ap (λ o. option_and_then (λ x. option_map (λ xs. x ++ xs) (left_of names w (with_cell before o) (drop (k + 1) targets) (drop (k + 1) sources))) (one_assigned names w before t e)) is
    ∙ ap (λ cs. option_and_then (λ x. option_map (λ xs. x ++ xs) (left_of names w cs (drop (k + 1) targets) (drop (k + 1) sources))) (one_assigned names w before t e)) (sym c)
    ∙ ap (option_and_then (λ x. option_map (λ xs. x ++ xs) (left_of names w cells (drop (k + 1) targets) (drop (k + 1) sources))))
    (ap (option_and_then (λ k'. option_and_then (λ x. if spares before x.expression then assigned k' t.parts x else None) (flat_of names e))) is ∙ h))
    ∙ more_map all more (left_of names w cells (drop (k + 1) targets) (drop (k + 1) sources))
    ∙ ap (λ zs. option_map (λ xs. zs ++ xs) (left_of names w cells (drop (k + 1) targets) (drop (k + 1) sources))) (sym m)

pub targets_done : (names : List Meant) (w : Writing) (targets : List Target) (sources : List Expr) (before : List ℕ) (all : List Statement) (k : ℕ) → length targets ≤ k → length targets ≡ length sources
    → assign_of names w targets sources ≡ option_map (λ xs. all ++ xs) (left_of names w before (drop k targets) (drop k sources)) → assign_of names w targets sources ≡ Some all
unfolding each_assigned
targets_done names w targets sources before all k l even inv =
    inv
    ∙ ap (λ ts. option_map (λ xs. all ++ xs) (left_of names w before ts (drop k sources))) (drop_all k targets l)
    ∙ ap (λ es. option_map (λ xs. all ++ xs) (left_of names w before [] es)) (drop_all k sources (omega (arith, l, even)))
    ∙ ap Some (whole all)
  where
    whole : (xs : List Statement) → xs ++ [] ≡ xs
    whole [] = refl
    whole (x ∷ xs) = ap (λ ys. x ∷ ys) (whole xs)

pub targets_begin : (names : List Meant) (w : Writing) (targets : List Target) (sources : List Expr) → assign_of names w targets sources ≡ option_map (λ xs. [] ++ xs) (left_of names w [] (drop 0 targets) (drop 0 sources))
targets_begin names w targets sources = begun (assign_of names w targets sources)
  where
    begun : (o : MayBe) → o ≡ option_map (λ xs. [] ++ xs) o
    begun None = refl
    begun (Some xs) = refl
