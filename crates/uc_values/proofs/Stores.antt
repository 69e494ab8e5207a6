-- What an array holds, and what it becomes by a store, fits.
use Rattle.std.specs.Prelude.{◌≡◌, Bool, true, false, not, cond, ◌&&◌, ◌||◌, IsTrue, List, [], ◌∷◌}
use Rattle.std.specs.List.{list_all}
use Rattle.std.proofs.Common.{rules, refl, sym, ap, ◌∙◌, subst}
use Rattle.uc_values.specs.Values.{Exception, fits, same_scalar, lists, distinct, indices}
use Rattle.uc_values.specs.Arrays.{element_at, at, stored, store}
use Rattle.uc_values.proofs.Shapes.{and_true}
use Rattle.uc_values.proofs.Scalars.{same_scalar-sym, same_scalar-eq}
use Rattle.uc_values.proofs.Fitting.{IsArray-fits, fits-IsArray}
use Rattle.uc_values.specs.declared.ty.Ty.{Ty}
use Rattle.uc_values.specs.declared.ty.Ty.TheVariants.{Arr as Array}
use Rattle.uc_values.specs.declared.value.Value.{Value}
use Rattle.uc_values.specs.declared.value.Value.TheVariants.{Arr}
use Rattle.uc_values.specs.declared.value.Value.TheViews.{the_lemmas}

or_false : (a b : Bool) → (a || b) ≡ false → (a ≡ false) × (b ≡ false)
or_false true b h = cc
or_false false b h = (refl, h)

not_true : {a : Bool} → not a ≡ true → a ≡ false
not_true {a = true} h = cc
not_true {a = false} h = refl

both_true : (a b : Bool) → a ≡ true → b ≡ true → (a && b) ≡ true
both_true a b e f = ap (λ x. x && b) e ∙ f

choose : (P : Value → Type 0) (b : Bool) (v w : Value) → P v → P w → P (cond b v w)
choose P true v w p q = p
choose P false v w p q = q

element_at-fits : (e : Ty) (d : Value) (rows : List Exception) (i : Value) → IsTrue (fits e d) → list_all (λ row. fits e row.1) rows ≡ true → IsTrue (fits e (element_at d rows i))
element_at-fits e d [] i h a = h
element_at-fits e d (row ∷ rows) i h a =
    let b = and_true a in
    choose (λ v. IsTrue (fits e v)) (same_scalar row.0 i) row.1 (element_at d rows i) b.0 (element_at-fits e d rows i h b.1)

pub at-Arr : (d : Value) (rows : List Exception) (i : Value) → at (Arr d rows) i ≡ element_at d rows i
at-Arr d rows i = search (rules, the_lemmas)

pub store-Arr : (d : Value) (rows : List Exception) (i x : Value) → store (Arr d rows) i x ≡ Arr d (stored rows i x)
store-Arr d rows i x = search (rules, the_lemmas)

-- what an array holds fits the type of its elements
pub at-fits : (s e : Ty) (a i : Value) → IsTrue (fits (Array s e) a) → IsTrue (fits e (at a i))
at-fits s e a i h =
    let r = IsArray-fits s e a h in
    subst (λ v. IsTrue (fits e (at v i))) (sym r.is) (subst (λ v. IsTrue (fits e v)) (sym (at-Arr r.default r.rows i)) (element_at-fits e r.default r.rows i r.default_fits r.elements_fit))

choose_rows : (P : List Exception → Type 0) (b : Bool) (v w : List Exception) → P v → P w → P (cond b v w)
choose_rows P true v w p q = p
choose_rows P false v w p q = q

stored_indices : (s : Ty) (rows : List Exception) (i x : Value) → IsTrue (fits s i) → list_all (λ row. fits s row.0) rows ≡ true → list_all (λ row. fits s row.0) (stored rows i x) ≡ true
stored_indices s [] i x h a = both_true (fits s i) true h refl
stored_indices s (row ∷ rows) i x h a =
    let b = and_true a in
    choose_rows (λ rs. list_all (λ row. fits s row.0) rs ≡ true) (same_scalar row.0 i) ((row.0, x) ∷ rows) (row ∷ stored rows i x)
    (both_true (fits s row.0) (list_all (λ row. fits s row.0) rows) b.0 b.1) (both_true (fits s row.0) (list_all (λ row. fits s row.0) (stored rows i x)) b.0 (stored_indices s rows i x h b.1))

stored_elements : (e : Ty) (rows : List Exception) (i x : Value) → IsTrue (fits e x) → list_all (λ row. fits e row.1) rows ≡ true → list_all (λ row. fits e row.1) (stored rows i x) ≡ true
stored_elements e [] i x h a = both_true (fits e x) true h refl
stored_elements e (row ∷ rows) i x h a =
    let b = and_true a in
    choose_rows (λ rs. list_all (λ row. fits e row.1) rs ≡ true) (same_scalar row.0 i) ((row.0, x) ∷ rows) (row ∷ stored rows i x)
    (both_true (fits e x) (list_all (λ row. fits e row.1) rows) h b.1) (both_true (fits e row.1) (list_all (λ row. fits e row.1) (stored rows i x)) b.0 (stored_elements e rows i x h b.1))

-- which of two values of a test
by_truth : (P : Bool → Type 0) (b : Bool) → (b ≡ true → P true) → (b ≡ false → P false) → P b
by_truth P true t f = t refl
by_truth P false t f = f refl

-- only the index itself is listed beside what was listed
stored_lists : (rows : List Exception) (i x j : Value) → same_scalar i j ≡ false → lists (indices rows) j ≡ false → lists (indices (stored rows i x)) j ≡ false
stored_lists [] i x j d h = ap (λ b. b || false) d
stored_lists (row ∷ rows) i x j d h =
    let b = or_false (same_scalar row.0 j) (lists (indices rows) j) h in
    choose_rows (λ rs. lists (indices rs) j ≡ false) (same_scalar row.0 i) ((row.0, x) ∷ rows) (row ∷ stored rows i x) h
    (ap (λ y. y || lists (indices (stored rows i x)) j) b.0 ∙ stored_lists rows i x j d b.1)

-- a store keeps the indices distinct
stored_distinct : (rows : List Exception) (i x : Value) → distinct (indices rows) ≡ true → distinct (indices (stored rows i x)) ≡ true
stored_distinct [] i x h = refl
stored_distinct (row ∷ rows) i x h =
    let b = and_true h in
    by_truth (λ t. same_scalar row.0 i ≡ t → distinct (indices (cond t ((row.0, x) ∷ rows) (row ∷ stored rows i x))) ≡ true) (same_scalar row.0 i)
    (λ e t. h)
    (λ e t. ap (λ y. not y && distinct (indices (stored rows i x))) (stored_lists rows i x row.0 (same_scalar-sym i row.0 ∙ e) (not_true b.0)) ∙ stored_distinct rows i x b.1)
    refl

-- a store of what fits fits
pub store-fits : (s e : Ty) (a i x : Value) → IsTrue (fits (Array s e) a) → IsTrue (fits s i) → IsTrue (fits e x) → IsTrue (fits (Array s e) (store a i x))
store-fits s e a i x h f g =
    let r = IsArray-fits s e a h in
    subst (λ v. IsTrue (fits (Array s e) (store v i x))) (sym r.is)
    (subst (λ v. IsTrue (fits (Array s e) v)) (sym (store-Arr r.default r.rows i x))
    (fits-IsArray s e r.default (stored r.rows i x) r.default_fits (stored_indices s r.rows i x f r.indices_fit) (stored_elements e r.rows i x g r.elements_fit) (stored_distinct r.rows i x r.distinct)))

either : (b : Bool) (x y z : Value) → cond b x z ≡ cond b x (cond b y z)
either true x y z = refl
either false x y z = refl

by_two : (P : Bool → Type 0) (b : Bool) → (b ≡ true → P true) → (b ≡ false → P false) → P b
by_two P true t f = t refl
by_two P false t f = f refl

-- an index that is the same as another has what is stored there, and any other what it had
pub element_at-stored : (d : Value) (rows : List Exception) (i x j : Value) → element_at d (stored rows i x) j ≡ cond (same_scalar i j) x (element_at d rows j)
element_at-stored d [] i x j = refl
element_at-stored d (row ∷ rows) i x j =
    by_two (λ t. same_scalar row.0 i ≡ t → element_at d (cond t ((row.0, x) ∷ rows) (row ∷ stored rows i x)) j ≡ cond (same_scalar i j) x (element_at d (row ∷ rows) j)) (same_scalar row.0 i)
    (λ e u.
    let place : row.0 ≡ i = same_scalar-eq row.0 i e in
    subst (λ k. cond (same_scalar k j) x (element_at d rows j) ≡ cond (same_scalar i j) x (cond (same_scalar k j) row.1 (element_at d rows j))) (sym place)
    (either (same_scalar i j) x row.1 (element_at d rows j)))
    (λ e u.
    ap (λ v. cond (same_scalar row.0 j) row.1 v) (element_at-stored d rows i x j)
    ∙ by_two (λ t. same_scalar row.0 j ≡ t → cond t row.1 (cond (same_scalar i j) x (element_at d rows j)) ≡ cond (same_scalar i j) x (cond t row.1 (element_at d rows j))) (same_scalar row.0 j)
    (λ f w. sym (ap (λ b. cond b x row.1) (same_scalar-sym i j ∙ ap (λ k. same_scalar k i) (sym (same_scalar-eq row.0 j f)) ∙ e)))
    (λ f w. refl) refl)
    refl

pub at-store : (d : Value) (rows : List Exception) (i x j : Value) → at (store (Arr d rows) i x) j ≡ cond (same_scalar i j) x (at (Arr d rows) j)
at-store d rows i x j =
    ap (λ a. at a j) (store-Arr d rows i x) ∙ at-Arr d (stored rows i x) j ∙ element_at-stored d rows i x j ∙ ap (λ v. cond (same_scalar i j) x v) (sym (at-Arr d rows j))
