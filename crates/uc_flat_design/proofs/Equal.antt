-- Values are equal where their parts are.
use Rattle.std.proofs.Common.{◌≡◌, ℕ, zero, suc, ◌+◌, ◌<◌, ◌≤◌, List, [], ◌∷◌, length, refl, sym, ap, ◌∙◌, subst, true, false, Bool, Some, cond, arith}
use Rattle.std.specs.Prelude.{◌||◌, ◌&&◌, not, nat_eq, if◌then◌else◌, unwrap_or, slice_get, slice_index_or}
use Rattle.std.specs.List.{list_any, position_from}
use Rattle.std.proofs.lemmas.Bool.Decides.{nat_tests}
use Rattle.uc_values.specs.declared.ty.Field.{Field}
use Rattle.uc_values.specs.declared.ty.Ty.{Ty}
use Rattle.uc_values.specs.declared.value.Value.{Value}
use Rattle.uc_values.specs.declared.value.Value.TheVariants.{Bool as truth, Rec}
use Rattle.uc_values.specs.Values.{fits}
use Rattle.uc_values.proofs.Shapes.{and_true}
use Rattle.uc_meaning.specs.Expressions.{Reading, reads, fields_of, field_type, field_reading}
use Rattle.uc_meaning.specs.Steps.{part_reading, has_part, is_prefix}
use Rattle.uc_flat_code.specs.Code.{are_different}
use Rattle.uc_flat_design.proofs.Fields.{name_is, has_field, place_of, is_nat, field_of_fit, field_fits, IsPath}

-- ---- fields of different names

any_at : (test : Field Ty → Bool) (fs : List (Field Ty)) (k : ℕ) (d : Field Ty) → slice_get fs k ≡ Some d → test d ≡ true → list_any test fs ≡ true
any_at test [] k d h e = absurd (cc)
any_at test (x ∷ fs) zero d h e = ap (λ b. b || list_any test fs) (ap test (same x d h) ∙ e)
  where
    same : (a b : Field Ty) → Some a ≡ Some b → a ≡ b
    same a b q = cc
any_at test (x ∷ fs) (suc k) d h e = or_true (test x) (list_any test fs) (any_at test fs k d h e)
  where
    or_true : (a b : Bool) → b ≡ true → (a || b) ≡ true
    or_true true b q = refl
    or_true false b q = q

same_field : (a b : Field Ty) → Some a ≡ Some b → a ≡ b
same_field a b q = cc

same_nat : (n : ℕ) → nat_eq n n ≡ true
same_nat n = grind (arith, nat_tests)

not_true : (b : Bool) → not b ≡ true → b ≡ true → ⊥
not_true true h e = cc
not_true false h e = cc

-- a field stands at the first place of its name
place_is : (fs : List (Field Ty)) (k j : ℕ) (d : Field Ty) → are_different fs ≡ true → slice_get fs k ≡ Some d → position_from (name_is d.name) j fs ≡ Some (k + j)
unfolding are_different
place_is [] k j d h e = absurd (cc)
place_is (x ∷ fs) zero j d h e =
    ap (λ b. cond b (Some j) (position_from (name_is d.name) (j + 1) fs)) (ap (λ (y : Field Ty). nat_eq y.name d.name) (same_field x d e) ∙ same_nat d.name) ∙ ap Some (omega arith)
place_is (x ∷ fs) (suc k) j d h e =
    let b = and_true h in
    ap (λ c. cond c (Some j) (position_from (name_is d.name) (j + 1) fs)) (other (nat_eq x.name d.name) refl b.0) ∙ place_is fs k (j + 1) d b.1 e ∙ ap Some (omega arith)
  where
    other : (c : Bool) → nat_eq x.name d.name ≡ c → not (list_any (λ (f : Field Ty). nat_eq f.name x.name) fs) ≡ true → c ≡ false
    other false q g = refl
    other true q g = absurd (not_true (list_any (λ (f : Field Ty). nat_eq f.name x.name) fs) g (any_at (λ (f : Field Ty). nat_eq f.name x.name) fs k d e (ap (λ n. nat_eq d.name n) (is_nat x.name d.name q) ∙ same_nat d.name)))

-- ---- paths that are given

-- a path leads into one of these, or one of these into it
unfoldable pub meets : List (List ℕ) → List ℕ → Bool
meets [] q = false
meets (p ∷ ps) q = (is_prefix p q || is_prefix q p) || meets ps q

-- Two values have the same parts behind these paths, of which none is longer than n.
abbrev pub AreGiven : ℕ → Ty → Value → Value → List (List ℕ) → Type 0
AreGiven n t v w [] = Unit {0}
AreGiven n t v w (p ∷ ps) = (length p ≤ n) × IsPath t p × (part_reading (reads t v) p ≡ part_reading (reads t w) p) × AreGiven n t v w ps

has_empty : List (List ℕ) → Bool
has_empty [] = false
has_empty ([] ∷ ps) = true
has_empty ((f ∷ p) ∷ ps) = has_empty ps

-- what follows a field in the paths that begin with it
after : ℕ → List (List ℕ) → List (List ℕ)
after f [] = []
after f ([] ∷ ps) = after f ps
after f ((g ∷ p) ∷ ps) = if nat_eq g f then p ∷ after f ps else after f ps

nat_flip : (a b : ℕ) → nat_eq a b ≡ nat_eq b a
nat_flip a b = grind (arith, nat_tests)

either_false : (a b : Bool) → (a || b) ≡ false → (a ≡ false) × (b ≡ false)
either_false true b h = absurd (cc)
either_false false b h = (refl, h)

after_meets : (f : ℕ) (ps : List (List ℕ)) (q : List ℕ) → has_empty ps ≡ false → meets (after f ps) q ≡ false → meets ps (f ∷ q) ≡ false
unfolding meets is_prefix after has_empty
after_meets f [] q e h = refl
after_meets f ([] ∷ ps) q e h = absurd (cc)
after_meets f ((g ∷ p) ∷ ps) q e h = by_test (nat_eq g f) refl (λ z. after_meets f ps q e z) h
  where
    by_test : (b : Bool) → nat_eq g f ≡ b → (meets (after f ps) q ≡ false → meets ps (f ∷ q) ≡ false) → meets (if b then p ∷ after f ps else after f ps) q ≡ false
        → ((nat_eq g f && is_prefix p q || nat_eq f g && is_prefix q p) || meets ps (f ∷ q)) ≡ false
    by_test false t rest k =
        ap (λ b. (b && is_prefix p q || nat_eq f g && is_prefix q p) || meets ps (f ∷ q)) t
        ∙ ap (λ b. (b && is_prefix q p) || meets ps (f ∷ q)) (nat_flip f g ∙ t)
        ∙ rest k
    by_test true t rest k =
        let a = either_false (is_prefix p q || is_prefix q p) (meets (after f ps) q) k in
        let c = either_false (is_prefix p q) (is_prefix q p) a.0 in
        ap (λ b. (b && is_prefix p q || nat_eq f g && is_prefix q p) || meets ps (f ∷ q)) t
        ∙ ap (λ b. (is_prefix p q || b && is_prefix q p) || meets ps (f ∷ q)) (nat_flip f g ∙ t)
        ∙ ap (λ b. (b || is_prefix q p) || meets ps (f ∷ q)) c.0
        ∙ ap (λ b. b || meets ps (f ∷ q)) c.1
        ∙ rest a.1

after_given : (n : ℕ) (t : Ty) (v w : Value) (f : ℕ) (ps : List (List ℕ)) → AreGiven (suc n) t v w ps
    → AreGiven n (field_type t f) (field_reading (reads t v) f).value (field_reading (reads t w) f).value (after f ps)
unfolding part_reading after
after_given n t v w f [] h = tt
after_given n t v w f ([] ∷ ps) h = after_given n t v w f ps h.3
after_given n t v w f ((g ∷ p) ∷ ps) h = by_test (nat_eq g f) refl (after_given n t v w f ps h.3)
  where
    Deeper : List (List ℕ) → Type 0
    Deeper qs = AreGiven n (field_type t f) (field_reading (reads t v) f).value (field_reading (reads t w) f).value qs

    by_test : (b : Bool) → nat_eq g f ≡ b → Deeper (after f ps) → Deeper (if b then p ∷ after f ps else after f ps)
    by_test false e rest = rest
    by_test true e rest =
        let is = is_nat g f e in
        (omega (arith, h.0), subst (λ x. IsPath (field_type t x) p) is h.1.2, subst (λ x. part_reading (field_reading (reads t v) x) p ≡ part_reading (field_reading (reads t w) x) p) is h.2, rest)

-- the whole values are given
empty_given : (n : ℕ) (t : Ty) (v w : Value) (ps : List (List ℕ)) → has_empty ps ≡ true → AreGiven n t v w ps → v ≡ w
unfolding part_reading has_empty
empty_given n t v w [] e h = absurd (cc)
empty_given n t v w ([] ∷ ps) e h = ap (λ (r : Reading). r.value) h.2
empty_given n t v w ((f ∷ p) ∷ ps) e h = empty_given n t v w ps e h.3

same_values : (xs ys : List Value) → length xs ≡ length ys → ((k : ℕ) → k < length xs → slice_index_or xs k (truth false) ≡ slice_index_or ys k (truth false)) → xs ≡ ys
same_values [] [] e h = refl
same_values [] (y ∷ ys) e h = absurd (omega (arith, e))
same_values (x ∷ xs) [] e h = absurd (omega (arith, e))
same_values (x ∷ xs) (y ∷ ys) e h = ap (λ z. z ∷ xs) (h 0 (omega arith)) ∙ ap (λ zs. y ∷ zs) (same_values xs ys (omega (arith, e)) (λ k l. h (suc k) (omega (arith, l))))

item_at : (fs : List (Field Ty)) (k : ℕ) → k < length fs → (d : Field Ty) × (slice_get fs k ≡ Some d)
item_at [] k l = absurd (omega (arith, l))
item_at (d ∷ fs) zero l = (d, refl)
item_at (d ∷ fs) (suc k) l = item_at fs k (omega (arith, l))

-- records with the same fields
same_records : (t : Ty) (v w : Value) (f : ℕ) → fits t v ≡ true → fits t w ≡ true → are_different (fields_of t) ≡ true → has_field t f ≡ true
    → ((g : ℕ) → has_field t g ≡ true → (field_reading (reads t v) g).value ≡ (field_reading (reads t w) g).value) → v ≡ w
same_records t v w f a b different has each =
    let i = field_of_fit t v f a has in
    let j = field_of_fit t w f b has in
    let at : (k : ℕ) → k < length i.parts → slice_index_or i.parts k (truth false) ≡ slice_index_or j.parts k (truth false) = λ k l.
    let d = item_at (fields_of t) k (omega (arith, l, i.even)) in
    let place : place_of t d.0.name ≡ k = ap (λ o. unwrap_or o 0) (place_is (fields_of t) k 0 d.0 different d.1) ∙ omega arith in
    let has_it : has_field t d.0.name ≡ true = any_at (name_is d.0.name) (fields_of t) k d.0 d.1 (same_nat d.0.name) in
    sym (ap (λ xs. slice_index_or xs (place_of t d.0.name) (truth false)) i.own ∙ ap (λ x. slice_index_or i.parts x (truth false)) place)
    ∙ each d.0.name has_it
    ∙ (ap (λ xs. slice_index_or xs (place_of t d.0.name) (truth false)) j.own ∙ ap (λ x. slice_index_or j.parts x (truth false)) place) in
    i.is ∙ ap Rec (same_values i.parts j.parts (i.even ∙ sym j.even) at) ∙ sym j.is

-- Fitting values whose parts behind some paths are the same are equal, where so are all parts that meet none of the paths.
pub equal_parts : (n : ℕ) (t : Ty) (v w : Value) (ps : List (List ℕ)) → fits t v ≡ true → fits t w ≡ true → AreGiven n t v w ps
    → ((q : List ℕ) → has_part t q ≡ true → meets ps q ≡ false → part_reading (reads t v) q ≡ part_reading (reads t w) q) → v ≡ w
unfolding part_reading has_part meets
equal_parts n t v w [] f g a h = ap (λ (r : Reading). r.value) (h [] refl refl)
equal_parts n t v w ([] ∷ ps) f g a h = ap (λ (r : Reading). r.value) a.2
equal_parts zero t v w ((x ∷ p) ∷ ps) f g a h = absurd (omega (arith, a.0))
equal_parts (suc n) t v w ((x ∷ p) ∷ ps) f g a h =
    by_test (has_empty ((x ∷ p) ∷ ps)) refl
    (λ y has no_empty. equal_parts n (field_type t y) (field_reading (reads t v) y).value (field_reading (reads t w) y).value (after y ((x ∷ p) ∷ ps))
    (field_fits t v y f has) (field_fits t w y g has) (after_given n t v w y ((x ∷ p) ∷ ps) a)
    (λ q there free. h (y ∷ q) (ap (λ b. b && has_part (field_type t y) q) has ∙ there) (after_meets y ((x ∷ p) ∷ ps) q no_empty free)))
  where
    by_test : (b : Bool) → has_empty ((x ∷ p) ∷ ps) ≡ b
        → ((y : ℕ) → has_field t y ≡ true → has_empty ((x ∷ p) ∷ ps) ≡ false → (field_reading (reads t v) y).value ≡ (field_reading (reads t w) y).value) → v ≡ w
    by_test true e each = empty_given (suc n) t v w ((x ∷ p) ∷ ps) e a
    by_test false e each = same_records t v w x f g a.1.0 a.1.1 (λ y has. each y has e)
