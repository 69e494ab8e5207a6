-- Which lists have a slot, after a slot was put into a list or taken out.
use Rattle.std.proofs.Common.{◌≡◌, ◌≢◌, ℕ, suc, ◌+◌, ◌*◌, ◌/◌, ◌%◌, ◌<◌, ◌≤◌, ◌⊎◌, inl, inr, Bool, true, false, Option, None, Some, List, [], ◌∷◌, ◌++◌, length, not, cond, get_or, map, refl, sym, ◌∙◌, ap, subst, arith, get_or-set_same, get_or-set_other}
use Rattle.std.specs.Prelude.{All, AllPairs, Contains, eqb}
use Rattle.std.proofs.lemmas.Bool.{cases_eq, cases_lt, eq-eqb, ne_eqb}
use Rattle.std.proofs.lemmas.List.{get_or_default, get_or_past, get_or-map, length-map}
use Rattle.std.proofs.lemmas.List.Elements.{All-contains, All-contains_itself, All-filter, Contains-append_right, filter-append}
use Rattle.uc_circuit.specs.declared.literal.Lit.{Lit}
use Rattle.uc_circuit.proofs.Scan.{literal_from_parts}
use Rattle.uc_rings.specs.Lists.{Lists, AreApart, InAList, InNoList, first_of, place_of, slots_of, with_front, without}
use Rattle.uc_rings.specs.Links.{NoneTwice}
use Rattle.uc_rings.proofs.Slots.{others, others_gone, others_out, split, Split, Contains-cons_cases, Contains-here, Contains-later}

-- each place is that of a literal, and of one
pub place_at : (k : ℕ) → (l : Lit) × (place_of l ≡ k)
place_at k =
    elim (cases_eq (k % 2) 1) [
      | inl odd ↦ (record { var = k / 2; neg = true }, omega (arith, odd))
      | inr even ↦ (record { var = k / 2; neg = false }, omega (arith, even))
    ]

pub one_place : (a b : Lit) → place_of a ≡ place_of b → a ≡ b
one_place a b same = by_signs a.neg b.neg refl refl where
  by_signs : (p q : Bool) → a.neg ≡ p → b.neg ≡ q → a ≡ b
  by_signs true true ap' bq = literal_from_parts a b (let e : 2 * a.var + 1 ≡ 2 * b.var + 1 = cc in omega (arith, e)) (ap' ∙ sym bq)
  by_signs false false ap' bq = literal_from_parts a b (let e : 2 * a.var + 0 ≡ 2 * b.var + 0 = cc in omega (arith, e)) (ap' ∙ sym bq)
  by_signs true false ap' bq = absurd (let e : 2 * a.var + 1 ≡ 2 * b.var + 0 = cc in omega (arith, e))
  by_signs false true ap' bq = absurd (let e : 2 * a.var + 0 ≡ 2 * b.var + 1 = cc in omega (arith, e))

pub not_in_nothing : (s : ℕ) → Contains [] s → ⊥
not_in_nothing s there = let h = there.1 in omega arith

-- a literal whose list has a slot has a place
pub place_inside : (r : Lists) (l : Lit) (s : ℕ) → Contains (slots_of r l) s → place_of l < length r.lists
place_inside r l s there =
    elim (cases_lt (place_of l) (length r.lists)) [
      | inl h ↦ h
      | inr past ↦ absurd (not_in_nothing s (subst (λ (xs : List ℕ). Contains xs s) (get_or_past r.lists (place_of l) [] past) there))
    ]

pub in_a_list : (r : Lists) (l : Lit) (s : ℕ) → Contains (slots_of r l) s → InAList r s
in_a_list r l s there = (place_of l, slots_of r l, place_inside r l s there, get_or_default r.lists (place_of l) (slots_of r l) [] (place_inside r l s there), there)

-- a slot that no literal's list has
pub in_no_list : (r : Lists) (s : ℕ) → ((l : Lit) → Contains (slots_of r l) s → ⊥) → InNoList r s
in_no_list r s none k d h there =
    let at : (l : Lit) × (place_of l ≡ k) = place_at k in
    none at.0 (subst (λ (xs : List ℕ). Contains xs s) (get_or_default r.lists k d [] h ∙ ap (λ i. get_or r.lists i []) (sym at.1)) there)

-- the lists after a slot was put in front of one
pub front_same : (r : Lists) (l : Lit) (s : ℕ) → place_of l < length r.lists → slots_of (with_front r l s) l ≡ s ∷ slots_of r l
front_same r l s h = get_or-set_same r.lists (place_of l) (s ∷ slots_of r l) [] h

pub front_other : (r : Lists) (l m : Lit) (s : ℕ) → (m ≡ l → ⊥) → slots_of (with_front r l s) m ≡ slots_of r m
front_other r l m s ne = get_or-set_other r.lists (place_of l) (place_of m) (s ∷ slots_of r l) [] (λ e. ne (one_place m l e))

pub same_or_not : (a b : Lit) → (a ≡ b) ⊎ (a ≡ b → ⊥)
same_or_not a b =
    elim (cases_eq (place_of a) (place_of b)) [
      | inl same ↦ inl (one_place a b same)
      | inr ne ↦ inr (λ e. ne (ap place_of e))
    ]

pub front_here : (r : Lists) (l : Lit) (s : ℕ) → place_of l < length r.lists → Contains (slots_of (with_front r l s) l) s
front_here r l s h = subst (λ (xs : List ℕ). Contains xs s) (sym (front_same r l s h)) (Contains-here s (slots_of r l))

pub front_keeps : (r : Lists) (l m : Lit) (s t : ℕ) → place_of l < length r.lists → Contains (slots_of r m) t → Contains (slots_of (with_front r l s) m) t
front_keeps r l m s t h there =
    elim (same_or_not m l) [
      | inl same ↦
          subst (λ (k : Lit). Contains (slots_of (with_front r l s) k) t) (sym same)
          (subst (λ (xs : List ℕ). Contains xs t) (sym (front_same r l s h)) (Contains-later s (slots_of r l) t (subst (λ (k : Lit). Contains (slots_of r k) t) same there)))
      | inr ne ↦ subst (λ (xs : List ℕ). Contains xs t) (sym (front_other r l m s ne)) there
    ]

pub front_cases : (r : Lists) (l m : Lit) (s t : ℕ) → place_of l < length r.lists → Contains (slots_of (with_front r l s) m) t → ((m ≡ l) × (t ≡ s)) ⊎ Contains (slots_of r m) t
front_cases r l m s t h there =
    elim (same_or_not m l) [
      | inl same ↦
          let here : Contains (s ∷ slots_of r l) t = subst (λ (xs : List ℕ). Contains xs t) (front_same r l s h) (subst (λ (k : Lit). Contains (slots_of (with_front r l s) k) t) same there) in
          elim (Contains-cons_cases s (slots_of r l) t here) [
            | inl is ↦ inl (same, is)
            | inr later ↦ inr (subst (λ (k : Lit). Contains (slots_of r k) t) (sym same) later)
          ]
      | inr ne ↦ inr (subst (λ (xs : List ℕ). Contains xs t) (front_other r l m s ne) there)
    ]

-- the lists after a slot was taken out
pub without_is : (r : Lists) (m : Lit) (s : ℕ) → slots_of (without r s) m ≡ others s (slots_of r m)
without_is r m s =
    elim (cases_lt (place_of m) (length r.lists)) [
      | inl h ↦ get_or-map (others s) r.lists (place_of m) [] [] h
      | inr past ↦
          get_or_past (map (others s) r.lists) (place_of m) [] (omega (arith, length-map r.lists (others s)))
          ∙ ap (others s) (sym (get_or_past r.lists (place_of m) [] past))
    ]

others_keeps : (s t : ℕ) (xs : List ℕ) → t ≢ s → Contains xs t → Contains (others s xs) t
others_keeps s t xs ne there =
    let parts : Split xs t = split xs t there in
    let test : ℕ → Bool = λ x. not (eqb x s) in
    let kept : others s (t ∷ parts.after) ≡ t ∷ others s parts.after = ap (λ b. cond (not b) (t ∷ others s parts.after) (others s parts.after)) (ne_eqb t s ne) in
    let is : others s xs ≡ others s parts.before ++ t ∷ others s parts.after =
    ap (others s) parts.is ∙ filter-append test parts.before (t ∷ parts.after) ∙ ap (λ ys. others s parts.before ++ ys) kept in
    subst (λ (ys : List ℕ). Contains ys t) (sym is) (Contains-append_right (others s parts.before) (t ∷ others s parts.after) t (Contains-here t (others s parts.after)))

others_has : (s t : ℕ) (xs : List ℕ) → Contains (others s xs) t → Contains xs t
others_has s t xs there = All-contains (Contains xs) (others s xs) t (All-filter (λ x. not (eqb x s)) (Contains xs) xs (All-contains_itself xs)) there

pub without_keeps : (r : Lists) (m : Lit) (s t : ℕ) → t ≢ s → Contains (slots_of r m) t → Contains (slots_of (without r s) m) t
without_keeps r m s t ne there = subst (λ (xs : List ℕ). Contains xs t) (sym (without_is r m s)) (others_keeps s t (slots_of r m) ne there)

pub without_has : (r : Lists) (m : Lit) (s t : ℕ) → Contains (slots_of (without r s) m) t → (t ≢ s) × Contains (slots_of r m) t
without_has r m s t there =
    let here : Contains (others s (slots_of r m)) t = subst (λ (xs : List ℕ). Contains xs t) (without_is r m s) there in
    (λ same. others_gone s (slots_of r m) (subst (λ k. Contains (others s (slots_of r m)) k) same here), others_has s t (slots_of r m) here)

-- none of a list stands twice
pub none_twice : (xs : List ℕ) → AllPairs (λ a b. a ≢ b) xs → NoneTwice xs
none_twice [] apart = tt
none_twice (x ∷ xs) apart = (
  λ k d h e. apart 0 (suc k) d (omega arith) (omega arith) (sym e),
  none_twice xs (λ i j d lt h. apart (suc i) (suc j) d (omega arith) (omega arith)),
)

pub none_twice_in : (r : Lists) (l : Lit) → AreApart r → NoneTwice (slots_of r l)
none_twice_in r l apart =
    elim (cases_lt (place_of l) (length r.lists)) [
      | inl h ↦ none_twice (slots_of r l) (apart.once (place_of l) [] h)
      | inr past ↦ subst NoneTwice (sym (get_or_past r.lists (place_of l) [] past)) tt
    ]

-- a slot leaves the list that it stands in
pub without_between : (r : Lists) (m : Lit) (before after : List ℕ) (s : ℕ) → AreApart r → slots_of r m ≡ before ++ s ∷ after → slots_of (without r s) m ≡ before ++ after
without_between r m before after s apart is =
    without_is r m s ∙ ap (others s) is ∙ others_out before s after (subst NoneTwice is (none_twice_in r m apart))

-- the slots of a list from one of them on
abbrev pub rest_from : Option ℕ → List ℕ → List ℕ
rest_from None xs = []
rest_from (Some s) [] = []
rest_from (Some s) (x ∷ xs) = cond (eqb x s) (x ∷ xs) (rest_from (Some s) xs)

rest_at : (before : List ℕ) (s : ℕ) (rest : List ℕ) → NoneTwice (before ++ s ∷ rest) → rest_from (Some s) (before ++ s ∷ rest) ≡ s ∷ rest
rest_at [] s rest apart = ap (λ b. cond b (s ∷ rest) (rest_from (Some s) rest)) (eq-eqb s s refl)
rest_at (x ∷ before) s rest apart =
    let off : eqb x s ≡ false = ne_eqb x s (λ e. All-contains (λ y. y ≢ x) (before ++ s ∷ rest) s apart.0 (Contains-append_right before (s ∷ rest) s (Contains-here s rest)) (sym e)) in
    ap (λ b. cond b (x ∷ (before ++ s ∷ rest)) (rest_from (Some s) (before ++ s ∷ rest))) off ∙ rest_at before s rest apart.1

pub rest_first : (before rest : List ℕ) → NoneTwice (before ++ rest) → rest_from (first_of rest) (before ++ rest) ≡ rest
rest_first before [] apart = refl
rest_first before (s ∷ rest) apart = rest_at before s rest apart
