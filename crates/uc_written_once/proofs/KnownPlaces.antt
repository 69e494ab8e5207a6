-- What stays known of the places of paths.
use Rattle.std.proofs.Common.{◌≡◌, length-append, inl, inr, ℕ, zero, suc, ◌<◌, ◌≤◌, Bool, true, false, not, cond, List, [], ◌∷◌, ◌++◌, length, take, Option, Some, None, refl, ap, ◌∙◌, sym, subst, arith}
use Rattle.std.specs.Prelude.{◌⊎◌, ◌||◌, ◌&&◌, nat_eq, slice_get, if◌then◌else◌}
use Rattle.std.specs.List.{list_any}
use Rattle.std.specs.Cmp.Lexicographic.{pointwise}
use Rattle.std.specs.Map.{lookup}
use Rattle.indexmap.specs.IndexMap.{insert_entry}
use Rattle.uc_written_once.specs.declared.places.PathPlaces.{PathPlaces}
use Rattle.uc_written_once.specs.Places.{AreNoted, FoundAt, Known, Notes, hit, hit_there, is_known, place_of}

abbrev pub same : List ℕ → List ℕ → Bool
same = pointwise nat_eq

pub same_self : (p : List ℕ) → same p p ≡ true
same_self [] = refl
same_self (x ∷ p) = let one : nat_eq x x ≡ true = grind arith in (λ k. one k && same_self p k)

both_left : (b c : Bool) → (b && c) ≡ true → b ≡ true
both_left true c h = refl
both_left false c h = absurd cc

both_right : (b c : Bool) → (b && c) ≡ true → c ≡ true
both_right true c h = h
both_right false c h = absurd cc

pub same_is : (p q : List ℕ) → same p q ≡ true → p ≡ q
same_is [] [] h = refl
same_is (x ∷ p) (y ∷ q) h =
    let l : nat_eq x y ≡ true = both_left (nat_eq x y) (same p q) h in
    let e : x ≡ y = grind (arith, l) in (λ k. e k ∷ same_is p q (both_right (nat_eq x y) (same p q) h) k)
same_is [] (y ∷ q) h = absurd cc
same_is (x ∷ p) [] h = absurd cc

abbrev passes : (List ℕ → List ℕ → Bool) → List ℕ → Option (List ℕ) → Bool
passes test q None = false
passes test q (Some p) = test q p

-- a test of the part at a place
hit_get : (test : List ℕ → List ℕ → Bool) (q : List ℕ) (ps : List (List ℕ)) (k : ℕ) → hit test q ps k ≡ passes test q (slice_get ps k)
unfolding hit
hit_get test q [] k = refl
hit_get test q (p ∷ ps) zero = refl
hit_get test q (p ∷ ps) (suc k) = hit_get test q ps k

pub hit_none : (test : List ℕ → List ℕ → Bool) (q : List ℕ) (ps : List (List ℕ)) (k : ℕ) → slice_get ps k ≡ None → false ≡ hit test q ps k
hit_none test q ps k h = sym (hit_get test q ps k ∙ ap (passes test q) h)

pub hit_some : (test : List ℕ → List ℕ → Bool) (q : List ℕ) (ps : List (List ℕ)) (k : ℕ) (p : List ℕ) → slice_get ps k ≡ Some p → test q p ≡ hit test q ps k
hit_some test q ps k p h = sym (hit_get test q ps k ∙ ap (passes test q) h)

module _ (test : List ℕ → List ℕ → Bool) where
  hit_left : (q : List ℕ) (ps more : List (List ℕ)) (k : ℕ) → hit test q ps k ≡ true → hit test q (ps ++ more) k ≡ true
  unfolding hit
  hit_left q [] more k h = absurd cc
  hit_left q (p ∷ ps) more zero h = h
  hit_left q (p ∷ ps) more (suc k) h = hit_left q ps more k h

  hit_last : (q : List ℕ) (ps : List (List ℕ)) (p : List ℕ) → hit test q (ps ++ p ∷ []) (length ps) ≡ test q p
  unfolding hit
  hit_last q [] p = refl
  hit_last q (o ∷ ps) p = hit_last q ps p

  hit_within : (q : List ℕ) (ps : List (List ℕ)) (k : ℕ) → hit test q ps k ≡ true → k < length ps
  unfolding hit
  hit_within q [] k h = absurd cc
  hit_within q (p ∷ ps) zero h = omega arith
  hit_within q (p ∷ ps) (suc k) h = let i = hit_within q ps k h in omega (arith, i)

  -- a hit in a longer list is one in the list or at its end
  hit_before : (q : List ℕ) (ps : List (List ℕ)) (p : List ℕ) (k : ℕ) → hit test q (ps ++ p ∷ []) k ≡ true → k < length ps → hit test q ps k ≡ true
  unfolding hit
  hit_before q [] p k h less = absurd (omega (arith, less))
  hit_before q (o ∷ ps) p zero h less = h
  hit_before q (o ∷ ps) p (suc k) h less = hit_before q ps p k h (omega (arith, less))

  hit_nothing : (q : List ℕ) (n k : ℕ) → hit test q (take n []) k ≡ true → ⊥
  unfolding hit
  hit_nothing q zero k h = absurd cc
  hit_nothing q (suc n) k h = absurd cc

  hit_nowhere : (q : List ℕ) (ps : List (List ℕ)) (k : ℕ) → hit test q (take zero ps) k ≡ true → ⊥
  unfolding hit
  hit_nowhere q [] k h = absurd cc
  hit_nowhere q (p ∷ ps) k h = absurd cc

  cut_within : (q : List ℕ) (n k : ℕ) (ps : List (List ℕ)) → hit test q (take n ps) k ≡ true → k < n
  unfolding hit
  cut_within q zero k ps h = absurd (hit_nowhere q ps k h)
  cut_within q (suc n) k [] h = absurd cc
  cut_within q (suc n) zero (p ∷ ps) h = omega arith
  cut_within q (suc n) (suc k) (p ∷ ps) h = let i = cut_within q n k ps h in omega (arith, i)

  hit_front : (q : List ℕ) (ps : List (List ℕ)) (n k : ℕ) → hit test q (take n ps) k ≡ true → hit test q ps k ≡ true
  unfolding hit
  hit_front q [] n k h = absurd (hit_nothing q n k h)
  hit_front q (p ∷ ps) zero k h = absurd cc
  hit_front q (p ∷ ps) (suc n) zero h = h
  hit_front q (p ∷ ps) (suc n) (suc k) h = hit_front q ps n k h

  hit_cut : (q : List ℕ) (ps : List (List ℕ)) (n k : ℕ) → hit test q ps k ≡ true → k < n → hit test q (take n ps) k ≡ true
  unfolding hit
  hit_cut q [] n k h less = absurd cc
  hit_cut q (p ∷ ps) zero k h less = absurd (omega (arith, less))
  hit_cut q (p ∷ ps) (suc n) zero h less = h
  hit_cut q (p ∷ ps) (suc n) (suc k) h less = hit_cut q ps n k h (omega (arith, less))

  hit_any : (q : List ℕ) (ps : List (List ℕ)) (k : ℕ) → hit test q ps k ≡ true → list_any (test q) ps ≡ true
  unfolding hit
  hit_any q [] k h = absurd cc
  hit_any q (p ∷ ps) zero h = ap (λ b. b || list_any (test q) ps) h
  hit_any q (p ∷ ps) (suc k) h = ap (λ b. test q p || b) (hit_any q ps k h) ∙ or_true (test q p)
    where
      or_true : (b : Bool) → (b || true) ≡ true
      or_true true = refl
      or_true false = refl

  -- some part is hit where some part passes
  record Hit (q : List ℕ) (ps : List (List ℕ)) : Type 0 where
    at : ℕ
    hits : hit test q ps at ≡ true

  hit_here : (q p : List ℕ) (ps : List (List ℕ)) → test q p ≡ true → Hit q (p ∷ ps)
  unfolding hit
  hit_here q p ps e = record { at = 0; hits = e }

  hit_later : (q p : List ℕ) (ps : List (List ℕ)) → Hit q ps → Hit q (p ∷ ps)
  unfolding hit
  hit_later q p ps rest = record { at = suc rest.at; hits = rest.hits }

  either_hit : (q p : List ℕ) (ps : List (List ℕ)) (b : Bool) → test q p ≡ b → (b || list_any (test q) ps) ≡ true → (list_any (test q) ps ≡ true → Hit q ps) → Hit q (p ∷ ps)
  either_hit q p ps true e i rest = hit_here q p ps e
  either_hit q p ps false e i rest = hit_later q p ps (rest i)

  any_hit : (q : List ℕ) (ps : List (List ℕ)) → list_any (test q) ps ≡ true → Hit q ps
  any_hit q [] h = absurd cc
  any_hit q (p ∷ ps) h = either_hit q p ps (test q p) refl h (any_hit q ps)

  -- what is known decides whether a part passes
  pub known_decides : (t : PathPlaces) (ps : List (List ℕ)) (q : List ℕ) → Known test t ps → is_known test t ps q ≡ list_any (test q) ps
  known_decides t ps q known = by (list_any (test q) ps) refl
    where
      there : (o : Option ℕ) → hit_there test q ps o ≡ true → list_any (test q) ps ≡ true
      there None h = absurd cc
      there (Some k) h = hit_any q ps k h

      away : (b : Bool) → b ≡ is_known test t ps q → list_any (test q) ps ≡ false → b ≡ false
      away true e none = let bad : true ≡ false = sym (there (place_of t q) (sym e)) ∙ none in absurd cc
      away false e none = refl

      by : (b : Bool) → list_any (test q) ps ≡ b → is_known test t ps q ≡ list_any (test q) ps
      by true e =
          let one = any_hit q ps e in
          let f = known q one.at one.hits in
          ap (hit_there test q ps) f.is ∙ f.right ∙ sym e
      by false e = away (is_known test t ps q) refl e ∙ sym e

  pub known_front : (t : PathPlaces) (ps : List (List ℕ)) (n : ℕ) → Known test t ps → Known test t (take n ps)
  known_front t ps n known q k h =
      let f = known q k (hit_front q ps n k h) in
      let within = cut_within q n k ps h in
      record { place = f.place; is = f.is; first = f.first; right = hit_cut q ps n f.place f.right (less f.place k n f.first within) }
    where
      less : (a b c : ℕ) → a ≤ b → b < c → a < c
      less a b c h i = omega (arith, h, i)

  pub known_none : (t : PathPlaces) → Known test t []
  unfolding hit
  known_none t q k h = absurd cc

  pub known_same : (t u : PathPlaces) (ps : List (List ℕ)) → ((q : List ℕ) → place_of u q ≡ place_of t q) → Known test t ps → Known test u ps
  known_same t u ps same known q k h = let f = known q k h in record { place = f.place; is = same q ∙ f.is; first = f.first; right = f.right }

  -- A path that is noted.

  module _ (ps : List (List ℕ)) (old new : PathPlaces) (front : List ℕ) (notes : Notes test ps old new front) where
    -- whether a path gets the new place
    abbrev gets : List ℕ → Bool
    gets q = not (is_known test old ps front) && same front q

    new_place : (q : List ℕ) (b : Bool) → gets q ≡ b → place_of new q ≡ (if b then Some (length ps) else place_of old q)
    new_place q b e = notes q ∙ ap (λ c. if c then Some (length ps) else place_of old q) e

    not_true : (b : Bool) → not b ≡ true → b ≡ false
    not_true true h = absurd cc
    not_true false h = refl

    unknown : (q : List ℕ) → gets q ≡ true → is_known test old ps q ≡ false
    unknown q e =
        let is : front ≡ q = same_is front q (both_right (not (is_known test old ps front)) (same front q) e) in
        ap (is_known test old ps) (sym is) ∙ not_true (is_known test old ps front) (both_left (not (is_known test old ps front)) (same front q) e)

    pub notes_known : Known test old ps → Known test new ps
    notes_known known q k h = by (gets q) refl (known q k h)
      where
        by : (b : Bool) → gets q ≡ b → FoundAt test old ps q k → FoundAt test new ps q k
        by true e f = let bad : true ≡ false = sym (ap (hit_there test q ps) f.is ∙ f.right) ∙ unknown q e in absurd cc
        by false e f = record { place = f.place; is = new_place q false e ∙ f.is; first = f.first; right = f.right }

    module _ (path : List ℕ) (passes_path : test front path ≡ true) where
      at_end : (q : List ℕ) → gets q ≡ true → AreNoted test new ps path q
      at_end q e =
          let is : front ≡ q = same_is front q (both_right (not (is_known test old ps front)) (same front q) e) in
          record { place = length ps; is = new_place q true e; first = omega arith; right = hit_last q ps path ∙ ap (λ r. test r path) (sym is) ∙ passes_path }

      pub notes_more : (q : List ℕ) → AreNoted test old ps path q → AreNoted test new ps path q
      notes_more q noted = by (gets q) refl
        where
          by : (b : Bool) → gets q ≡ b → AreNoted test new ps path q
          by true e = at_end q e
          by false e = record { place = noted.place; is = new_place q false e ∙ noted.is; first = noted.first; right = noted.right }

      pub notes_front : AreNoted test new ps path front
      notes_front = by (gets front) refl
        where
          there : (o : Option ℕ) → place_of old front ≡ o → hit_there test front ps o ≡ true → place_of new front ≡ place_of old front → AreNoted test new ps path front
          there None is h same = absurd cc
          there (Some k) is h same =
              let within = hit_within front ps k h in
              record { place = k; is = same ∙ is; first = omega (arith, within); right = hit_left front ps (path ∷ []) k h }

          known_is : (b : Bool) → (not b && same front front) ≡ false → b ≡ true
          known_is true h = refl
          known_is false h = let bad : true ≡ false = sym (same_self front) ∙ h in absurd cc

          by : (b : Bool) → gets front ≡ b → AreNoted test new ps path front
          by true e = at_end front e
          by false e = there (place_of old front) refl (known_is (is_known test old ps front) e) (new_place front false e)

  -- what is known with one part more
  pub known_more : (t : PathPlaces) (ps : List (List ℕ)) (path : List ℕ) → Known test t ps → ((q : List ℕ) → test q path ≡ true → AreNoted test t ps path q) → Known test t (ps ++ path ∷ [])
  known_more t ps path known noted q k h = by (nat_lt_or k (length ps))
    where
      nat_lt_or : (a b : ℕ) → (a < b) ⊎ (b ≤ a)
      nat_lt_or a b = grind arith

      at_last : (k : ℕ) → hit test q (ps ++ path ∷ []) k ≡ true → length ps ≤ k → k ≡ length ps
      at_last k h past = let within = hit_within q (ps ++ path ∷ []) k h in omega (arith, within, past, length-append {A = List ℕ})

      by : (k < length ps) ⊎ (length ps ≤ k) → FoundAt test t (ps ++ path ∷ []) q k
      by (inl less) =
          let f = known q k (hit_before q ps path k h less) in
          record { place = f.place; is = f.is; first = f.first; right = hit_left q ps (path ∷ []) f.place f.right }
      by (inr past) =
          let e : k ≡ length ps = at_last k h past in
          let f = noted q (sym (hit_last q ps path) ∙ sym (ap (hit test q (ps ++ path ∷ [])) e) ∙ h) in
          record { place = f.place; is = f.is; first = subst (λ n. f.place ≤ n) (sym e) f.first; right = f.right }

-- A path is noted by its new place where it wasn't known.
pub noted_by : (test : List ℕ → List ℕ → Bool) (ps : List (List ℕ)) (old new : PathPlaces) (front : List ℕ) (b : Bool) → b ≡ is_known test old ps front →
    ((q : List ℕ) → place_of new q ≡ (if not b && pointwise nat_eq front q then Some (length ps) else place_of old q)) → Notes test ps old new front
noted_by test ps old new front b is entered q = entered q ∙ ap (λ c. if not c && pointwise nat_eq front q then Some (length ps) else place_of old q) is

pub whole_noted : (ps : List (List ℕ)) (old new : PathPlaces) (path : List ℕ) → Notes (pointwise nat_eq) ps old new path → Known (pointwise nat_eq) old ps → Known (pointwise nat_eq) new (ps ++ path ∷ [])
whole_noted ps old new path notes known =
    known_more same new ps path (notes_known same ps old new path notes known)
    (λ q h. subst (λ r. AreNoted same new ps path r) (sym (same_is q path h)) (notes_front same ps old new path notes path (same_self path)))

-- The map by its entries.

same_turned : (p q : List ℕ) → same p q ≡ same q p
same_turned [] [] = refl
same_turned [] (y ∷ q) = refl
same_turned (x ∷ p) [] = refl
same_turned (x ∷ p) (y ∷ q) = let one : nat_eq x y ≡ nat_eq y x = grind arith in (λ k. one k && same_turned p q k)

module _ {V : Type 0} (eq : V → V → Bool) (view : V → List ℕ) (eq_is : (a b : V) → eq a b ≡ same (view a) (view b)) (v : V) (n : ℕ) (q : List ℕ) where
  abbrev found : List (V × ℕ) → Option ℕ
  found es = lookup (λ x. same q (view x)) es

  replaced : (e : V × ℕ) (es : List (V × ℕ)) (b c : Bool) → same (view v) q ≡ b → same q (view e.0) ≡ c → b ≡ c → cond c (Some n) (found es) ≡ (if b then Some n else cond c (Some e.1) (found es))
  replaced e es true true p r h = refl
  replaced e es false false p r h = refl
  replaced e es true false p r h = absurd cc
  replaced e es false true p r h = absurd cc

  kept : (e : V × ℕ) (es more : List (V × ℕ)) (b c : Bool) → (b ≡ true → c ≡ false) → found more ≡ (if b then Some n else found es) → cond c (Some e.1) (found more) ≡ (if b then Some n else cond c (Some e.1) (found es))
  kept e es more true true h r = let bad : true ≡ false = h refl in absurd cc
  kept e es more true false h r = r
  kept e es more false true h r = refl
  kept e es more false false h r = r

  pub found_after : (es : List (V × ℕ)) → found (insert_entry eq es v n) ≡ (if same (view v) q then Some n else found es)
  found_after [] = one (same (view v) q) (same_turned q (view v))
    where
      one : (b : Bool) → same q (view v) ≡ b → cond (same q (view v)) (Some n) None ≡ (if b then Some n else None)
      one true h = ap (λ c. cond c (Some n) None) h
      one false h = ap (λ c. cond c (Some n) None) h
  found_after (e ∷ es) = by (eq v e.0) refl (found_after es)
    where
      by : (b : Bool) → eq v e.0 ≡ b → found (insert_entry eq es v n) ≡ (if same (view v) q then Some n else found es) →
          found (if b then (e.0, n) ∷ es else e ∷ insert_entry eq es v n) ≡ (if same (view v) q then Some n else found (e ∷ es))
      by true h rest =
          let is : view v ≡ view e.0 = same_is (view v) (view e.0) (sym (eq_is v e.0) ∙ h) in
          replaced e es (same (view v) q) (same q (view e.0)) refl refl (same_turned (view v) q ∙ ap (same q) is)
      by false h rest =
          kept e es (insert_entry eq es v n) (same (view v) q) (same q (view e.0))
          (λ s. ap (λ r. same r (view e.0)) (sym (same_is (view v) q s)) ∙ sym (eq_is v e.0) ∙ h) rest
