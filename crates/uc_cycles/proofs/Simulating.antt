-- Ways of steps between things with numbers, and ways in the graph of the numbers.
use Rattle.std.proofs.Common.{◌≡◌, ℕ, zero, suc, Bool, true, false, List, [], ◌∷◌, ◌++◌, map, Option, Some, None, refl, ap, sym, subst, ◌∙◌, ◌⊎◌, inl, inr, ⊎_elim}
use Rattle.std.specs.Prelude.{nat_eq, ◌||◌, slice_get, slice_index_or}
use Rattle.std.specs.List.{flat_map, list_any}
use Rattle.std.proofs.lemmas.List.Folds.{list_any-append}
use Rattle.uc_rules.specs.Cycles.{leads_to}
use Rattle.uc_declared_types.specs.AliasLaw.{IsAmong}
use Rattle.uc_graph.specs.Order.{has, needs}
use Rattle.uc_declared_types.proofs.Along.{any_by, any_there, either, nothing, or_left, or_right}
use Rattle.uc_graph.specs.Cycles.{IsWay, LeadsTo, LiesOnCycle, MarksCycles}
use Rattle.uc_graph.proofs.GraphCyclesWays.{by_edge, leads_on}
use Rattle.uc_cycles.specs.Numbers.{flag_at, listed}
use Rattle.uc_cycles.proofs.Lists.{equal, index_map, index_none, none_some, same, same_some}

same_bool : (b c : Bool) → (b ≡ true → c ≡ true) → (c ≡ true → b ≡ true) → b ≡ c
same_bool true c h k = sym (h refl)
same_bool false true h k = nothing (sym (k refl))
same_bool false false h k = refl

listed_is : (o : Option ℕ) (n : ℕ) → has (listed o) n ≡ true → o ≡ Some n
listed_is None n h = nothing (sym h)
listed_is (Some k) n h = ⊎_elim (λ e. ap (λ j. Some j) (sym (equal n k e))) (λ r. nothing (sym r)) (either (nat_eq n k) false h)

is_listed : (o : Option ℕ) (n : ℕ) → o ≡ Some n → has (listed o) n ≡ true
is_listed o n h = ap (λ p. has (listed p) n) h ∙ or_left (nat_eq n n) false (same n)

module _ {A : Type 0} (steps : A → List A) (eq : A → A → Bool) (keys : List A) (number : A → Option ℕ) where
  abbrev places : List A → List ℕ
  places xs = flat_map (λ a. listed (number a)) xs

  has_places : (a : A) (rest : List A) (n : ℕ) → has (places (a ∷ rest)) n ≡ (has (listed (number a)) n || has (places rest) n)
  has_places a rest n = list_any-append (nat_eq n) (listed (number a)) (places rest)

  place_by : (rest : List A) (n : ℕ) → has (places rest) n ≡ true → (a : A) × IsAmong a rest × (number a ≡ Some n)
  unfolding IsAmong
  place_by [] n h = nothing (sym h)
  place_by (a ∷ rest) n h =
      ⊎_elim (λ here. (a, inl refl, listed_is (number a) n here)) (λ later. let r = place_by rest n later in (r.0, inr r.1, r.2)) (either (has (listed (number a)) n) (has (places rest) n) (sym (has_places a rest n) ∙ h))

  place_there : (rest : List A) (a : A) (n : ℕ) → IsAmong a rest → number a ≡ Some n → has (places rest) n ≡ true
  unfolding IsAmong
  place_there [] a n h e = absurd h
  place_there (b ∷ rest) a n h e =
      has_places b rest n
      ∙ ⊎_elim (λ is. or_left (has (listed (number b)) n) (has (places rest) n) (is_listed (number b) n (ap number (sym is) ∙ e))) (λ later. or_right (has (listed (number b)) n) (has (places rest) n) (place_there rest a n later e)) h

  -- What is known of the numbers: each stands at its place, what has steps has one, and things are the same where a test says so.
  pub record Numbered : Type 0 where
    pub stands : (a : A) (n : ℕ) → number a ≡ Some n → slice_get keys n ≡ Some a
    pub all : (a b : A) → IsAmong b (steps a) → (n : ℕ) × (number a ≡ Some n)
    pub eq_is : (a b : A) → eq a b ≡ true → a ≡ b
    pub is_eq : (a : A) → eq a a ≡ true

  module _ (graph : List (List ℕ)) (edges : graph ≡ map (λ a. places (steps a)) keys) (known : Numbered) where
    needs_of : (a : A) (n : ℕ) → slice_get keys n ≡ Some a → needs graph n ≡ places (steps a)
    needs_of a n there = ap (λ g. needs g n) edges ∙ index_map (λ b. places (steps b)) [] keys n a there

    one_name : (a b : A) (n : ℕ) → number a ≡ Some n → number b ≡ Some n → a ≡ b
    one_name a b n h k = same_some a b (sym (known.stands a n h) ∙ known.stands b n k)

    edge_there : (a b : A) (n m : ℕ) → number a ≡ Some n → IsAmong b (steps a) → number b ≡ Some m → has (needs graph n) m ≡ true
    edge_there a b n m h among k = ap (λ ns. has ns m) (needs_of a n (known.stands a n h)) ∙ place_there (steps a) b m among k

    edge_by : (a : A) (n m : ℕ) → number a ≡ Some n → has (needs graph n) m ≡ true → (b : A) × IsAmong b (steps a) × (number b ≡ Some m)
    edge_by a n m h e = place_by (steps a) m (sym (ap (λ ns. has ns m) (needs_of a n (known.stands a n h))) ∙ e)

    abbrev leads : ℕ → A → A → Bool
    leads n p a = leads_to n steps (eq p) a

    abbrev at : ℕ → A → A → Bool
    at n p a = eq p a || leads_to n steps (eq p) a

    -- one step more at the end
    snoc : (n : ℕ) (a c b : A) → leads n c a ≡ true → IsAmong b (steps c) → leads (suc n) b a ≡ true
    unfolding leads_to
    snoc zero a c b h among = nothing (sym h)
    snoc (suc n) a c b h among =
        let y = any_by (at n c) (steps a) h in
        any_there (at (suc n) b) (steps a) y.0 y.1
        (or_right (eq b y.0) (leads (suc n) b y.0)
        (⊎_elim
        (λ is. any_there (at n b) (steps y.0) b (subst (λ z. IsAmong b (steps z)) (known.eq_is c y.0 is) among) (or_left (eq b b) (leads n b b) (known.is_eq b)))
        (λ later. snoc n y.0 c b later among)
        (either (eq c y.0) (leads n c y.0) y.2)))

    one_step : (a b : A) → IsAmong b (steps a) → leads 1 b a ≡ true
    unfolding leads_to
    one_step a b among = any_there (at 0 b) (steps a) b among (or_left (eq b b) (leads 0 b b) (known.is_eq b))

    -- a way in the graph is one of steps
    way_leads : (a : A) (x : ℕ) → number a ≡ Some x → (k y : ℕ) → IsWay graph k x y → (b : A) × (number b ≡ Some y) × ((n : ℕ) × (leads n b a ≡ true))
    unfolding IsWay
    way_leads a x h zero y e = let r = edge_by a x y h e in (r.0, r.2, (1, one_step a r.0 r.1))
    way_leads a x h (suc k) y w =
        let c = way_leads a x h k w.0 w.1 in
        let r = edge_by c.0 w.0 y c.1 w.2 in
        (r.0, r.2, (suc c.2.0, snoc c.2.0 a c.0 r.0 c.2.1 r.1))

    pub has_number : (n : ℕ) (a p : A) → leads n p a ≡ true → (x : ℕ) × (number a ≡ Some x)
    unfolding leads_to
    has_number zero a p h = nothing (sym h)
    has_number (suc n) a p h = let c = any_by (at n p) (steps a) h in known.all a c.0 c.1

    -- a way of steps is one in the graph
    leads_way : (n : ℕ) (a p : A) (x y : ℕ) → number a ≡ Some x → number p ≡ Some y → leads n p a ≡ true → LeadsTo graph x y
    unfolding leads_to
    leads_way zero a p x y h k e = nothing (sym e)
    leads_way (suc n) a p x y h k e =
        let c = any_by (at n p) (steps a) e in
        ⊎_elim
        (λ is. by_edge graph x y (edge_there a c.0 x y h c.1 (ap number (sym (known.eq_is p c.0 is)) ∙ k)))
        (λ later.
        let z = has_number n c.0 p later in
        leads_on graph x z.0 y (by_edge graph x z.0 (edge_there a c.0 x z.0 h c.1 z.1)) (leads_way n c.0 p z.0 y z.1 k later))
        (either (eq p c.0) (leads n p c.0) c.2)

    module _ (flags : List Bool) (marks : MarksCycles graph flags) (count : ℕ) (ever : (p a : A) (n : ℕ) → leads n p a ≡ true → leads count p a ≡ true) where
      to_leads : (p : A) (n : ℕ) → number p ≡ Some n → slice_index_or flags n false ≡ true → leads count p p ≡ true
      unfolding MarksCycles
      to_leads p n h flag =
          let w = (marks n).0 flag in
          let r = way_leads p n h w.0 n w.1 in
          let is = one_name r.0 p n r.1 h in
          ever p p r.2.0 (ap (λ b. leads r.2.0 b p) (sym is) ∙ r.2.1)

      to_flag : (p : A) (n : ℕ) → number p ≡ Some n → leads count p p ≡ true → slice_index_or flags n false ≡ true
      unfolding MarksCycles
      to_flag p n h e = (marks n).1 (leads_way count p p n n h h e)

      by_number : (p : A) (o : Option ℕ) → number p ≡ o → flag_at flags o ≡ leads count p p
      by_number p None h = same_bool false (leads count p p) (λ e. nothing (sym e)) (λ e. let x = has_number count p p e in none_some x.0 (sym h ∙ x.1))
      by_number p (Some n) h = same_bool (slice_index_or flags n false) (leads count p p) (to_leads p n h) (to_flag p n h)

      pub flagged : (p : A) → flag_at flags (number p) ≡ leads count p p
      flagged p = by_number p (number p) refl
