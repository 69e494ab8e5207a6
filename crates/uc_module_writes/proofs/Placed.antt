-- The places of modules.
use Rattle.std.proofs.Common.{◌≡◌, ℕ, suc, ◌+◌, ◌<◌, ◌≤◌, Bool, true, false, cond, List, [], ◌∷◌, ◌++◌, length, length-take, take, get_or, map, Option, Some, None, refl, ap, ◌∙◌, sym, subst, arith, inl, inr, ⊎_elim}
use Rattle.std.specs.Prelude.{filter, nat_eq}
use Rattle.std.specs.List.{cons_option, filter_map, find, flat_map, position_from}
use Rattle.std.specs.Option.{option_and_then}
use Rattle.std.proofs.lemmas.List.{take_all}
use Rattle.uc_syntax.specs.declared.declaration.Decl.{Decl}
use Rattle.uc_syntax.specs.declared.declaration.Module.{Module}
use Rattle.uc_meaning.specs.Cells.{as_list}
use Rattle.uc_meaning.specs.Lookup.{InstanceParts, instance_in, or_else}
use Rattle.uc_rules.specs.Names.{only_if}
use Rattle.uc_rules.proofs.Lists.{take_turn}
use Rattle.uc_names.specs.Senses.{module_in}
use Rattle.uc_graph.specs.Order.{has}
use Rattle.uc_module_writes.proofs.Members.{has_cons, has_first, has_right}
use Rattle.uc_declared_types.specs.AliasLaw.{IsAmong}
use Rattle.uc_module_writes.specs.declared.places.ModulePlaces.{ModulePlaces}
use Rattle.uc_module_writes.specs.Places.{place_by, place_named, places_in}

none_some : {A B : Type 0} (x : B) → None ≡ Some x → A
none_some x h = cc

some_none : {A B : Type 0} (x : B) → Some x ≡ None → A
some_none x h = cc

some_same : {A : Type 0} (x y : A) → Some x ≡ Some y → x ≡ y
some_same x y h = cc

position_push : {K : Type 0} (f : K → Bool) (n : ℕ) (xs : List K) (e : K) → position_from f n (xs ++ e ∷ []) ≡ or_else (position_from f n xs) (only_if (f e) (Some (n + length xs)))
position_push f n [] e = by (f e)
  where
    by : (b : Bool) → cond b (Some n) None ≡ only_if b (Some (n + 0))
    by true = let h : n ≡ n + 0 = omega arith in ap (λ k. Some k) h
    by false = refl
position_push f n (x ∷ xs) e = by (f x) (position_push f (n + 1) xs e)
  where
    by : (b : Bool) → position_from f (n + 1) (xs ++ e ∷ []) ≡ or_else (position_from f (n + 1) xs) (only_if (f e) (Some (n + 1 + length xs))) →
        cond b (Some n) (position_from f (n + 1) (xs ++ e ∷ [])) ≡ or_else (cond b (Some n) (position_from f (n + 1) xs)) (only_if (f e) (Some (n + suc (length xs))))
    by true h = refl
    by false h = let s : n + 1 + length xs ≡ n + suc (length xs) = omega arith in h ∙ ap (λ k. or_else (position_from f (n + 1) xs) (only_if (f e) (Some k))) s

-- A table has the places of the modules before place k.
pub record PlacedTo (ms : List Module) (k : ℕ) (table : ℕ → Option ℕ) : Type 0 where
  pub placed : (x : ℕ) → table x ≡ place_named (take k ms) x

pub placed_begin : (ms : List Module) (table : ℕ → Option ℕ) → ((x : ℕ) → table x ≡ None) → PlacedTo ms 0 table
placed_begin [] table none = record { placed = none }
placed_begin (m ∷ ms) table none = record { placed = none }

length_taken : {A : Type 0} (k : ℕ) (xs : List A) → k ≤ length xs → length (take k xs) ≡ k
length_taken k xs h = grind (arith, length-take, h)

pub placed_more : (ms : List Module) (k : ℕ) (old new : ℕ → Option ℕ) (m d : Module) → PlacedTo ms k old → k < length ms → m ≡ get_or ms k d → ((x : ℕ) → new x ≡ or_else (old x) (only_if (nat_eq m.name x) (Some k))) → PlacedTo ms (k + 1) new
placed_more ms k old new m d held within at says = record {
  placed = λ x.
      let l : length (take k ms) ≡ k = length_taken k ms (omega (arith, within)) in
      let s : k ≡ 0 + length (take k ms) = omega (arith, l) in
      says x ∙ ap (λ o. or_else o (only_if (nat_eq m.name x) (Some k))) (held.placed x) ∙ ap (λ j. or_else (place_named (take k ms) x) (only_if (nat_eq m.name x) (Some j))) s
      ∙ sym (position_push (λ n. nat_eq n.name x) 0 (take k ms) m) ∙ ap (λ ns. place_named ns x) (sym (take_turn ms k m d within at));
}

pub placed_end : (ms : List Module) (k : ℕ) (table : ℕ → Option ℕ) → PlacedTo ms k table → length ms ≤ k → (x : ℕ) → table x ≡ place_named ms x
placed_end ms k table held past x = held.placed x ∙ ap (λ ns. place_named ns x) (take_all k ms past)

-- the module at a place
at_place : (f : Module → Bool) (n : ℕ) (ms : List Module) (p : ℕ) → position_from f n ms ≡ Some p → (j : ℕ) × (p ≡ n + j) × (j < length ms) × (find f ms ≡ Some (module_in ms j))
at_place f n [] p h = none_some p h
at_place f n (m ∷ ms) p h = by (f m) h (at_place f (n + 1) ms p)
  where
    by : (b : Bool) → cond b (Some n) (position_from f (n + 1) ms) ≡ Some p → (position_from f (n + 1) ms ≡ Some p → (j : ℕ) × (p ≡ n + 1 + j) × (j < length ms) × (find f ms ≡ Some (module_in ms j))) →
        (j : ℕ) × (p ≡ n + j) × (j < length (m ∷ ms)) × (cond b (Some m) (find f ms) ≡ Some (module_in (m ∷ ms) j))
    by true e rest = let s : n ≡ p = some_same n p e in (0, omega (arith, s), omega arith, refl)
    by false e rest = let r = rest e in (suc r.0, omega (arith, r.1), omega (arith, r.2), r.3)

no_place : (f : Module → Bool) (n : ℕ) (ms : List Module) → position_from f n ms ≡ None → find f ms ≡ None
no_place f n [] h = refl
no_place f n (m ∷ ms) h = by (f m) h (no_place f (n + 1) ms)
  where
    by : (b : Bool) → cond b (Some n) (position_from f (n + 1) ms) ≡ None → (position_from f (n + 1) ms ≡ None → find f ms ≡ None) → cond b (Some m) (find f ms) ≡ None
    by true e rest = some_none n e
    by false e rest = rest e

module _ (ms : List Module) (t : ModulePlaces) (placed : (x : ℕ) → place_by t x ≡ place_named ms x) where
  pub named_there : (x p : ℕ) → place_by t x ≡ Some p → (p < length ms) × (find (λ m. nat_eq m.name x) ms ≡ Some (module_in ms p))
  named_there x p h =
      let r = at_place (λ m. nat_eq m.name x) 0 ms p (sym (placed x) ∙ h) in
      let e : r.0 ≡ p = omega (arith, r.1) in
      (omega (arith, r.1, r.2), r.3 ∙ ap (λ j. Some (module_in ms j)) e)

  pub named_nowhere : (x : ℕ) → place_by t x ≡ None → find (λ m. nat_eq m.name x) ms ≡ None
  named_nowhere x h = no_place (λ m. nat_eq m.name x) 0 ms (sym (placed x) ∙ h)

-- The places that declarations need.

pub needed_there : (t : ModulePlaces) (ds : List Decl) (i : InstanceParts) (p : ℕ) → IsAmong i (filter_map instance_in ds) → place_by t i.module_name ≡ Some p → has (places_in t ds) p ≡ true
unfolding IsAmong
needed_there t [] i p h e = absurd h
needed_there t (d ∷ ds) i p h e = by (instance_in d) h (λ r. needed_there t ds i p r e)
  where
    left : (o : Option ℕ) → o ≡ Some p → has (as_list o ++ places_in t ds) p ≡ true
    left o is = subst (λ r. has (as_list r ++ places_in t ds) p ≡ true) (sym is) first
      where
        first : has (p ∷ places_in t ds) p ≡ true
        first = has_first p (places_in t ds)

    right : (o : Option ℕ) → has (places_in t ds) p ≡ true → has (as_list o ++ places_in t ds) p ≡ true
    right o there = has_right (as_list o) (places_in t ds) p there

    by : (o : Option InstanceParts) → IsAmong i (cons_option o (filter_map instance_in ds)) → (IsAmong i (filter_map instance_in ds) → has (places_in t ds) p ≡ true) →
        has (as_list (option_and_then (λ j. place_by t j.module_name) o) ++ places_in t ds) p ≡ true
    by None k rest = rest k
    by (Some j) k rest = ⊎_elim (λ is. left (place_by t j.module_name) (ap (λ (q : InstanceParts). place_by t q.module_name) (sym is) ∙ e)) (λ r. right (place_by t j.module_name) (rest r)) k

pub needed_by : (t : ModulePlaces) (ds : List Decl) (p : ℕ) → has (places_in t ds) p ≡ true → (i : InstanceParts) × IsAmong i (filter_map instance_in ds) × (place_by t i.module_name ≡ Some p)
unfolding IsAmong
needed_by t [] p h = absurd cc
needed_by t (d ∷ ds) p h = by (instance_in d) h (needed_by t ds p)
  where
    found : (j : InstanceParts) (o : Option ℕ) → place_by t j.module_name ≡ o → has (as_list o ++ places_in t ds) p ≡ true → (has (places_in t ds) p ≡ true → (i : InstanceParts) × IsAmong i (filter_map instance_in ds) × (place_by t i.module_name ≡ Some p)) →
        (i : InstanceParts) × IsAmong i (j ∷ filter_map instance_in ds) × (place_by t i.module_name ≡ Some p)
    found j None e k rest = let r = rest k in (r.0, inr r.1, r.2)
    found j (Some q) e k rest = ⊎_elim (λ is. (j, inl refl, e ∙ ap (λ n. Some n) (sym is))) (λ there. let r = rest there in (r.0, inr r.1, r.2)) (has_cons q (places_in t ds) p k)

    by : (o : Option InstanceParts) → has (as_list (option_and_then (λ j. place_by t j.module_name) o) ++ places_in t ds) p ≡ true → (has (places_in t ds) p ≡ true → (i : InstanceParts) × IsAmong i (filter_map instance_in ds) × (place_by t i.module_name ≡ Some p)) →
        (i : InstanceParts) × IsAmong i (cons_option o (filter_map instance_in ds)) × (place_by t i.module_name ≡ Some p)
    by None k rest = rest k
    by (Some j) k rest = found j (place_by t j.module_name) refl k rest

pub flat_one : {X A : Type 0} (f : X → A) (xs : List X) → flat_map (λ x. f x ∷ []) xs ≡ map f xs
flat_one f [] = refl
flat_one f (x ∷ xs) = ap (λ ys. f x ∷ ys) (flat_one f xs)

pub filter_flat : {A : Type 0} (keep : A → Bool) (xs : List A) → flat_map (λ x. filter keep (x ∷ [])) xs ≡ filter keep xs
filter_flat keep [] = refl
filter_flat keep (x ∷ xs) = by (keep x) (filter_flat keep xs)
  where
    by : (b : Bool) → flat_map (λ y. filter keep (y ∷ [])) xs ≡ filter keep xs → cond b (x ∷ []) [] ++ flat_map (λ y. filter keep (y ∷ [])) xs ≡ cond b (x ∷ filter keep xs) (filter keep xs)
    by true e = ap (λ ys. x ∷ ys) e
    by false e = e

pub filter_map_flat : {A B : Type 0} (f : A → Option B) (xs : List A) → flat_map (λ x. as_list (f x)) xs ≡ filter_map f xs
filter_map_flat {B = B} f [] = refl
filter_map_flat {B = B} f (x ∷ xs) = by (f x) (filter_map_flat f xs)
  where
    by : (o : Option B) → flat_map (λ y. as_list (f y)) xs ≡ filter_map f xs → as_list o ++ flat_map (λ y. as_list (f y)) xs ≡ cons_option o (filter_map f xs)
    by None e = e
    by (Some y) e = ap (λ ys. y ∷ ys) e
