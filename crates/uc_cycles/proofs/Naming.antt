-- The names of the defines that read state.
use Rattle.std.proofs.Common.{◌≡◌, ℕ, zero, suc, ◌+◌, ◌<◌, ◌≤◌, Bool, true, false, List, [], ◌∷◌, ◌++◌, length, map, take, get_or, Option, Some, None, refl, ap, sym, ◌∙◌, subst, arith, ◌⊎◌, inl, inr, ⊎_elim}
use Rattle.std.specs.Prelude.{nat_eq, ◌||◌, if◌then◌else◌, replicate, slice_get, slice_index_or, unwrap_or}
use Rattle.std.specs.List.{list_any}
use Rattle.std.proofs.lemmas.List.{take_all}
use Rattle.uc_lexer.specs.declared.place.Place.{Place}
use Rattle.uc_syntax.specs.declared.place.Identifier.{Identifier}
use Rattle.uc_syntax.specs.declared.type_expression.Parameter.{Parameter}
use Rattle.uc_syntax.specs.declared.type_expression.TypeExpr.{TypeExpr}
use Rattle.uc_syntax.specs.declared.declaration.Decl.{Decl}
use Rattle.uc_syntax.specs.declared.declaration.Decl.TheVariants.{Function, Define}
use Rattle.uc_syntax.specs.declared.declaration.Module.{Module}
use Rattle.uc_meaning.specs.Lookup.{System, Defined, first_some, some_if}
use Rattle.uc_rules.specs.Names.{Called, CalledFunction, CalledDefine, called_named, names_one_of}
use Rattle.uc_rules.specs.Reads.{body_reads, define_reads, parameter_names, reads_by, reads_through}
use Rattle.uc_type_names.specs.NameSets.{with_name}
use Rattle.uc_cycles.specs.Reading.{KnowsReads}
use Rattle.uc_graph.specs.Order.{has, needs}
use Rattle.uc_graph.proofs.Places.{found_within}
use Rattle.uc_graph.specs.Reached.{IsReached, is_left}
use Rattle.uc_graph.proofs.ReachedWays.{all_reached}
use Rattle.uc_declared_types.specs.WayLaws.{called_in}
use Rattle.uc_declared_types.proofs.Calls.{call_declared}
use Rattle.uc_declared_types.proofs.Bodies.{reads_grow}
use Rattle.uc_cycles.specs.declared.uses.Uses.{Uses}
use Rattle.uc_cycles.specs.Uses.{IsClosed, UsesTo, applies_one, calls_name, declared_reads, defines_name, first_at, place_in, place_of_call, reads_at}
use Rattle.uc_cycles.proofs.Tests.{any_by, any_more, any_push, any_there, equal, nothing, or_none, or_right, same, same_bool, swapped}
use Rattle.uc_cycles.proofs.Places.{First, is_first, missing, stands}
use Rattle.uc_cycles.proofs.DefineReadsEntering.{place_in_by}

-- ---- sets of names

abbrev with_one : Bool → List ℕ → ℕ → List ℕ
with_one there names x = if there then names else names ++ x ∷ []

pub name_added : (names : List ℕ) (x y : ℕ) → names_one_of (with_name names x) y ≡ (names_one_of names y || nat_eq y x)
name_added names x y = by (names_one_of names x) refl
  where
    in_there : (b : Bool) → nat_eq y x ≡ b → names_one_of names x ≡ true → names_one_of names y ≡ (names_one_of names y || b)
    in_there true e there = ap (names_one_of names) (equal y x e) ∙ there ∙ sym (or_right (names_one_of names y) true refl)
    in_there false e there = sym (or_none (names_one_of names y))

    pushed : (ns : List ℕ) → names_one_of (ns ++ x ∷ []) y ≡ (names_one_of ns y || nat_eq y x)
    pushed ns = any_push (nat_eq y) ns x

    by : (b : Bool) → names_one_of names x ≡ b → names_one_of (with_name names x) y ≡ (names_one_of names y || nat_eq y x)
    by true there = ap (λ b. names_one_of (with_one b names x) y) there ∙ in_there (nat_eq y x) refl there
    by false new = ap (λ b. names_one_of (with_one b names x) y) new ∙ pushed names

pub any_of_map : {A : Type 0} (test : ℕ → Bool) (f : A → ℕ) (xs : List A) → list_any test (map f xs) ≡ list_any (λ x. test (f x)) xs
any_of_map test f [] = refl
any_of_map test f (x ∷ xs) = ap (λ b. test (f x) || b) (any_of_map test f xs)

-- one more of a list is named
pub named_more : {A : Type 0} (f : ℕ → A → Bool) (xs : List A) (k : ℕ) (d : A) (old new : List ℕ) → k < length xs → ((x : ℕ) → names_one_of old x ≡ list_any (f x) (take k xs)) →
    ((x : ℕ) → names_one_of new x ≡ (names_one_of old x || f x (get_or xs k d))) → (x : ℕ) → names_one_of new x ≡ list_any (f x) (take (k + 1) xs)
named_more f xs k d old new within h g x = g x ∙ ap (λ b. b || f x (get_or xs k d)) (h x) ∙ sym (any_more (f x) xs k d within)

pub named_end : {A : Type 0} (f : ℕ → A → Bool) (xs : List A) (k : ℕ) (names : List ℕ) → length xs ≤ k → ((x : ℕ) → names_one_of names x ≡ list_any (f x) (take k xs)) → (x : ℕ) → names_one_of names x ≡ list_any (f x) xs
named_end f xs k names past h x = h x ∙ ap (list_any (f x)) (take_all k xs past)

-- ---- the defines that are found

left_at : (count n : ℕ) → n < count → is_left (replicate count true) n ≡ true
left_at zero n h = absurd (omega (arith, h))
left_at (suc count) zero h = refl
left_at (suc count) (suc n) h = left_at count n (omega (arith, h))

define_in : (b : Bool) (c : Called) (o : Called) → some_if b c ≡ Some o → (b ≡ true) × (c ≡ o)
define_in true c o h = (refl, ap (λ p. unwrap_or p c) h)
define_in false c o h = cc

as_define : Called → Defined → Defined
as_define (CalledDefine d) other = d
as_define (CalledFunction s) other = other

-- a declaration that says of a name that it is a define
declares_define : (ds : List Decl) (x k : ℕ) (d : Defined) (e : Decl) → place_of_call x ds ≡ Some k → slice_get ds k ≡ Some e → called_in x e ≡ Some (CalledDefine d) → First ds k d (slice_get ds k)
unfolding as_define
declares_define ds x k d (Define place i ps type body) at there h =
    let r = define_in (nat_eq i.name x) (CalledDefine (record { parameters = ps; type = type; body = body })) (CalledDefine d) h in
    let same_parts : record { parameters = ps; type = type; body = body } ≡ d = ap (λ c. as_define c d) r.1 in
    record {
      place = place;
      name = i;
      is = there ∙ ap (λ (p : Defined). Some (Define place i p.parameters p.type p.body)) same_parts;
      first = ap (λ y. place_of_call y ds) (equal i.name x r.0) ∙ at;
    }
declares_define ds x k d (Function place i ps type) at there h =
    let r = define_in (nat_eq i.name x) (CalledFunction (record { parameters = ps; type = type })) (CalledDefine d) h in absurd (other r.1)
  where
    other : CalledFunction (record { parameters = ps; type = type }) ≡ CalledDefine d → ⊥
    other e = cc
declares_define ds x k d other at there h = cc

module _ (s : System) (m : Module) (u : Uses) (count : ℕ) (left : List Bool) (found : List ℕ) (names : List ℕ) where
  pub record Known : Type 0 where
    pub all : count ≡ length m.decls
    pub uses : UsesTo s m u count
    pub open_all : left ≡ replicate count true
    pub reached : IsReached u.users left u.direct found
    pub named : (x : ℕ) → names_one_of names x ≡ list_any (λ k. defines_name x (slice_get m.decls k)) found

  within_by : (n : ℕ) (o : Option Decl) → slice_get m.decls n ≡ o → declared_reads s m o ≡ true → n < length m.decls
  within_by n None is r = nothing (sym r)
  within_by n (Some d) is r = found_within m.decls n d (sym is)

  is_open : Known → (n : ℕ) → reads_at s m n ≡ true → is_left left n ≡ true
  is_open k n r = ap (λ bs. is_left bs n) k.open_all ∙ left_at count n (let l = within_by n (slice_get m.decls n) refl r in omega (arith, l, k.all))

  all_read : Known → (n : ℕ) → has found n ≡ true → reads_at s m n ≡ true
  all_read k n h = all_reached u.users left u.direct found (λ i. reads_at s m i ≡ true) k.reached (λ i e l. k.uses.direct_read i e) (λ i j r e l. k.uses.users_read i j r e) n h

  closed : Known → IsClosed u.users u.direct found
  closed k = record {
    begun = λ n h. k.reached.begun n h (is_open k n (k.uses.direct_read n h));
    followed = λ n j h e. k.reached.followed n j h e (is_open k j (k.uses.users_read n j (all_read k n h) e));
  }

  none_some : {A : Type 0} (c : Called) → None ≡ Some c → A
  none_some c h = cc

  at_place : Known → (f : ℕ) (d : Defined) → called_named s m f ≡ Some (CalledDefine d) → reads_by s m (parameter_names d.parameters) (applies_one m.decls found) d.body ≡ true →
      (o : Option ℕ) → place_of_call f m.decls ≡ o → place_in found o ≡ true
  at_place k f d is r None none = none_some (CalledDefine d) (sym (missing f m.decls none) ∙ sym (call_declared s m f) ∙ is)
  at_place k f d is r (Some n) at =
      let st = stands f m.decls n at in
      let there = declares_define m.decls f n d st.declared at st.there (sym st.says ∙ sym (call_declared s m f) ∙ is) in
      k.uses.complete found (closed k) n (let l = found_within m.decls n st.declared (sym st.there) in omega (arith, l, k.all)) d (is_first m.decls n d (slice_get m.decls n) there) r

  by_called : Known → (by : ℕ → Bool) → ((x : ℕ) → by x ≡ true → applies_one m.decls found x ≡ true) → (f : ℕ) (o : Option Called) → called_named s m f ≡ o → body_reads s m by o ≡ true → applies_one m.decls found f ≡ true
  by_called k by more f None is h = nothing (sym h)
  by_called k by more f (Some (CalledFunction g)) is h = nothing (sym h)
  by_called k by more f (Some (CalledDefine d)) is h =
      at_place k f d is (reads_grow s m (parameter_names d.parameters) by (applies_one m.decls found) more d.body h) (place_of_call f m.decls) refl

  -- each define that reads state is found
  entered : Known → (n f : ℕ) → reads_through n s m f ≡ true → applies_one m.decls found f ≡ true
  unfolding reads_through
  entered k zero f h = nothing (sym h)
  entered k (suc n) f h = by_called k (reads_through n s m) (entered k n) f (called_named s m f) refl h

  named_reads : (f : ℕ) (o : Option Decl) → defines_name f o ≡ true → declared_reads s m o ≡ true → define_reads s m f ≡ true
  named_reads f (Some (Define place i ps type body)) h r = ap (define_reads s m) (equal f i.name h) ∙ r
  named_reads f (Some other) h r = nothing (sym h)
  named_reads f None h r = nothing (sym h)

  names_it : (f : ℕ) (d : Decl) → calls_name f d ≡ true → declared_reads s m (Some d) ≡ true → defines_name f (Some d) ≡ true
  names_it f (Define place i ps type body) h r = swapped f i.name ∙ h
  names_it f (Function place i ps type) h r = nothing (sym r)
  names_it f other h r = nothing (sym r)

  to_reads : Known → (f : ℕ) → names_one_of names f ≡ true → define_reads s m f ≡ true
  to_reads k f h =
      let n = any_by (λ j. defines_name f (slice_get m.decls j)) found (sym (k.named f) ∙ h) in
      named_reads f (slice_get m.decls n.0) n.2 (all_read k n.0 n.1)

  to_named : Known → (f : ℕ) → define_reads s m f ≡ true → names_one_of names f ≡ true
  to_named k f h =
      let j = place_in_by found (place_of_call f m.decls) (entered k (length m.decls) f h) in
      let st = stands f m.decls j.0 j.1 in
      let r : declared_reads s m (Some st.declared) ≡ true = ap (declared_reads s m) (sym st.there) ∙ all_read k j.0 j.2 in
      k.named f ∙ any_there (λ i. defines_name f (slice_get m.decls i)) found j.0 j.2 (ap (defines_name f) st.there ∙ names_it f st.declared st.named r)

  pub reading_known : Known → KnowsReads s m names
  unfolding KnowsReads
  reading_known k f = same_bool (names_one_of names f) (define_reads s m f) (to_reads k f) (to_named k f)
