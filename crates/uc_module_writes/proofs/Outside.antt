-- What stepping an instance writes, and which parts meet outside it.
use Rattle.std.proofs.Common.{◌≡◌, ℕ, Bool, true, false, List, [], ◌∷◌, ◌++◌, Option, Some, None, refl, ap, ◌∙◌, sym, subst, arith}
use Rattle.std.specs.Prelude.{◌||◌, ◌&&◌, nat_eq, not, filter, if◌then◌else◌}
use Rattle.std.specs.List.{cons_option, filter_map, list_any}
use Rattle.std.specs.Option.{option_map}
use Rattle.std.proofs.lemmas.List.Folds.{list_any-append}
use Rattle.uc_syntax.specs.declared.declaration.Module.{Module}
use Rattle.uc_meaning.specs.Lookup.{InstanceParts}
use Rattle.uc_meaning.specs.Steps.{is_prefix}
use Rattle.uc_rules.specs.Names.{names_one_of}
use Rattle.uc_order_rules.specs.Writes.{Meets, Modules, Part, is_empty, is_inside, meets_as, meets_outside, met, outer_name, outer_part, overlap, part_of_name, stepped_parts, stepping}
use Rattle.uc_order_rules.specs.Pairs.{Only, SameThings, any_pair}
use Rattle.uc_written_once.specs.declared.effects.Stepped.{Stepped}
use Rattle.uc_written_once.specs.Effects.{SameStep, stepping_of}
use Rattle.uc_module_writes.specs.declared.written.WrittenPairs.{WrittenPairs}
use Rattle.uc_module_writes.specs.Found.{FindsBlock, FindsStep, is_kept}
use Rattle.uc_order_rules.proofs.Chosen.{same_filter}
use Rattle.uc_module_writes.specs.declared.outer.OuterNames.{OuterNames}
use Rattle.uc_module_writes.specs.Outer.{IsOuter}
use Rattle.uc_module_writes.proofs.StepPartsBound.{outer_as}
use Rattle.uc_module_writes.specs.Bound.{BindsApart}
use Rattle.uc_module_writes.specs.Stepped.{IsIdle, IsStep, IsStepAs, MeetsOutside, joined, outer_pair, pair_by, unless}

none_some : {A B : Type 0} (x : B) → None ≡ Some x → A
none_some x h = cc

both_left : (b c : Bool) → (b && c) ≡ true → b ≡ true
both_left true c h = refl
both_left false c h = absurd cc

both_right : (b c : Bool) → (b && c) ≡ true → c ≡ true
both_right true c h = h
both_right false c h = absurd cc

any_as : {A : Type 0} (f g : A → Bool) (xs : List A) → ((x : A) → f x ≡ g x) → list_any f xs ≡ list_any g xs
any_as f g [] h = refl
any_as f g (x ∷ xs) h = (λ k. h x k || any_as f g xs h k)

-- a test of what there is
abbrev passes : {B : Type 0} → (B → Bool) → Option B → Bool
passes test None = false
passes test (Some y) = test y

any_filtered : {A B : Type 0} (f : A → Option B) (test : B → Bool) (xs : List A) → list_any test (filter_map f xs) ≡ list_any (λ x. passes test (f x)) xs
any_filtered {B = B} f test [] = refl
any_filtered {B = B} f test (x ∷ xs) = by (f x) (any_filtered f test xs)
  where
    by : (o : Option B) → list_any test (filter_map f xs) ≡ list_any (λ y. passes test (f y)) xs → list_any test (cons_option o (filter_map f xs)) ≡ (passes test o || list_any (λ y. passes test (f y)) xs)
    by None e = e
    by (Some y) e = ap (λ c. test y || c) e

filter_same : {A B : Type 0} (f : A → Option B) (xs ys : List A) → SameThings xs ys → SameThings (filter_map f xs) (filter_map f ys)
filter_same f xs ys same test = any_filtered f test xs ∙ same (λ x. passes test (f x)) ∙ sym (any_filtered f test ys)

stepped_same : (i : InstanceParts) (xs ys : List Part) → SameThings xs ys → SameThings (stepped_parts i xs) (stepped_parts i ys)
stepped_same i xs ys same test =
    list_any-append test (filter_map (outer_part i) xs) (if list_any (is_inside i) xs then part_of_name i.name ∷ [] else [])
    ∙ (λ k. filter_same (outer_part i) xs ys same test k || list_any test (if same (is_inside i) k then part_of_name i.name ∷ [] else []))
    ∙ sym (list_any-append test (filter_map (outer_part i) ys) (if list_any (is_inside i) ys then part_of_name i.name ∷ [] else []))

-- pairs that meet outside are those that meet as pairs of the parent
pub pairs_outside : (i : InstanceParts) (meets : Meets) (ps : List (Part × Part)) → any_pair meets (filter_map (outer_pair i) ps) ≡ any_pair (meets_outside i meets) ps
pairs_outside i meets [] = refl
pairs_outside i meets (p ∷ ps) = by (overlap p.0 p.1) (outer_part i p.0) (outer_part i p.1) (pairs_outside i meets ps)
  where
    by : (b : Bool) (o r : Option Part) → any_pair meets (filter_map (outer_pair i) ps) ≡ any_pair (meets_outside i meets) ps →
        any_pair meets (cons_option (unless b (joined o r)) (filter_map (outer_pair i) ps)) ≡ ((not b && meets_as meets o r) || any_pair (meets_outside i meets) ps)
    by true o r e = e
    by false None r e = e
    by false (Some q) None e = e
    by false (Some q) (Some s) e = ap (λ c. meets q s || c) e

module _ (names : List ℕ) (i : InstanceParts) where
  -- where all names that are bound to names are among the names
  module _ (bound : (x y : ℕ) → outer_name i x ≡ Some y → names_one_of names x ≡ true) where
    outer_kept : (p q : Part) → outer_part i p ≡ Some q → is_kept names p ≡ true
    outer_kept [] q h = none_some q h
    outer_kept (x ∷ fields) q h = by (outer_name i x) refl h
      where
        by : (o : Option ℕ) → outer_name i x ≡ o → option_map (λ y. y ∷ fields) o ≡ Some q → names_one_of names x ≡ true
        by None e k = none_some q k
        by (Some y) e k = bound x y e

    only_outside : (meets : Meets) → Only (is_kept names) (meets_outside i meets)
    only_outside meets p q h = by (outer_part i p) (outer_part i q) refl refl (both_right (not (overlap p q)) (meets_as meets (outer_part i p) (outer_part i q)) h)
      where
        by : (o r : Option Part) → outer_part i p ≡ o → outer_part i q ≡ r → meets_as meets o r ≡ true → (is_kept names p ≡ true) × (is_kept names q ≡ true)
        by (Some u) (Some v) e f k = (outer_kept p u e, outer_kept q v f)
        by (Some u) None e f k = absurd cc
        by None r e f k = absurd cc

    pub bound_outside : MeetsOutside names i
    bound_outside = record { own = only_outside overlap; passed = λ meets only. only_outside meets }

-- where no two names are bound to one, no parts meet outside alone
same_heads : (a b : ℕ) (f g : Part) → overlap (a ∷ f) (b ∷ g) ≡ true → a ≡ b
unfolding is_prefix
same_heads a b f g h = by (nat_eq a b) (nat_eq b a) refl refl h
  where
    by : (c d : Bool) → nat_eq a b ≡ c → nat_eq b a ≡ d → ((c && is_prefix f g) || (d && is_prefix g f)) ≡ true → a ≡ b
    by true d e k i = grind (arith, e)
    by false true e k i = grind (arith, k)
    by false false e k i = absurd cc

other_heads : (a b : ℕ) (f g : Part) → overlap (a ∷ f) (a ∷ g) ≡ overlap (b ∷ f) (b ∷ g)
unfolding is_prefix
other_heads a b f g = let here : nat_eq a a ≡ true = grind arith in let there : nat_eq b b ≡ true = grind arith in (λ k. (here k && is_prefix f g) || (here k && is_prefix g f)) ∙ sym (λ k. (there k && is_prefix f g) || (there k && is_prefix g f))

nothing_kept : {A : Type 0} (p : Part) → is_kept [] p ≡ true → A
nothing_kept [] h = absurd cc
nothing_kept (x ∷ fields) h = absurd cc

module _ (i : InstanceParts) (apart : BindsApart i.bindings) where
  none_outside : (p q : Part) → meets_outside i overlap p q ≡ true → ⊥
  none_outside [] q h = let bad : false ≡ true = both_right (not (overlap [] q)) false h in cc
  none_outside (x ∷ f) [] h = by (outer_part i (x ∷ f)) (both_right (not (overlap (x ∷ f) [])) (meets_as overlap (outer_part i (x ∷ f)) None) h)
    where
      by : (o : Option Part) → meets_as overlap o None ≡ true → ⊥
      by None k = cc
      by (Some u) k = cc
  none_outside (x ∷ f) (y ∷ g) h =
      by (outer_name i x) (outer_name i y) refl refl (both_left (not (overlap (x ∷ f) (y ∷ g))) (meets_as overlap (outer_part i (x ∷ f)) (outer_part i (y ∷ g))) h)
      (both_right (not (overlap (x ∷ f) (y ∷ g))) (meets_as overlap (outer_part i (x ∷ f)) (outer_part i (y ∷ g))) h)
    where
      by : (o r : Option ℕ) → outer_name i x ≡ o → outer_name i y ≡ r → not (overlap (x ∷ f) (y ∷ g)) ≡ true → meets_as overlap (option_map (λ u. u ∷ f) o) (option_map (λ u. u ∷ g) r) ≡ true → ⊥
      by (Some u) (Some v) e d away meet =
          let one : u ≡ v = same_heads u v f g meet in
          let same : x ≡ y = apart x y u e (d ∙ ap (λ n. Some n) (sym one)) in
          let there : overlap (x ∷ f) (y ∷ g) ≡ true =
          ap (λ n. overlap (x ∷ f) (n ∷ g)) (sym same) ∙ other_heads x u f g ∙ ap (λ n. overlap (u ∷ f) (n ∷ g)) one ∙ meet in
          let bad : false ≡ true = sym (ap not there) ∙ away in cc
      by (Some u) None e d away meet = cc
      by None r e d away meet = cc

  pub apart_outside : MeetsOutside [] i
  apart_outside = record {
    own = λ p q h. absurd (none_outside p q h);
    passed = λ meets only p q h. by meets only p q (outer_part i p) (outer_part i q) (both_right (not (overlap p q)) (meets_as meets (outer_part i p) (outer_part i q)) h);
  }
    where
      by : (meets : Meets) → Only (is_kept []) meets → (p q : Part) (o r : Option Part) → meets_as meets o r ≡ true → (is_kept [] p ≡ true) × (is_kept [] q ≡ true)
      by meets only p q (Some u) (Some v) k = nothing_kept u (only u v k).0
      by meets only p q (Some u) None k = absurd cc
      by meets only p q None r k = absurd cc

module _ (names : List ℕ) (i : InstanceParts) (outside : MeetsOutside names i) where
  module _ (modules : Modules) (m : Module) (inner w : WrittenPairs) (block : FindsBlock names (λ meets. modules meets m) inner) (step : IsStep names inner i w) where
    step_parts : (meets : Meets) → SameThings (stepped_parts i (modules meets m).happens) w.parts
    step_parts meets test = stepped_same i (modules meets m).happens inner.parts (block.parts meets) test ∙ sym (step.parts test)

    step_meet : (meets : Meets) → Only (is_kept names) (meets_outside i meets) → not (is_empty (modules (meets_outside i meets) m).faults) ≡ any_pair meets w.pairs
    step_meet meets only = block.meet (meets_outside i meets) only ∙ sym (pairs_outside i meets inner.pairs) ∙ sym (step.pairs (λ p. meets p.0 p.1))

    step_found : FindsStep names (λ meets. stepping modules meets i (Some m)) w
    step_found = record { parts = step_parts; meet = λ meets only. step_meet meets (outside.passed meets only); kept = step.kept }

    step_same : (s : Stepped) → s.parts ≡ w.parts → s.meet ≡ any_pair overlap w.pairs → SameStep (stepping_of (Some s)) (stepping modules overlap i (Some m))
    step_same s parts meet = record {
      parts = λ p. ap (λ ps. met overlap ps p) parts ∙ sym (step_parts overlap (λ q. overlap q p));
      meet = meet ∙ sym (step_meet overlap outside.own);
    }

  idle_found : (modules : Modules) (w : WrittenPairs) → IsIdle w → FindsStep names (λ meets. stepping modules meets i None) w
  idle_found modules w idle = record {
    parts = λ meets test. sym (ap (list_any test) idle.parts);
    meet = λ meets only. sym (ap (any_pair meets) idle.pairs);
    kept = λ test. ap (list_any test) idle.kept ∙ sym (ap (λ ps. list_any test (filter (is_kept names) ps)) idle.parts);
  }

  idle_same : (modules : Modules) (w : WrittenPairs) (s : Stepped) → IsIdle w → s.parts ≡ w.parts → s.meet ≡ any_pair overlap w.pairs → SameStep (stepping_of (Some s)) (stepping modules overlap i None)
  idle_same modules w s idle parts meet = record {
    parts = λ p. ap (λ ps. met overlap ps p) (parts ∙ idle.parts);
    meet = meet ∙ ap (any_pair overlap) idle.pairs;
  }

-- The step of an instance, by whether its module is there.
abbrev pub BlockAs : List ℕ → Modules → Option WrittenPairs → Option Module → Type 0
BlockAs names modules None None = Unit {0}
BlockAs names modules (Some w) (Some m) = FindsBlock names (λ meets. modules meets m) w
BlockAs names modules o p = ⊥

module _ (names : List ℕ) (modules : Modules) (i : InstanceParts) (outside : MeetsOutside names i) (w : WrittenPairs) where
  pub found_as : (o : Option WrittenPairs) (p : Option Module) → BlockAs names modules o p → IsStepAs names o i w → FindsStep names (λ meets. stepping modules meets i p) w
  found_as None None block step = idle_found names i outside modules w step
  found_as (Some inner) (Some m) block step = step_found names i outside modules m inner w block step
  found_as None (Some m) block step = absurd block
  found_as (Some inner) None block step = absurd block

  pub same_as : (o : Option WrittenPairs) (p : Option Module) (s : Stepped) → BlockAs names modules o p → IsStepAs names o i w → s.parts ≡ w.parts → s.meet ≡ any_pair overlap w.pairs → SameStep (stepping_of (Some s)) (stepping modules overlap i p)
  same_as None None s block step = idle_same names i outside modules w s step
  same_as (Some inner) (Some m) s block step = step_same names i outside modules m inner w block step s
  same_as None (Some m) s block step = absurd block
  same_as (Some inner) None s block step = absurd block

-- What was made of the step of an instance.

pair_as : (t : OuterNames) (i : InstanceParts) → IsOuter t i → (ps : List (Part × Part)) → filter_map (pair_by t) ps ≡ filter_map (outer_pair i) ps
pair_as t i outer [] = refl
pair_as t i outer (p ∷ ps) = (λ k. cons_option (unless (overlap p.0 p.1) (joined (outer_as t i outer p.0 k) (outer_as t i outer p.1 k))) (pair_as t i outer ps k))

pub step_made : (names : List ℕ) (inner : WrittenPairs) (i : InstanceParts) (outer : OuterNames) (none mid w : WrittenPairs) (ps slice : List Part) (qs : List (Part × Part)) → IsOuter outer i → none.parts ≡ [] → none.kept ≡ [] → none.pairs ≡ [] →
    slice ≡ stepped_parts i ps → ps ≡ inner.parts → qs ≡ inner.pairs → SameThings mid.parts (none.parts ++ slice) → SameThings mid.kept (none.kept ++ filter (is_kept names) slice) → mid.pairs ≡ none.pairs → w.parts ≡ mid.parts → w.kept ≡ mid.kept →
    SameThings w.pairs (mid.pairs ++ filter_map (pair_by outer) qs) → IsStep names inner i w
step_made names inner i outer none mid w ps slice qs is no-parts no-kept no-pairs slice-is ps-is qs-is parts kept pairs parts-stay kept-stay more = record {
  parts = λ test. ap (list_any test) parts-stay ∙ parts test ∙ (λ k. list_any test (no-parts k ++ slice-is k)) ∙ ap (λ x. list_any test (stepped_parts i x)) ps-is;
  pairs = λ test. more test ∙ (λ k. list_any test ((pairs ∙ no-pairs) k ++ (pair_as outer i is qs ∙ ap (filter_map (outer_pair i)) qs-is) k));
  kept = λ test.
      ap (list_any test) kept-stay ∙ kept test ∙ ap (λ x. list_any test (x ++ filter (is_kept names) slice)) no-kept
      ∙ sym (same_filter (is_kept names) mid.parts slice (λ t. parts t ∙ ap (λ x. list_any t (x ++ slice)) no-parts) test)
      ∙ sym (ap (λ x. list_any test (filter (is_kept names) x)) parts-stay);
}

pub idle_step : (names : List ℕ) (o : Option WrittenPairs) (i : InstanceParts) (w : WrittenPairs) → None ≡ o → w.parts ≡ [] → w.kept ≡ [] → w.pairs ≡ [] → IsStepAs names o i w
idle_step names o i w none parts kept pairs = subst (λ p. IsStepAs names p i w) none (record { parts = parts; kept = kept; pairs = pairs })

pub some_step : (names : List ℕ) (o : Option WrittenPairs) (i : InstanceParts) (inner w : WrittenPairs) → Some inner ≡ o → IsStep names inner i w → IsStepAs names o i w
some_step names o i inner w some step = subst (λ p. IsStepAs names p i w) some step
