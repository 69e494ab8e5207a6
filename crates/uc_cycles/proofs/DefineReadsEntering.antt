-- The graph of the defines of a module as its declarations are entered.
use Rattle.std.proofs.Common.{◌≡◌, ℕ, zero, suc, ◌+◌, ◌<◌, ◌≤◌, Bool, true, false, List, [], ◌∷◌, ◌++◌, length, take, get_or, Option, Some, None, refl, ap, sym, ◌∙◌, subst, arith, ◌⊎◌, inl, inr, ⊎_elim}
use Rattle.std.specs.Prelude.{nat_eq, ◌&&◌, ◌||◌, replicate, slice_get, slice_index_or, slice_set, unwrap_or}
use Rattle.std.specs.List.{list_any}
use Rattle.indexmap.specs.IndexMap.{get}
use Rattle.std.proofs.lemmas.List.{length-replicate, take_all, take_more}
use Rattle.std.proofs.lemmas.List.Folds.{list_any-append}
use Rattle.uc_syntax.specs.declared.declaration.Decl.{Decl}
use Rattle.uc_syntax.specs.declared.declaration.Decl.TheVariants.{Function, Define}
use Rattle.uc_syntax.specs.declared.declaration.Module.{Module}
use Rattle.uc_meaning.specs.Lookup.{System, Defined, first_some, some_if}
use Rattle.uc_rules.specs.Names.{Called, CalledDefine, called_named}
use Rattle.uc_rules.specs.Reads.{body_reads, define_reads, parameter_names, reads_by}
use Rattle.uc_names.specs.declared.firsts.Firsts.{Firsts}
use Rattle.uc_graph.specs.Order.{has, needs}
use Rattle.uc_graph.proofs.Places.{found_within}
use Rattle.uc_declared_types.specs.WayLaws.{called_in}
use Rattle.uc_declared_types.proofs.Calls.{call_declared}
use Rattle.uc_declared_types.proofs.Followed.{define_followed}
use Rattle.uc_cycles.specs.declared.found.Found.{Found}
use Rattle.uc_cycles.specs.declared.uses.Uses.{Uses}
use Rattle.uc_cycles.specs.Found.{reads_found}
use Rattle.uc_cycles.specs.Uses.{AddsDirect, AddsUsers, IsClosed, KnowsCalls, UsesTo, applied_at, applies_one, calls_name, declared_reads, first_at, is_place, place_in, place_of_call, reads_at}
use Rattle.uc_cycles.proofs.Tests.{and_left, and_right, any_by, any_there, both, either, equal, nothing, or_left, or_none, or_right, same}
use Rattle.uc_cycles.proofs.Places.{First, Standing, first_is, is_place_of, place_is, stands}

-- ---- numbers in the lists of places

set_cases : (us : List (List ℕ)) (p k : ℕ) (xs : List ℕ) →
    ((needs (slice_set us p xs) k ≡ needs us k) × (k ≡ p → length us ≤ p)) ⊎ ((k ≡ p) × (p < length us) × (needs (slice_set us p xs) k ≡ xs))
set_cases [] zero k xs = inl (refl, λ e. omega arith)
set_cases [] (suc p) k xs = inl (refl, λ e. omega arith)
set_cases (u ∷ us) zero zero xs = inr (refl, omega arith, refl)
set_cases (u ∷ us) zero (suc k) xs = inl (refl, λ e. absurd (omega (arith, e)))
set_cases (u ∷ us) (suc p) zero xs = inl (refl, λ e. absurd (omega (arith, e)))
set_cases (u ∷ us) (suc p) (suc k) xs =
    ⊎_elim (λ a. inl (a.0, λ e. let r = a.1 (omega (arith, e)) in omega (arith, r))) (λ b. inr (ap suc b.0, omega (arith, b.1), b.2)) (set_cases us p k xs)

length_set : (us : List (List ℕ)) (p : ℕ) (xs : List ℕ) → length (slice_set us p xs) ≡ length us
length_set [] zero xs = refl
length_set [] (suc p) xs = refl
length_set (u ∷ us) zero xs = refl
length_set (u ∷ us) (suc p) xs = ap suc (length_set us p xs)

has_append : (a b : List ℕ) (n : ℕ) → has (a ++ b) n ≡ (has a n || has b n)
has_append a b n = list_any-append (nat_eq n) a b

has_push : (a : List ℕ) (x n : ℕ) → has (a ++ x ∷ []) n ≡ (has a n || nat_eq n x)
has_push a x n = has_append a (x ∷ []) n ∙ ap (λ b. has a n || b) (or_none (nat_eq n x))

pub users_none : (calls : Firsts ℕ) (number : ℕ) (us : List (List ℕ)) → AddsUsers calls [] number us us
users_none calls number us = record { size = refl; kept = λ k n h. h; only = λ k n h. inl h; there = λ k l h. nothing (sym h) }

-- a name that applies nothing
pub users_skip : (calls : Firsts ℕ) (name number : ℕ) (us : List (List ℕ)) → None ≡ get nat_eq calls.things name → AddsUsers calls (name ∷ []) number us us
users_skip calls name number us none = record {
  size = refl;
  kept = λ k n h. h;
  only = λ k n h. inl h;
  there = λ k l h. nothing (sym (sym (ap (λ o. is_place o k || false) (sym none)) ∙ h));
}

pub users_one : (calls : Firsts ℕ) (name number place : ℕ) (us vs : List (List ℕ)) → Some place ≡ get nat_eq calls.things name → vs ≡ slice_set us place (slice_index_or us place [] ++ number ∷ []) →
    AddsUsers calls (name ∷ []) number us vs
users_one calls name number place us vs found is = subst (AddsUsers calls (name ∷ []) number us) (sym is) (record {
  size = length_set us place more;
  kept = λ k n h.
      ⊎_elim (λ a. ap (λ ns. has ns n) a.0 ∙ h)
      (λ b. ap (λ ns. has ns n) b.2 ∙ has_push (needs us place) number n ∙ or_left (has (needs us place) n) (nat_eq n number) (ap (λ j. has (needs us j) n) (sym b.0) ∙ h)) (set_cases us place k more);
  only = λ k n h.
      ⊎_elim (λ a. inl (sym (ap (λ ns. has ns n) a.0) ∙ h))
      (λ b. ⊎_elim (λ old. inl (ap (λ j. has (needs us j) n) b.0 ∙ old)) (λ new. inr (equal n number new, applied k b.0))
      (either (has (needs us place) n) (nat_eq n number) (sym (ap (λ ns. has ns n) b.2 ∙ has_push (needs us place) number n) ∙ h))) (set_cases us place k more);
  there = λ k within h.
      ⊎_elim (λ a. let past = a.1 (the_place k h) in let e = the_place k h in absurd (omega (arith, past, within, e)))
      (λ b. ap (λ ns. has ns number) b.2 ∙ has_push (needs us place) number number ∙ or_right (has (needs us place) number) (nat_eq number number) (same number)) (set_cases us place k more);
})
  where
    more : List ℕ
    more = needs us place ++ number ∷ []

    applied : (k : ℕ) → k ≡ place → applied_at calls (name ∷ []) k ≡ true
    applied k e = or_left (is_place (get nat_eq calls.things name) k) false (place_is (get nat_eq calls.things name) k (sym found ∙ ap (λ j. Some j) (sym e)))

    the_place : (k : ℕ) → applied_at calls (name ∷ []) k ≡ true → k ≡ place
    the_place k h = ap (λ o. unwrap_or o 0) (sym (is_place_of (get nat_eq calls.things name) k (sym (or_none (is_place (get nat_eq calls.things name) k)) ∙ h)) ∙ sym found)

pub users_two : (calls : Firsts ℕ) (xs ys : List ℕ) (number : ℕ) (us vs ws : List (List ℕ)) → AddsUsers calls xs number us vs → AddsUsers calls ys number vs ws → AddsUsers calls (xs ++ ys) number us ws
users_two calls xs ys number us vs ws a b = record {
  size = b.size ∙ a.size;
  kept = λ k n h. b.kept k n (a.kept k n h);
  only = λ k n h.
      ⊎_elim
      (λ mid. ⊎_elim (λ old. inl old) (λ new. inr (new.0, joined k ∙ or_left (applied_at calls xs k) (applied_at calls ys k) new.1)) (a.only k n mid))
      (λ new. inr (new.0, joined k ∙ or_right (applied_at calls xs k) (applied_at calls ys k) new.1)) (b.only k n h);
  there = λ k within h.
      ⊎_elim (λ one. b.kept k number (a.there k within one)) (λ two. b.there k (omega (arith, within, a.size)) two)
      (either (applied_at calls xs k) (applied_at calls ys k) (sym (joined k) ∙ h));
}
  where
    joined : (k : ℕ) → applied_at calls (xs ++ ys) k ≡ (applied_at calls xs k || applied_at calls ys k)
    joined k = list_any-append (λ x. is_place (get nat_eq calls.things x) k) xs ys

pub users_more : (first calls : Firsts ℕ) (names : List ℕ) (k d number : ℕ) (us vs ws : List (List ℕ)) → calls ≡ first → k < length names → AddsUsers first (take k names) number us vs → AddsUsers calls (get_or names k d ∷ []) number vs ws →
    AddsUsers first (take (k + 1) names) number us ws
users_more first calls names k d number us vs ws same within a b =
    subst (λ ns. AddsUsers first ns number us ws) (sym (take_more names k d within))
    (users_two first (take k names) (get_or names k d ∷ []) number us vs ws a (subst (λ t. AddsUsers t (get_or names k d ∷ []) number vs ws) same b))

pub users_end : (calls : Firsts ℕ) (names : List ℕ) (k number : ℕ) (us vs : List (List ℕ)) → length names ≤ k → AddsUsers calls (take k names) number us vs → AddsUsers calls names number us vs
users_end calls names k number us vs past a = subst (λ ns. AddsUsers calls ns number us vs) (take_all k names past) a

pub direct_kept : (b c : Bool) (number : ℕ) (old mid new : List ℕ) → b ≡ c → new ≡ mid → AddsDirect b number old mid → AddsDirect c number old new
direct_kept b c number old mid new is same h n = ap (λ ns. has ns n) same ∙ h n ∙ ap (λ x. has old n || (x && nat_eq n number)) is

pub users_kept : (calls mid_calls : Firsts ℕ) (names lent : List ℕ) (number : ℕ) (old mid new : List (List ℕ)) → mid_calls ≡ calls → mid ≡ old → lent ≡ names → AddsUsers mid_calls lent number mid new → AddsUsers calls names number old new
users_kept calls mid_calls names lent number old mid new c o l h =
    subst (λ t. AddsUsers t names number old new) c (subst (λ us. AddsUsers mid_calls names number us new) o (subst (λ ns. AddsUsers mid_calls ns number mid new) l h))

replicate_at : (n k : ℕ) → needs (replicate n []) k ≡ []
replicate_at zero k = refl
replicate_at (suc n) zero = refl
replicate_at (suc n) (suc k) = replicate_at n k

less_or_same : (n k : ℕ) → n < k + 1 → (n < k) ⊎ (n ≡ k)
less_or_same zero zero h = inr refl
less_or_same zero (suc k) h = inl (omega arith)
less_or_same (suc n) zero h = absurd (omega (arith, h))
less_or_same (suc n) (suc k) h = ⊎_elim (λ a. inl (omega (arith, a))) (λ b. inr (ap suc b)) (less_or_same n k (omega (arith, h)))

pub place_in_by : (set : List ℕ) (o : Option ℕ) → place_in set o ≡ true → (j : ℕ) × (o ≡ Some j) × (has set j ≡ true)
place_in_by set None h = nothing (sym h)
place_in_by set (Some j) h = (j, refl, h)

same_some : {A : Type 0} (x y : A) → Some x ≡ Some y → x ≡ y
same_some x y h = ap (λ o. unwrap_or o x) h

module _ (s : System) (m : Module) where
  -- what a define's name applies is the define
  pub define_called : (n : ℕ) (d : Defined) (f : First m.decls n d (slice_get m.decls n)) → called_named s m f.name.name ≡ Some (CalledDefine d)
  define_called n d f =
      let st = stands f.name.name m.decls n f.first in
      let e = same_some st.declared (Define f.place f.name d.parameters d.type d.body) (sym st.there ∙ f.is) in
      call_declared s m f.name.name ∙ st.says ∙ ap (called_in f.name.name) e ∙ ap (λ b. some_if b (CalledDefine d)) (same f.name.name)

  -- a define reads state where its body does
  reads_number : (n : ℕ) (d : Defined) → First m.decls n d (slice_get m.decls n) → reads_at s m n ≡ reads_by s m (parameter_names d.parameters) (define_reads s m) d.body
  reads_number n d f = ap (declared_reads s m) f.is ∙ define_followed s m f.name.name ∙ ap (body_reads s m (define_reads s m)) (define_called n d f)

  named_reads : (g : ℕ) (d : Decl) → calls_name g d ≡ true → declared_reads s m (Some d) ≡ true → define_reads s m g ≡ true
  named_reads g (Function place i ps type) h r = nothing (sym r)
  named_reads g (Define place i ps type body) h r = ap (define_reads s m) (sym (equal i.name g h)) ∙ r
  named_reads g other h r = nothing (sym r)

  applied_reads : (g n : ℕ) → place_of_call g m.decls ≡ Some n → reads_at s m n ≡ true → define_reads s m g ≡ true
  applied_reads g n h r = let st = stands g m.decls n h in named_reads g st.declared st.named (ap (declared_reads s m) (sym st.there) ∙ r)

  pub uses_begin : (u : Uses) → KnowsCalls m.decls u.calls → u.users ≡ replicate (length m.decls) [] → u.direct ≡ [] → UsesTo s m u 0
  uses_begin u calls users direct = record {
    calls_known = calls;
    size = ap length users ∙ length-replicate (length m.decls) [];
    direct_read = λ n h. nothing (sym h ∙ ap (λ ns. has ns n) direct);
    users_read = λ n k r h. nothing (sym h ∙ ap (λ us. has (needs us n) k) users ∙ ap (λ ns. has ns k) (replicate_at (length m.decls) n));
    complete = λ set closed n below d is r. absurd (omega (arith, below));
  }

  none_some : {A : Type 0} (d : Defined) → None ≡ Some d → A
  none_some d h = cc

  -- a declaration that declares no define, or a name again
  pub uses_skip : (u : Uses) (number : ℕ) → first_at m.decls number (slice_get m.decls number) ≡ None → UsesTo s m u number → UsesTo s m u (number + 1)
  uses_skip u number none t = record {
    calls_known = t.calls_known;
    size = t.size;
    direct_read = t.direct_read;
    users_read = t.users_read;
    complete = λ set closed n below d is r.
        ⊎_elim (λ before. t.complete set closed n before d is r)
        (λ e. none_some d (sym none ∙ ap (λ j. first_at m.decls j (slice_get m.decls j)) (sym e) ∙ is)) (less_or_same n number below);
  }

  -- a define, with what is found in its body
  module _ (number : ℕ) (d : Defined) (f : Found) (u v : Uses) (is : first_at m.decls number (slice_get m.decls number) ≡ Some d) (body : (by : ℕ → Bool) → reads_found by f ≡ reads_by s m (parameter_names d.parameters) by d.body)
      (kept : v.calls ≡ u.calls) (a : AddsDirect f.state number u.direct v.direct) (b : AddsUsers u.calls f.applied number u.users v.users) (t : UsesTo s m u number) where
    found_reads : reads_found (define_reads s m) f ≡ true → reads_at s m number ≡ true
    found_reads h = reads_number number d (first_is m.decls number d (slice_get m.decls number) is) ∙ sym (body (define_reads s m)) ∙ h

    new_direct : (n : ℕ) → has v.direct n ≡ true → reads_at s m n ≡ true
    new_direct n h =
        ⊎_elim (t.direct_read n)
        (λ new.
        ap (reads_at s m) (equal n number (and_right f.state (nat_eq n number) new))
        ∙ found_reads (or_left f.state (list_any (define_reads s m) f.applied) (and_left f.state (nat_eq n number) new)))
        (either (has u.direct n) (f.state && nat_eq n number) (sym (a n) ∙ h))

    new_user : (n : ℕ) → reads_at s m n ≡ true → applied_at u.calls f.applied n ≡ true → reads_at s m number ≡ true
    new_user n r h =
        let g = any_by (λ x. is_place (get nat_eq u.calls.things x) n) f.applied h in
        let at : place_of_call g.0 m.decls ≡ Some n = sym (t.calls_known g.0) ∙ is_place_of (get nat_eq u.calls.things g.0) n g.2 in
        found_reads (or_right f.state (list_any (define_reads s m) f.applied) (any_there (define_reads s m) f.applied g.0 g.1 (applied_reads g.0 n at r)))

    new_users : (n k : ℕ) → reads_at s m n ≡ true → has (needs v.users n) k ≡ true → reads_at s m k ≡ true
    new_users n k r h = ⊎_elim (t.users_read n k r) (λ new. ap (reads_at s m) new.0 ∙ new_user n r new.1) (b.only n k h)

    still_closed : (set : List ℕ) → IsClosed v.users v.direct set → IsClosed u.users u.direct set
    still_closed set closed = record {
      begun = λ n h. closed.begun n (a n ∙ or_left (has u.direct n) (f.state && nat_eq n number) h);
      followed = λ n k h e. closed.followed n k h (b.kept n k e);
    }

    new_there : (set : List ℕ) → IsClosed v.users v.direct set → reads_found (applies_one m.decls set) f ≡ true → has set number ≡ true
    new_there set closed h =
        ⊎_elim
        (λ state. closed.begun number (a number ∙ or_right (has u.direct number) (f.state && nat_eq number number) (both f.state (nat_eq number number) state (same number))))
        (λ applied.
        let g = any_by (applies_one m.decls set) f.applied applied in
        let j = place_in_by set (place_of_call g.0 m.decls) g.2 in
        let st = stands g.0 m.decls j.0 j.1 in
        let within = found_within m.decls j.0 st.declared (sym st.there) in
        closed.followed j.0 number j.2
        (b.there j.0 (omega (arith, within, t.size))
        (any_there (λ x. is_place (get nat_eq u.calls.things x) j.0) f.applied g.0 g.1 (place_is (get nat_eq u.calls.things g.0) j.0 (t.calls_known g.0 ∙ j.1)))))
        (either f.state (list_any (applies_one m.decls set) f.applied) h)

    new_complete : (set : List ℕ) → IsClosed v.users v.direct set → (n : ℕ) → n ≡ number → (e : Defined) → first_at m.decls n (slice_get m.decls n) ≡ Some e → reads_by s m (parameter_names e.parameters) (applies_one m.decls set) e.body ≡ true → has set n ≡ true
    new_complete set closed n at e there r =
        let one : e ≡ d = same_some e d (sym there ∙ ap (λ j. first_at m.decls j (slice_get m.decls j)) at ∙ is) in
        ap (has set) at
        ∙ new_there set closed (body (applies_one m.decls set) ∙ ap (λ (x : Defined). reads_by s m (parameter_names x.parameters) (applies_one m.decls set) x.body) (sym one) ∙ r)

    pub uses_more : UsesTo s m v (number + 1)
    uses_more = record {
      calls_known = λ x. ap (λ (c : Firsts ℕ). get nat_eq c.things x) kept ∙ t.calls_known x;
      size = b.size ∙ t.size;
      direct_read = new_direct;
      users_read = new_users;
      complete = λ set closed n below e there r.
          ⊎_elim (λ before. t.complete set (still_closed set closed) n before e there r) (λ at. new_complete set closed n at e there r) (less_or_same n number below);
    }
