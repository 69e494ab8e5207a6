-- Edges that are added one after another.
use Rattle.std.proofs.Common.{◌≡◌, ℕ, zero, suc, ◌+◌, ◌<◌, ◌≤◌, Bool, true, false, List, [], ◌∷◌, ◌++◌, length, take, get_or, Some, None, refl, ap, sym, subst, ◌∙◌, ◌⊎◌, inl, inr, ⊎_elim, arith, append_assoc}
use Rattle.std.specs.Prelude.{nat_eq, ◌||◌, replicate, slice_get, slice_index_or, slice_set}
use Rattle.std.proofs.lemmas.List.{length-replicate, take_all}
use Rattle.std.proofs.lemmas.List.Folds.{list_any-append}
use Rattle.uc_rules.proofs.Lists.{take_turn}
use Rattle.uc_declared_types.specs.AliasLaw.{IsAmong}
use Rattle.uc_declared_types.proofs.Among.{among_left, among_right, among_split}
use Rattle.uc_syntax.proofs.Added.{append_nil}
use Rattle.uc_graph.specs.Order.{has, needs}
use Rattle.uc_step_cycles.specs.declared.stepped_blocks.Block.{Block}
use Rattle.uc_step_cycles.specs.Edges.{AddsEdges, Edge, HasEdges, each_at}
use Rattle.uc_step_cycles.specs.StepEdgesNumbers.{bases_from, block_size, total_from}

equal : (n m : ℕ) → nat_eq n m ≡ true → n ≡ m
equal n m h = grind (arith, h)

same : (n : ℕ) → nat_eq n n ≡ true
same n = grind arith

nothing : {A : Type 0} → true ≡ false → A
nothing h = cc

either : (b c : Bool) → (b || c) ≡ true → (b ≡ true) ⊎ (c ≡ true)
either true c h = inl refl
either false c h = inr h

or_left : (b c : Bool) → b ≡ true → (b || c) ≡ true
or_left true c h = refl
or_left false c h = nothing (sym h)

or_right : (b c : Bool) → c ≡ true → (b || c) ≡ true
or_right true c h = refl
or_right false c h = h

or_none : (b : Bool) → (b || false) ≡ b
or_none true = refl
or_none false = refl

has_push : (ns : List ℕ) (x n : ℕ) → has (ns ++ x ∷ []) n ≡ (has ns n || nat_eq n x)
has_push ns x n = list_any-append (nat_eq n) ns (x ∷ []) ∙ ap (λ b. has ns n || b) (or_none (nat_eq n x))

set_cases : (us : List (List ℕ)) (p k : ℕ) (xs : List ℕ) →
    ((needs (slice_set us p xs) k ≡ needs us k) × (k ≡ p → length us ≤ p)) ⊎ ((k ≡ p) × (p < length us) × (needs (slice_set us p xs) k ≡ xs))
set_cases [] zero k xs = inl (refl, λ e. omega arith)
set_cases [] (suc p) k xs = inl (refl, λ e. omega arith)
set_cases (u ∷ us) zero zero xs = inr (refl, omega arith, refl)
set_cases (u ∷ us) zero (suc k) xs = inl (refl, λ e. absurd (omega (arith, e)))
set_cases (u ∷ us) (suc p) zero xs = inl (refl, λ e. absurd (omega (arith, e)))
set_cases (u ∷ us) (suc p) (suc k) xs =
    ⊎_elim (λ a. inl (a.0, λ e. let r = a.1 (omega (arith, e)) in omega (arith, r))) (λ b. inr (ap suc b.0, omega (arith, b.1), b.2)) (set_cases us p k xs)

length_set : (us : List (List ℕ)) (p : ℕ) (xs : List ℕ) → length (slice_set us p xs) ≡ length us
length_set [] zero xs = refl
length_set [] (suc p) xs = refl
length_set (u ∷ us) zero xs = refl
length_set (u ∷ us) (suc p) xs = ap suc (length_set us p xs)

pub adds_none : (us : List (List ℕ)) → AddsEdges us us []
unfolding IsAmong
adds_none us = record { size = refl; kept = λ a b h. h; only = λ a b h. inl h; there = λ a b l h. absurd h }

pub adds_one : (a b : ℕ) (us vs : List (List ℕ)) → vs ≡ slice_set us a (slice_index_or us a [] ++ b ∷ []) → AddsEdges us vs ((a, b) ∷ [])
unfolding IsAmong
adds_one a b us vs is = subst (λ ws. AddsEdges us ws ((a, b) ∷ [])) (sym is) (record {
  size = length_set us a more;
  kept = λ k n h.
      ⊎_elim (λ s. ap (λ ns. has ns n) s.0 ∙ h)
      (λ s. ap (λ ns. has ns n) s.2 ∙ has_push (needs us a) b n ∙ or_left (has (needs us a) n) (nat_eq n b) (ap (λ j. has (needs us j) n) (sym s.0) ∙ h)) (set_cases us a k more);
  only = λ k n h.
      ⊎_elim (λ s. inl (sym (ap (λ ns. has ns n) s.0) ∙ h))
      (λ s. ⊎_elim (λ old. inl (ap (λ j. has (needs us j) n) s.0 ∙ old)) (λ new. inr (inl (λ i. (s.0 i, equal n b new i))))
      (either (has (needs us a) n) (nat_eq n b) (sym (ap (λ ns. has ns n) s.2 ∙ has_push (needs us a) b n) ∙ h))) (set_cases us a k more);
  there = λ k n within h.
      let e = ⊎_elim (λ e. e) (λ r. absurd r) h in
      let at : k ≡ a = ap (λ (p : Edge). p.0) e in
      let to : n ≡ b = ap (λ (p : Edge). p.1) e in
      ⊎_elim (λ s. let past = s.1 at in absurd (omega (arith, past, within, at)))
      (λ s. ap (λ ns. has ns n) s.2 ∙ has_push (needs us a) b n ∙ or_right (has (needs us a) n) (nat_eq n b) (ap (nat_eq n) (sym to) ∙ same n)) (set_cases us a k more);
})
  where
    more : List ℕ
    more = needs us a ++ b ∷ []

pub adds_two : (xs ys : List Edge) (us vs ws : List (List ℕ)) → AddsEdges us vs xs → AddsEdges vs ws ys → AddsEdges us ws (xs ++ ys)
adds_two xs ys us vs ws a b = record {
  size = b.size ∙ a.size;
  kept = λ k n h. b.kept k n (a.kept k n h);
  only = λ k n h.
      ⊎_elim
      (λ mid. ⊎_elim (λ old. inl old) (λ new. inr (among_left (k, n) xs ys new)) (a.only k n mid))
      (λ new. inr (among_right (k, n) xs ys new)) (b.only k n h);
  there = λ k n within h. ⊎_elim (λ one. b.kept k n (a.there k n within one)) (λ two. let size = a.size in b.there k n (omega (arith, within, size)) two) (among_split (k, n) xs ys h);
}

pub adds_by : (xs ys : List Edge) (us vs : List (List ℕ)) → ys ≡ xs → AddsEdges us vs xs → AddsEdges us vs ys
adds_by xs ys us vs is h = subst (AddsEdges us vs) (sym is) h

-- ---- the first of a list

each_push : {X B : Type 0} (f : ℕ → X → List B) (k : ℕ) (xs : List X) (x : X) → each_at f k (xs ++ x ∷ []) ≡ each_at f k xs ++ f (k + length xs) x
unfolding each_at
each_push f k [] x = append_nil (f k x) ∙ ap (λ n. f n x) (none k)
  where
    none : (n : ℕ) → n ≡ n + 0
    none n = omega arith
each_push f k (y ∷ xs) x =
    ap (λ es. f k y ++ es) (each_push f (suc k) xs x)
    ∙ sym (append_assoc (f k y) (each_at f (suc k) xs) (f (suc k + length xs) x))
    ∙ ap (λ n. (f k y ++ each_at f (suc k) xs) ++ f n x) (shift k (length xs))
  where
    shift : (n m : ℕ) → suc n + m ≡ n + suc m
    shift n m = omega arith

take_length : {X : Type 0} (k : ℕ) (xs : List X) → k < length xs → length (take k xs) ≡ k
take_length zero xs h = refl
take_length (suc k) [] h = absurd (omega (arith, h))
take_length (suc k) (x ∷ xs) h = ap suc (take_length k xs (omega (arith, h)))

pub record UpTo {X : Type 0} (f : ℕ → X → List Edge) (xs : List X) (old : List (List ℕ)) (k : ℕ) (now : List (List ℕ)) : Type 0 where
  pub is : AddsEdges old now (each_at f 0 (take k xs))

module _ {X : Type 0} (f : ℕ → X → List Edge) (xs : List X) (old : List (List ℕ)) where
  pub upto_begin : UpTo f xs old 0 old
  unfolding each_at
  upto_begin = record { is = adds_none old }

  pub upto_more : (k : ℕ) (now after : List (List ℕ)) (x d : X) → UpTo f xs old k now → k < length xs → x ≡ get_or xs k d → AddsEdges now after (f k x) → UpTo f xs old (k + 1) after
  upto_more k now after x d held within at adds = record {
    is = adds_by (each_at f 0 (take k xs) ++ f k x) (each_at f 0 (take (k + 1) xs)) old after
        (ap (each_at f 0) (take_turn xs k x d within at) ∙ each_push f 0 (take k xs) x ∙ ap (λ n. each_at f 0 (take k xs) ++ f n x) (place k (length (take k xs)) (take_length k xs within)))
        (adds_two (each_at f 0 (take k xs)) (f k x) old now after held.is adds);
  }
    where
      place : (k n : ℕ) → n ≡ k → 0 + n ≡ k
      place k n e = omega (arith, e)

  pub upto_end : (k : ℕ) (now : List (List ℕ)) → UpTo f xs old k now → length xs ≤ k → AddsEdges old now (each_at f 0 xs)
  upto_end k now held past = adds_by (each_at f 0 (take k xs)) (each_at f 0 xs) old now (sym (ap (each_at f 0) (take_all k xs past))) held.is

pub index_none : {A : Type 0} (xs : List A) (k : ℕ) (d : A) → slice_get xs k ≡ None → slice_index_or xs k d ≡ d
index_none [] zero d h = refl
index_none [] (suc k) d h = refl
index_none (x ∷ xs) zero d h = cc
index_none (x ∷ xs) (suc k) d h = index_none xs k d h

pub index_some : {A : Type 0} (xs : List A) (k : ℕ) (d x : A) → slice_get xs k ≡ Some x → slice_index_or xs k d ≡ x
index_some [] zero d x h = cc
index_some [] (suc k) d x h = cc
index_some (y ∷ xs) zero d x h = some_is y x h
  where
    some_is : {A : Type 0} (a b : A) → Some a ≡ Some b → a ≡ b
    some_is a b h = cc
index_some (y ∷ xs) (suc k) d x h = index_some xs k d x h

pub each_none : {X B : Type 0} (f : ℕ → X → List B) (k : ℕ) → each_at f k [] ≡ []
unfolding each_at
each_none f k = refl

pub adds_two_by : (xs ys zs : List Edge) (us vs ws : List (List ℕ)) → zs ≡ xs ++ ys → AddsEdges us vs xs → AddsEdges vs ws ys → AddsEdges us ws zs
adds_two_by xs ys zs us vs ws is a b = adds_by (xs ++ ys) zs us ws is (adds_two xs ys us vs ws a b)

pub adds_three_by : (xs ys zs es : List Edge) (us vs ws os : List (List ℕ)) → es ≡ xs ++ (ys ++ zs) → AddsEdges us vs xs → AddsEdges vs ws ys → AddsEdges ws os zs → AddsEdges us os es
adds_three_by xs ys zs es us vs ws os is a b c = adds_two_by xs (ys ++ zs) es us vs os is a (adds_two ys zs vs ws os b c)

pub adds_first : (xs ys : List Edge) (us vs : List (List ℕ)) → ys ≡ xs ++ [] → AddsEdges us vs xs → AddsEdges us vs ys
adds_first xs ys us vs is h = adds_by xs ys us vs (is ∙ append_nil xs) h

-- ---- the whole graph

replicate_at : (n k : ℕ) → needs (replicate n []) k ≡ []
replicate_at zero k = refl
replicate_at (suc n) zero = refl
replicate_at (suc n) (suc k) = replicate_at n k

pub whole_graph : (empty graph : List (List ℕ)) (total : ℕ) (edges : List Edge) → empty ≡ replicate total [] → AddsEdges empty graph edges → HasEdges graph total edges
whole_graph empty graph total edges is adds =
    let size : length empty ≡ total = ap length is ∙ length-replicate total [] in
    record {
      size = adds.size ∙ size;
      are = λ a b within. (
        (λ h. ⊎_elim (λ old. nothing (sym old ∙ ap (λ us. has (needs us a) b) is ∙ ap (λ ns. has ns b) (replicate_at total a))) (λ e. e) (adds.only a b h)),
        (λ e. adds.there a b (omega (arith, within, size)) e),
      );
    }

-- ---- the numbers of blocks

pub record BasesTo (start : ℕ) (bs : List Block) (k : ℕ) (bases : List ℕ) (next : ℕ) : Type 0 where
  pub bases_are : bases ≡ bases_from start (take k bs)
  pub next_is : next ≡ total_from start (take k bs)

bases_push : (start : ℕ) (bs : List Block) (b : Block) → bases_from start (bs ++ b ∷ []) ≡ bases_from start bs ++ total_from start bs ∷ []
unfolding bases_from total_from
bases_push start [] b = refl
bases_push start (c ∷ bs) b = ap (λ ns. start ∷ ns) (bases_push (start + block_size c) bs b)

total_push : (start : ℕ) (bs : List Block) (b : Block) → total_from start (bs ++ b ∷ []) ≡ total_from start bs + block_size b
unfolding total_from
total_push start [] b = refl
total_push start (c ∷ bs) b = total_push (start + block_size c) bs b

pub bases_begin : (start : ℕ) (bs : List Block) (none : List ℕ) → none ≡ [] → BasesTo start bs 0 none start
unfolding bases_from total_from
bases_begin start bs none is = record { bases_are = is; next_is = refl }

pub bases_more : (start : ℕ) (bs : List Block) (k : ℕ) (bases all : List ℕ) (next after size : ℕ) (b d : Block) → BasesTo start bs k bases next → k < length bs → b ≡ get_or bs k d → all ≡ bases ++ next ∷ [] → size ≡ block_size b → after ≡ next + size →
    BasesTo start bs (k + 1) all after
bases_more start bs k bases all next after size b d held within at pushed sized is = record {
  bases_are = pushed ∙ (λ i. held.bases_are i ++ held.next_is i ∷ []) ∙ sym (ap (bases_from start) (take_turn bs k b d within at) ∙ bases_push start (take k bs) b);
  next_is = is ∙ (λ i. held.next_is i + sized i) ∙ sym (ap (total_from start) (take_turn bs k b d within at) ∙ total_push start (take k bs) b);
}

pub bases_all : (start : ℕ) (bs : List Block) (k : ℕ) (bases : List ℕ) (next : ℕ) → BasesTo start bs k bases next → length bs ≤ k → bases ≡ bases_from start bs
bases_all start bs k bases next held past = held.bases_are ∙ ap (bases_from start) (take_all k bs past)

pub total_all : (start : ℕ) (bs : List Block) (k : ℕ) (bases : List ℕ) (next : ℕ) → BasesTo start bs k bases next → length bs ≤ k → next ≡ total_from start bs
total_all start bs k bases next held past = held.next_is ∙ ap (total_from start) (take_all k bs past)
