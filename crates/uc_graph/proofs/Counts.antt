-- How many nodes are left.
use Rattle.std.proofs.Common.{◌≡◌, ℕ, zero, suc, ◌+◌, ◌<◌, ◌≤◌, Bool, true, false, List, [], ◌∷◌, length, refl, ap, ◌∙◌, arith, inl, inr, ⊎_elim}
use Rattle.std.specs.Prelude.{slice_index_or, slice_set}
use Rattle.uc_graph.specs.NeededFirstSteady.{IsFewer, open_count}
use Rattle.uc_graph.proofs.NeededFirstHas.{nothing}

pub open_set : (bs : List Bool) (n : ℕ) → n < length bs → slice_index_or bs n false ≡ false → open_count (slice_set bs n true) + 1 ≡ open_count bs
unfolding open_count
open_set [] n within h = absurd (omega (arith, within))
open_set (true ∷ bs) zero within h = nothing h
open_set (false ∷ bs) zero within h = omega arith
open_set (true ∷ bs) (suc n) within h = open_set bs n (omega (arith, within)) h
open_set (false ∷ bs) (suc n) within h = omega (arith, open_set bs n (omega (arith, within)) h)

pub fewer_same : (bs : List Bool) (ns : List ℕ) → IsFewer bs ns bs ns
fewer_same bs ns = record { fewer = omega arith; one_less = inl refl }

pub fewer_set : (bs : List Bool) (ns : List ℕ) (n : ℕ) (cs : List Bool) (ms : List ℕ) → n < length bs → slice_index_or bs n false ≡ false → cs ≡ slice_set bs n true → IsFewer bs ns cs ms
fewer_set bs ns n cs ms within h is =
    let less = open_set bs n within h in
    let e : open_count cs ≡ open_count (slice_set bs n true) = ap open_count is in
    record { fewer = omega (arith, less, e); one_less = inr (omega (arith, less, e)) }

pub fewer_kept : (bs cs : List Bool) (ns ms : List ℕ) → cs ≡ bs → ms ≡ ns → IsFewer bs ns cs ms
fewer_kept bs cs ns ms e f = let h : open_count cs ≡ open_count bs = ap open_count e in record { fewer = omega (arith, h); one_less = inl f }

pub fewer_still : (bs cs ds : List Bool) (ns ms ls : List ℕ) → IsFewer bs ns cs ms → IsFewer cs ms ds ls → IsFewer bs ns ds ls
fewer_still bs cs ds ns ms ls h k = record {
  fewer = omega (arith, h.fewer, k.fewer);
  one_less =
      ⊎_elim
      (λ e. ⊎_elim (λ f. inl (e ∙ f)) (λ f. inr (omega (arith, f, k.fewer))) h.one_less)
      (λ e. inr (omega (arith, e, h.fewer))) k.one_less;
}

-- one where some are left
abbrev pub one_if_any : List ℕ → ℕ
one_if_any [] = 0
one_if_any (n ∷ ns) = 1

one_most : (ns : List ℕ) → one_if_any ns ≤ 1
one_most [] = omega arith
one_most (n ∷ ns) = omega arith

one_there : (ns : List ℕ) → 0 < length ns → one_if_any ns ≡ 1
one_there [] h = absurd (omega (arith, h))
one_there (n ∷ ns) h = refl

pub smaller : (bs cs : List Bool) (ns ms : List ℕ) → 0 < length ns → IsFewer bs [] cs ms → open_count cs + one_if_any ms < open_count bs + one_if_any ns
smaller bs cs ns ms h k =
    let there = one_there ns h in
    ⊎_elim
    (λ e. let none : one_if_any ms ≡ 0 = ap one_if_any e in omega (arith, there, none, k.fewer))
    (λ e. omega (arith, there, one_most ms, e)) k.one_less
