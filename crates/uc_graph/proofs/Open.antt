-- The open places by their flags.
use Rattle.std.proofs.Common.{◌≡◌, ℕ, zero, suc, ◌+◌, ◌<◌, Bool, true, false, List, [], ◌∷◌, ◌++◌, length, refl, sym, ap, ◌∙◌, arith, ⊎_elim}
use Rattle.std.specs.Prelude.{slice_set, replicate}
use Rattle.uc_graph.specs.Order.{has}
use Rattle.uc_graph.specs.Places.{numbers_from}
use Rattle.uc_graph.specs.FirstFreeSteady.{IsOpen, open_from}
use Rattle.uc_graph.proofs.FirstFreeHas.{nothing, has_cons, has_first, has_more}

-- an open place is within the flags
pub open_within : (flags : List Bool) (n : ℕ) → IsOpen flags n → n < length flags
open_within [] n h = nothing h
open_within (b ∷ flags) zero h = omega arith
open_within (b ∷ flags) (suc n) h = omega (arith, open_within flags n h)

-- all are open at first
pub all_open : (n first : ℕ) → open_from first (replicate n false) ≡ numbers_from first n
unfolding open_from numbers_from
all_open zero first = refl
all_open (suc n) first = ap (λ ns. first ∷ ns) (all_open n (suc first))

pub numbers_count : (n first : ℕ) → length (numbers_from first n) ≡ n
unfolding numbers_from
numbers_count zero first = refl
numbers_count (suc n) first = omega (arith, numbers_count n (suc first))

pub open_is_listed : (flags : List Bool) (first n : ℕ) → IsOpen flags n → has (open_from first flags) (first + n) ≡ true
unfolding open_from
open_is_listed [] first n h = nothing h
open_is_listed (true ∷ flags) first zero h = nothing h
open_is_listed (true ∷ flags) first (suc n) h = ap (has (open_from (suc first) flags)) (omega arith) ∙ open_is_listed flags (suc first) n h
open_is_listed (false ∷ flags) first zero h = ap (has (first ∷ open_from (suc first) flags)) (omega arith) ∙ has_first first (open_from (suc first) flags)
open_is_listed (false ∷ flags) first (suc n) h =
    has_more first (open_from (suc first) flags) (first + suc n) (ap (has (open_from (suc first) flags)) (omega arith) ∙ open_is_listed flags (suc first) n h)

abbrev pub At : List Bool → ℕ → ℕ → Type 0
At flags first m = (n : ℕ) × (m ≡ first + n) × IsOpen flags n

pub listed_is_open : (flags : List Bool) (first m : ℕ) → has (open_from first flags) m ≡ true → At flags first m
unfolding open_from
listed_is_open [] first m h = nothing (sym h)
listed_is_open (true ∷ flags) first m h = let a = listed_is_open flags (suc first) m h in (suc a.0, omega (arith, a.1), a.2)
listed_is_open (false ∷ flags) first m h =
    ⊎_elim (λ e. (0, omega (arith, e), refl)) (λ r. let a = listed_is_open flags (suc first) m r in (suc a.0, omega (arith, a.1), a.2)) (has_cons first (open_from (suc first) flags) m h)

-- the open places before one, and those behind it
pub record Split (flags : List Bool) (first n : ℕ) : Type 0 where
  pub front : List ℕ
  pub behind : List ℕ
  pub whole : open_from first flags ≡ front ++ (first + n) ∷ behind
  pub others : open_from first (slice_set flags n true) ≡ front ++ behind
  pub below : (m : ℕ) → has front m ≡ true → m < first + n
  pub above : (m : ℕ) → has behind m ≡ true → first + n < m

behind_all : (flags : List Bool) (first m : ℕ) → has (open_from (suc first) flags) m ≡ true → first < m
behind_all flags first m h = let a = listed_is_open flags (suc first) m h in omega (arith, a.1)

pub split_at : (flags : List Bool) (first n : ℕ) → IsOpen flags n → Split flags first n
unfolding open_from
split_at [] first n h = nothing h
split_at (true ∷ flags) first zero h = nothing h
split_at (true ∷ flags) first (suc n) h =
    let s = split_at flags (suc first) n h in
    let at : suc first + n ≡ first + suc n = omega arith in
    record {
      front = s.front;
      behind = s.behind;
      whole = s.whole ∙ ap (λ k. s.front ++ k ∷ s.behind) at;
      others = s.others;
      below = λ m k. omega (arith, s.below m k);
      above = λ m k. omega (arith, s.above m k);
    }
split_at (false ∷ flags) first zero h = record {
  front = [];
  behind = open_from (suc first) flags;
  whole = ap (λ k. k ∷ open_from (suc first) flags) (omega arith);
  others = refl;
  below = λ m k. nothing (sym k);
  above = λ m k. omega (arith, behind_all flags first m k);
}
split_at (false ∷ flags) first (suc n) h =
    let s = split_at flags (suc first) n h in
    let at : suc first + n ≡ first + suc n = omega arith in
    record {
      front = first ∷ s.front;
      behind = s.behind;
      whole = ap (λ ns. first ∷ ns) (s.whole ∙ ap (λ k. s.front ++ k ∷ s.behind) at);
      others = ap (λ ns. first ∷ ns) s.others;
      below = λ m k. ⊎_elim (λ e. omega (arith, e)) (λ r. omega (arith, s.below m r)) (has_cons first s.front m k);
      above = λ m k. omega (arith, s.above m k);
    }
