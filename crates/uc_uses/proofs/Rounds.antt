-- The rounds in which flags are found.
use Rattle.std.proofs.Common.{◌≡◌, ℕ, zero, suc, ◌+◌, ◌<◌, ◌≤◌, Bool, true, false, List, [], ◌∷◌, ◌++◌, length, take, map, get_or, refl, ap, ◌∙◌, sym, arith}
use Rattle.std.specs.Prelude.{nat_eq, slice_index_or, ◌||◌}
use Rattle.std.specs.List.{list_any}
use Rattle.std.proofs.lemmas.List.{take_all}
use Rattle.uc_rules.proofs.Lists.{take_turn}
use Rattle.uc_order_rules.specs.Uses.{has_way}
use Rattle.uc_uses.specs.Rounds.{any_flag}

-- where ways of so many steps begin
abbrev pub AreWays : List (List ℕ) → ℕ → List Bool → Type 0
AreWays graph steps flags = (n : ℕ) → slice_index_or flags n (nat_eq steps 0) ≡ has_way steps (λ k. slice_index_or graph k []) n

no_flag : (n : ℕ) → slice_index_or {A = Bool} [] n true ≡ true
no_flag zero = refl
no_flag (suc n) = refl

pub rounds_begin : (graph : List (List ℕ)) (flags : List Bool) → flags ≡ [] → AreWays graph 0 flags
unfolding has_way
rounds_begin graph flags is n = ap (λ fs. slice_index_or fs n true) is ∙ no_flag n

any_same : (f g : ℕ → Bool) (ns : List ℕ) → ((n : ℕ) → f n ≡ g n) → list_any f ns ≡ list_any g ns
any_same f g [] h = refl
any_same f g (n ∷ ns) h = (λ k. h n k || any_same f g ns h k)

one_step : (graph : List (List ℕ)) (k n : ℕ) → has_way (suc k) (λ j. slice_index_or graph j []) n ≡ list_any (has_way k (λ j. slice_index_or graph j [])) (slice_index_or graph n [])
unfolding has_way
one_step graph k n = refl

pub rounds_more : (graph : List (List ℕ)) (k : ℕ) (flags shown next : List Bool) (past : Bool) → AreWays graph k flags → shown ≡ flags → past ≡ nat_eq k 0 →
    ((n : ℕ) → slice_index_or next n false ≡ any_flag shown past (slice_index_or graph n [])) → AreWays graph (k + 1) next
rounds_more graph k flags shown next past held same past-is step n =
    let more : k + 1 ≡ suc k = omega arith in
    let later : nat_eq (k + 1) 0 ≡ false = grind arith in
    ap (slice_index_or next n) later ∙ step n ∙ ap (λ fs. any_flag fs past (slice_index_or graph n [])) same
    ∙ any_same (λ m. slice_index_or flags m past) (has_way k (λ j. slice_index_or graph j [])) (slice_index_or graph n []) (λ m. ap (slice_index_or flags m) past-is ∙ held m)
    ∙ sym (one_step graph k n) ∙ sym (ap (λ s. has_way s (λ j. slice_index_or graph j []) n) more)

-- The flags of the first nodes stand, and no others.
pub record FlaggedUpTo (graph : List (List ℕ)) (flags : List Bool) (past : Bool) (k : ℕ) (next : List Bool) : Type 0 where
  pub is : next ≡ map (any_flag flags past) (take k graph)

pub flagged_begin : (graph : List (List ℕ)) (flags : List Bool) (past : Bool) (none : List Bool) → none ≡ [] → FlaggedUpTo graph flags past 0 none
flagged_begin graph flags past none is = record { is = is }

map_join : (f : List ℕ → Bool) (xs ys : List (List ℕ)) → map f (xs ++ ys) ≡ map f xs ++ map f ys
map_join f [] ys = refl
map_join f (x ∷ xs) ys = ap (λ bs. f x ∷ bs) (map_join f xs ys)

pub flagged_more : (graph : List (List ℕ)) (flags : List Bool) (past : Bool) (k : ℕ) (next next' : List Bool) (flag : Bool) (nodes shown d : List ℕ) → FlaggedUpTo graph flags past k next → k < length graph → nodes ≡ get_or graph k d →
    shown ≡ nodes → flag ≡ any_flag flags past shown → next' ≡ next ++ flag ∷ [] → FlaggedUpTo graph flags past (k + 1) next'
flagged_more graph flags past k next next' flag nodes shown d held within at same flag-is is = record {
  is = is ∙ (λ j. held.is j ++ (flag-is ∙ ap (any_flag flags past) same) j ∷ []) ∙ sym (map_join (any_flag flags past) (take k graph) (nodes ∷ []))
      ∙ sym (ap (map (any_flag flags past)) (take_turn graph k nodes d within at));
}

flag_of : (flags : List Bool) (past : Bool) (graph : List (List ℕ)) (n : ℕ) → slice_index_or (map (any_flag flags past) graph) n false ≡ any_flag flags past (slice_index_or graph n [])
flag_of flags past [] zero = refl
flag_of flags past [] (suc n) = refl
flag_of flags past (ns ∷ graph) zero = refl
flag_of flags past (ns ∷ graph) (suc n) = flag_of flags past graph n

pub flagged_end : (graph : List (List ℕ)) (flags : List Bool) (past : Bool) (k : ℕ) (next : List Bool) → FlaggedUpTo graph flags past k next → length graph ≤ k →
    (n : ℕ) → slice_index_or next n false ≡ any_flag flags past (slice_index_or graph n [])
flagged_end graph flags past k next held over n =
    ap (λ bs. slice_index_or bs n false) (held.is ∙ ap (map (any_flag flags past)) (take_all k graph over)) ∙ flag_of flags past graph n
