-- Faults as they are noted, block by block.
use Rattle.std.proofs.Common.{◌≡◌, ℕ, zero, suc, ◌+◌, ◌<◌, ◌≤◌, List, [], ◌∷◌, ◌++◌, length, take, get_or, Option, refl, ap, sym, ◌∙◌, arith, append_assoc}
use Rattle.std.proofs.lemmas.List.{take_all}
use Rattle.uc_syntax.proofs.Added.{append_nil}
use Rattle.uc_rules.specs.declared.fault.Fault.{Fault}
use Rattle.uc_rules.specs.Faults.{first_of}
use Rattle.uc_rules.proofs.Chains.{first_of_append}
use Rattle.uc_rules.proofs.Lists.{take_turn}
use Rattle.uc_step_cycles.specs.Edges.{each_at}

each_push : {X B : Type 0} (f : ℕ → X → List B) (k : ℕ) (xs : List X) (x : X) → each_at f k (xs ++ x ∷ []) ≡ each_at f k xs ++ f (k + length xs) x
unfolding each_at
each_push f k [] x = append_nil (f k x) ∙ ap (λ n. f n x) (none k)
  where
    none : (n : ℕ) → n ≡ n + 0
    none n = omega arith
each_push f k (y ∷ xs) x =
    ap (λ es. f k y ++ es) (each_push f (suc k) xs x)
    ∙ sym (append_assoc (f k y) (each_at f (suc k) xs) (f (suc k + length xs) x))
    ∙ ap (λ n. (f k y ++ each_at f (suc k) xs) ++ f n x) (shift k (length xs))
  where
    shift : (n m : ℕ) → suc n + m ≡ n + suc m
    shift n m = omega arith

take_length : {X : Type 0} (k : ℕ) (xs : List X) → k < length xs → length (take k xs) ≡ k
take_length zero xs h = refl
take_length (suc k) [] h = absurd (omega (arith, h))
take_length (suc k) (x ∷ xs) h = ap suc (take_length k xs (omega (arith, h)))

-- the faults of the first ones are noted
pub record NotedTo {X : Type 0} (f : ℕ → X → List Fault) (xs : List X) (old : Option Fault) (k : ℕ) (now : Option Fault) : Type 0 where
  pub is : now ≡ first_of old (each_at f 0 (take k xs))

module _ {X : Type 0} (f : ℕ → X → List Fault) (xs : List X) (old : Option Fault) where
  pub noted_begin : NotedTo f xs old 0 old
  unfolding first_of each_at
  noted_begin = record { is = refl }

  pub noted_more : (k : ℕ) (now after : Option Fault) (x d : X) → NotedTo f xs old k now → k < length xs → x ≡ get_or xs k d → after ≡ first_of now (f k x) → NotedTo f xs old (k + 1) after
  noted_more k now after x d held within at told = record {
    is =
        told
        ∙ ap (λ o. first_of o (f k x)) held.is
        ∙ sym (first_of_append old (each_at f 0 (take k xs)) (f k x))
        ∙ ap (first_of old) (sym (ap (each_at f 0) (take_turn xs k x d within at) ∙ each_push f 0 (take k xs) x ∙ ap (λ n. each_at f 0 (take k xs) ++ f n x) (place k (length (take k xs)) (take_length k xs within))));
  }
    where
      place : (k n : ℕ) → n ≡ k → 0 + n ≡ k
      place k n e = omega (arith, e)

  pub noted_end : (k : ℕ) (now : Option Fault) → NotedTo f xs old k now → length xs ≤ k → now ≡ first_of old (each_at f 0 xs)
  noted_end k now held past = held.is ∙ ap (λ ys. first_of old (each_at f 0 ys)) (take_all k xs past)
