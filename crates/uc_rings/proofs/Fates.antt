-- What is known of a clause of which no other literal can be watched.
use Rattle.std.proofs.Common.{◌≡◌, ◌⊎◌, List, Option, Some, None, Bool, refl, sym, inl, inr, subst}
use Rattle.std.specs.Prelude.{All, Contains, true, false, not}
use Rattle.uc_circuit.specs.declared.literal.Lit.{Lit}
use Rattle.uc_circuit.specs.Values.{value_of, IsFalse, IsFalsified, Forces}
use Rattle.uc_rings.specs.Pairs.{IsTrueIn}

pub all_false : (values : List (Option Bool)) (clause : List Lit) (other : Lit) → All (λ l. (l ≡ other) ⊎ IsFalse values l) clause → IsFalse values other → IsFalsified values clause
all_false values clause other rest is k d within = elim (rest k d within) [
  | inl e ↦ subst (IsFalse values) (sym e) is
  | inr f ↦ f
]

no_value : (o : Option Bool) (neg : Bool) → (o ≡ Some (not neg) → ⊥) → (o ≡ Some neg → ⊥) → o ≡ None
no_value None neg t f = refl
no_value (Some true) true t f = absurd (f refl)
no_value (Some true) false t f = absurd (t refl)
no_value (Some false) true t f = absurd (t refl)
no_value (Some false) false t f = absurd (f refl)

pub forced : (values : List (Option Bool)) (clause : List Lit) (other : Lit) → Contains clause other → All (λ l. (l ≡ other) ⊎ IsFalse values l) clause → (IsTrueIn values other → ⊥) → (IsFalse values other → ⊥)
    → Forces values clause other
forced values clause other there rest t f = record { there = there; unset = no_value (value_of values other) other.neg t f; rest = rest }
