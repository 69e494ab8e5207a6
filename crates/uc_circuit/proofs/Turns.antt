-- The turns of a loop that adds one signal after another.
use Rattle.std.specs.Prelude.{◌≡◌, ℕ, ◌+◌, ◌*◌, ◌^◌, ◌<◌, Bool, List, [], ◌∷◌, ◌++◌, length}
use Rattle.std.proofs.Common.{sym, subst, get_or}
use Rattle.uc_circuit.specs.declared.signal.Signal.{Signal}
use Rattle.uc_circuit.specs.Signals.{Below, AllBelow, bit}
use Rattle.uc_circuit.specs.Building.{Building, Grows, size, Obeys}
use Rattle.uc_circuit.specs.Meanings.{Means, Amounts}
use Rattle.uc_circuit.proofs.Growing.{grows-refl, grows-trans, below-grown}
use Rattle.uc_circuit.proofs.Pushing.{amounts-none, amounts-push}

-- the circuit has grown, and so many signals stand for the number
pub record Turn (start now : Building) (i : ℕ) (meaning : (ℕ → Bool) → ℕ) (out : List Signal) : Type 0 where
  pub grows : Grows start now
  pub amounts : Amounts now i meaning out

pub turn-none : (b : Building) (meaning : (ℕ → Bool) → ℕ) → ((v : ℕ → Bool) → 0 ≡ meaning v) → Turn b b 0 meaning []
turn-none b meaning is = record { grows = grows-refl b; amounts = amounts-none b meaning is }

pub turn-more :
    (start old new : Building) (i : ℕ) (meaning : (ℕ → Bool) → ℕ) (out : List Signal) (one : (ℕ → Bool) → Bool) (s : Signal) (more : (ℕ → Bool) → ℕ)
    → Turn start old i meaning out → Grows old new → Means new one s
    → ((v : ℕ → Bool) → Obeys v new → meaning v + 2 ^ i * bit (one v) ≡ more v)
    → Turn start new (i + 1) more (out ++ s ∷ [])
turn-more start old new i meaning out one s more t grown m is = record {
  grows = grows-trans start old new t.grows grown;
  amounts = amounts-push old new i meaning out one s more grown t.amounts m is;
}

-- an element of a list of the first circuit is a signal of the present one
pub element-below : (start now : Building) → Grows start now → (xs : List Signal) (i : ℕ) (s : Signal) → AllBelow (size start) xs → i < length xs → s ≡ get_or xs i s → Below (size now) s
element-below start now g xs i s all h is = below-grown start now g s (subst (Below (size start)) (sym is) (all i s h))
