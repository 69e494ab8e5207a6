-- What a circuit is after a gate was asked for, where equal gates are shared.
use Rattle.std.specs.Prelude.{◌≡◌, ℕ, ◌+◌, ◌<◌, ◌^◌, Bool, true, false, cond, List, [], ◌∷◌, ◌++◌, length, slice_get, Some, ◌⊎◌}
use Rattle.std.specs.List.{list_any, IsDistinct, AllByRecursion}
use Rattle.std.proofs.Common.{refl, sym, ap, ◌∙◌, arith, subst, length-append, inl, inr, zero, suc, append-nil}
use Rattle.std.proofs.lemmas.Bool.{false≢true}
use Rattle.std.proofs.lemmas.Option.{slice_get_within}
use Rattle.uc_circuit.specs.declared.gate.Gate.{Gate}
use Rattle.uc_circuit.specs.Gates.{OperandsBelow, gate_value}
use Rattle.uc_circuit.specs.Literals.{positive}
use Rattle.uc_circuit.specs.declared.signal.Signal.TheVariants.{Of}
use Rattle.uc_circuit.specs.Building.{IsBuilding, Grows, NoGateTwice}
use Rattle.uc_circuit.specs.Meanings.{Means}
use Rattle.uc_circuit.proofs.GateEquality.{same_gate, exact, itself}

pub slice_get-front : {A : Type 0} (xs ys : List A) (k : ℕ) → k < length xs → slice_get (xs ++ ys) k ≡ slice_get xs k
slice_get-front [] ys k h = absurd (omega arith)
slice_get-front (x ∷ xs) ys zero h = refl
slice_get-front (x ∷ xs) ys (suc k) h = slice_get-front xs ys k (omega arith)

slice_get-push : {A : Type 0} (xs : List A) (x y : A) (k : ℕ) → slice_get (xs ++ x ∷ []) k ≡ Some y → ((k < length xs) × (slice_get xs k ≡ Some y)) ⊎ ((k ≡ length xs) × (x ≡ y))
slice_get-push [] x y zero h = inr (refl, cc)
slice_get-push [] x y (suc k) h = cc
slice_get-push (z ∷ xs) x y zero h = inl (omega arith, h)
slice_get-push (z ∷ xs) x y (suc k) h = elim (slice_get-push xs x y k h) [ inl r ↦ inl (omega (arith, r.0), r.1) | inr r ↦ inr (omega (arith, r.0), r.1) ]

-- the new circuit goes on from the old one and has the gate at the place
pub record Shares (inputs : ℕ) (old new : List Gate) (g : Gate) (place : ℕ) : Type 0 where
  pub building : IsBuilding (record { inputs = inputs; gates = new })
  pub grows : Grows (record { inputs = inputs; gates = old }) (record { inputs = inputs; gates = new })
  pub there : slice_get new place ≡ Some g

shared_by :
    (inputs : ℕ) (old new : List Gate) (g k : Gate) (place : ℕ) (b : Bool) → list_any (same_gate g) old ≡ b
    → IsBuilding (record { inputs = inputs; gates = old }) → OperandsBelow (inputs + length old) g → inputs + length old + 1 < 2 ^ 32
    → new ≡ cond b old (old ++ g ∷ []) → slice_get new place ≡ Some k → same_gate g k ≡ true → Shares inputs old new g place
shared_by inputs old new g k place true is w below small e h q = record {
  building = subst (λ gs. IsBuilding (record { inputs = inputs; gates = gs })) (sym e) w;
  grows = record { inputs = refl; more = []; gates = e ∙ sym (append-nil old) };
  there = h ∙ ap Some (sym (exact g k q));
}
shared_by inputs old new g k place false is w below small e h q =
    let pushed : IsBuilding (record { inputs = inputs; gates = old ++ g ∷ [] }) = record {
      ordered = λ n x at. elim (slice_get-push old g x n at) [
        | inl r ↦ w.ordered n x r.1
        | inr r ↦ subst (λ m. OperandsBelow (inputs + m) x) (sym r.0) (subst (OperandsBelow (inputs + length old)) r.1 below)
      ];
      small = omega (arith, length-append old (g ∷ []));
    } in record {
      building = subst (λ gs. IsBuilding (record { inputs = inputs; gates = gs })) (sym e) pushed;
      grows = record { inputs = refl; more = g ∷ []; gates = e };
      there = h ∙ ap Some (sym (exact g k q));
    }

pub shared :
    (inputs : ℕ) (old new : List Gate) (g k : Gate) (place : ℕ)
    → IsBuilding (record { inputs = inputs; gates = old }) → OperandsBelow (inputs + length old) g → inputs + length old + 1 < 2 ^ 32
    → new ≡ cond (list_any (same_gate g) old) old (old ++ g ∷ []) → slice_get new place ≡ Some k → same_gate g k ≡ true → Shares inputs old new g place
shared inputs old new g k place w below small e h q =
    shared_by inputs old new g k place (list_any (same_gate g) old) refl w below small e h q

-- the variable of a gate has the value of its function
pub gate-means : (inputs : ℕ) (gates : List Gate) (g : Gate) (place : ℕ) → slice_get gates place ≡ Some g
    → Means (record { inputs = inputs; gates = gates }) (λ v. gate_value v g) (Of (positive (inputs + place)))
gate-means inputs gates g place h =
    let within : place < length gates = slice_get_within gates place g h in
    record { below = omega arith; value = λ v o. o place g h }

-- a list of which no element is equal to one after it has each element once
apart : (x : Gate) (ys : List Gate) (k : ℕ) (y : Gate) → AllByRecursion (λ z. same_gate x z ≡ false) ys → slice_get ys k ≡ Some y → same_gate x y ≡ false
apart x [] k y a h = cc
apart x (z ∷ ys) zero y a h = let s : z ≡ y = cc in subst (λ v. same_gate x v ≡ false) s a.0
apart x (z ∷ ys) (suc k) y a h = apart x ys k y a.1 h

once : (xs : List Gate) → IsDistinct same_gate xs → (j k : ℕ) (x : Gate) → slice_get xs j ≡ Some x → slice_get xs k ≡ Some x → j ≡ k
unfolding IsDistinct
once [] d j k x g h = cc
once (z ∷ xs) d zero zero x g h = refl
once (z ∷ xs) d zero (suc k) x g h =
    let s : z ≡ x = cc in absurd (false≢true (sym (apart z xs k x d.0 h) ∙ ap (λ v. same_gate v x) s ∙ itself x))
once (z ∷ xs) d (suc j) zero x g h =
    let s : z ≡ x = cc in absurd (false≢true (sym (apart z xs j x d.0 g) ∙ ap (λ v. same_gate v x) s ∙ itself x))
once (z ∷ xs) d (suc j) (suc k) x g h = ap suc (once xs d.1 j k x g h)

pub no_gate_twice : (inputs : ℕ) (gates : List Gate) → IsDistinct same_gate gates → NoGateTwice (record { inputs = inputs; gates = gates })
no_gate_twice inputs gates d j k g at again = once gates d j k g at again
