-- The test of two gates decides whether they are equal.
use Rattle.std.proofs.Common.{◌≡◌, Bool, true, refl}
use Rattle.std.specs.Prelude.{◌&&◌}
use Rattle.std.proofs.lemmas.Bool.{and_parts, and_from}
use Rattle.uc_circuit.specs.declared.gate.Gate.{Gate}
use Rattle.uc_circuit.specs.declared.gate.Gate.TheVariants.{And, Xor, Mux}
use Rattle.uc_circuit.specs.Literals.{same_literal}
use Rattle.uc_circuit.proofs.SameLiterals.{same_literal_decides}
use Rattle.uc_circuit.specs.contracts.gate.GatePartialEq.TheImpl.{eq-value}

unfoldable pub same_gate : Gate → Gate → Bool
same_gate = eq-value.it

pub exact : (g h : Gate) → same_gate g h ≡ true → g ≡ h
unfolding same_gate
exact (And a b) (And c d) e =
    let p : (same_literal a c ≡ true) × (same_literal b d ≡ true) = and_parts (same_literal a c) (same_literal b d) e in
    let x : a ≡ c = (same_literal_decides a c).0 p.0 in
    let y : b ≡ d = (same_literal_decides b d).0 p.1 in
    λ i. And (x i) (y i)
exact (And a b) (Xor c d) e = absurd (cc)
exact (And a b) (Mux c d f) e = absurd (cc)
exact (Xor a b) (And c d) e = absurd (cc)
exact (Xor a b) (Xor c d) e =
    let p : (same_literal a c ≡ true) × (same_literal b d ≡ true) = and_parts (same_literal a c) (same_literal b d) e in
    let x : a ≡ c = (same_literal_decides a c).0 p.0 in
    let y : b ≡ d = (same_literal_decides b d).0 p.1 in
    λ i. Xor (x i) (y i)
exact (Xor a b) (Mux c d f) e = absurd (cc)
exact (Mux a b g) (And c d) e = absurd (cc)
exact (Mux a b g) (Xor c d) e = absurd (cc)
exact (Mux a b g) (Mux c d f) e =
    let p : (same_literal a c ≡ true) × ((same_literal b d && same_literal g f) ≡ true) = and_parts (same_literal a c) (same_literal b d && same_literal g f) e in
    let q : (same_literal b d ≡ true) × (same_literal g f ≡ true) = and_parts (same_literal b d) (same_literal g f) p.1 in
    let x : a ≡ c = (same_literal_decides a c).0 p.0 in
    let y : b ≡ d = (same_literal_decides b d).0 q.0 in
    let z : g ≡ f = (same_literal_decides g f).0 q.1 in
    λ i. Mux (x i) (y i) (z i)

pub itself : (g : Gate) → same_gate g g ≡ true
unfolding same_gate
itself (And a b) = and_from (same_literal a a) (same_literal b b) ((same_literal_decides a a).1 refl) ((same_literal_decides b b).1 refl)
itself (Xor a b) = and_from (same_literal a a) (same_literal b b) ((same_literal_decides a a).1 refl) ((same_literal_decides b b).1 refl)
itself (Mux a b c) =
    and_from (same_literal a a) (same_literal b b && same_literal c c) ((same_literal_decides a a).1 refl)
    (and_from (same_literal b b) (same_literal c c) ((same_literal_decides b b).1 refl) ((same_literal_decides c c).1 refl))
