use Rattle.std.proofs.Common.{◌≡◌, ℕ, ◌<◌, List, ◌∷◌, [], ◌++◌, Option, Some, length, ap, arith}
use Rattle.std.proofs.lemmas.List.{length_push}
use Rattle.uc_circuit.specs.declared.literal.Lit.{Lit}
use Rattle.uc_circuit.specs.declared.gate.Gate.{Gate}
use Rattle.uc_circuit.specs.Circuits.{inputs_of}
use Rattle.uc_circuit.proofs.Evaluation.{inputs_of-append}
use Rattle.uc_solver_rows.proofs.circuit.a_shared_gate_is_evaluated_once.Goals as goal

-- one more gate
more_inputs : (old new : List (Option Gate)) (g : Gate) → new ≡ old ++ Some g ∷ [] → inputs_of old ≡ 1 → inputs_of new ≡ 1
more_inputs old new g now was =
    let same : inputs_of new ≡ inputs_of (old ++ Some g ∷ []) = ap inputs_of now in
    omega (arith, inputs_of-append old (Some g ∷ []))

more_last : (old new : List (Option Gate)) (g : Gate) (n : ℕ) → new ≡ old ++ Some g ∷ [] → n ≡ length old → n < length new
more_last old new g n now is =
    let same : length new ≡ length (old ++ Some g ∷ []) = ap length now in
    omega (arith, length_push old (Some g))

pub loop-number-preserved : goal.loop-number-preserved
loop-number-preserved g c = record {
  inputs = more_inputs c.loop-number.circuit c.add_gate.new.self _ c.in_ok-last-2.ensures.ok c.loop-number.invariant.inputs;
  last = more_last c.loop-number.circuit c.add_gate.new.self _ c.in_ok-last-2.last.var c.in_ok-last-2.ensures.ok (ap (λ (l : Lit). l.var) c.in_ok-last-2.ensures.literal);
}

pub add_gate-requires : goal.add_gate-requires
add_gate-requires g c = (c.loop-number.invariant.last, c.loop-number.invariant.last)
