use Rattle.std.proofs.Common.{◌≡◌, ℕ, List, ◌∷◌, [], ◌++◌, Option, None, Some, length, replicate, sym, ◌∙◌, ap, subst, arith}
use Rattle.std.proofs.lemmas.List.{replicate_more, length-replicate}
use Rattle.uc_circuit.specs.declared.gate.Gate.{Gate}
use Rattle.uc_circuit.specs.Gates.{OperandsBelow}
use Rattle.uc_solver_rows.proofs.circuit.circuit_of.Goals as goal

pub loop-number-preserved : goal.loop-number-preserved
loop-number-preserved c =
    c.in_ok-add_input.ensures.ok ∙ ap (λ (xs : List (Option Gate)). xs ++ None ∷ []) c.loop-number.invariant ∙ replicate_more c.loop-number._number None

pub add_gate-requires : goal.add_gate-requires
add_gate-requires c =
    let all : c.loop-number._number ≡ c.args.inputs = omega arith in
    let long : length c.loop-number.circuit ≡ c.args.inputs = ap length c.loop-number.invariant ∙ length-replicate c.loop-number._number None ∙ all in
    subst (λ (n : ℕ). OperandsBelow n c.args.gate) (sym long) c.requires

pub returns : goal.returns
returns c =
    let all : c.loop-number._number ≡ c.args.inputs = omega arith in
    c.in_ok-add_gate.ensures.ok
    ∙ ap (λ (xs : List (Option Gate)). xs ++ Some c.args.gate ∷ []) c.loop-number.invariant
    ∙ ap (λ (n : ℕ). replicate n None ++ Some c.args.gate ∷ []) all
