use Rattle.std.proofs.Common.{◌≡◌, ◌<◌, ◌++◌, Bool, ◌∙◌, sym, ap, subst, arith, length, take}
use Rattle.uc_circuit.specs.Circuits.{input_values}
use Rattle.uc_circuit.specs.Literals.{literal_value}
use Rattle.uc_learner.specs.Learners.{valuation}
use Rattle.uc_solver.specs.Searches.{given_if, first_values}
use Rattle.uc_solver.proofs.Candidates.{inputs_next, inputs_all, flag_is}
use Rattle.uc_solver.proofs.search.inputs.Goals as goal

pub loop-number-preserved : goal.loop-number-preserved
loop-number-preserved c =
    let n = c.loop-number.number in
    let nodes = c.args.circuit.now in
    let v = valuation c.args.learner.now.values in
    let flag = c.is_none-is_input.result in
    let within : n < length nodes = omega (arith, c.loop-number-test.true, c.len-number-end.ensures) in
    let is = flag_is c.gate.result _ flag c.is_none-is_input.ensures c.gate.ensures.gate in
    c.in_ok-add.ensures ∙ ap (λ xs. xs ++ given_if flag c.value.result) c.loop-number.invariant
    ∙ ap (λ b. input_values (take n nodes) (first_values v n) ++ given_if flag b) (c.value.ensures ∙ ap (literal_value v) c.positive.ensures) ∙ sym (inputs_next nodes v n flag within is)

pub returns : goal.returns
returns c =
    inputs_all c.args.circuit.now (valuation c.args.learner.now.values) c.loop-number.number c.loop-number.inputs.items
    (omega (arith, c.loop-number-test.false, c.loop-number.auto.number-end, c.len-number-end.ensures)) c.loop-number.invariant
