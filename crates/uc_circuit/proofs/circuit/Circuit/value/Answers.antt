use Rattle.std.proofs.Common.{◌≡◌, ◌+◌, List, Option, Bool, take, ◌∙◌, ap, arith}
use Rattle.uc_circuit.specs.declared.gate.Gate.{Gate}
use Rattle.uc_circuit.specs.Literals.{literal_value}
use Rattle.uc_circuit.specs.Circuits.{node_values, value_at}
use Rattle.uc_circuit.proofs.Evaluation.{inputs_of-take, literal_value_in-take, within_first}
use Rattle.uc_circuit.proofs.circuit.Circuit.value.Goals as goal

pub evaluated-requires-clause-inputs : goal.evaluated-requires-clause-inputs
evaluated-requires-clause-inputs c =
    let nodes : c.deref.result.now ≡ c.args.self.now = c.deref.ensures.value ∙ c.self.view_is in
    rw nodes (omega (arith, inputs_of-take c.args.self.now (c.args.l.var + 1)))

pub value-requires : goal.value-requires
value-requires c =
    let nodes : c.deref.result.now ≡ c.args.self.now = c.deref.ensures.value ∙ c.self.view_is in
    let values : c.as_slice.result.now ≡ node_values (take (c.args.l.var + 1) c.deref.result.now) c.args.inputs.now = c.as_slice.ensures.value ∙ c.in_ok-values.ensures in
    rw (values, nodes) (within_first c.args.self.now c.args.inputs.now c.args.l.var c.requires.literal)

pub returns : goal.returns
returns c =
    let nodes : c.deref.result.now ≡ c.args.self.now = c.deref.ensures.value ∙ c.self.view_is in
    let values : c.as_slice.result.now ≡ node_values (take (c.args.l.var + 1) c.deref.result.now) c.args.inputs.now = c.as_slice.ensures.value ∙ c.in_ok-values.ensures in
    c.value.ensures
    ∙ ap (λ (xs : List Bool). literal_value (value_at xs) c.args.l) values
    ∙ ap (λ (xs : List (Option Gate)). literal_value (value_at (node_values (take (c.args.l.var + 1) xs) c.args.inputs.now)) c.args.l) nodes
    ∙ literal_value_in-take c.args.self.now c.args.inputs.now (c.args.l.var + 1) c.args.l (omega arith) (omega (arith, c.requires.literal))
