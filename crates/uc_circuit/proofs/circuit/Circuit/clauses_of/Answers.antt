use Rattle.std.proofs.Common.{◌≡◌, Some, None, get_or, arith}
use Rattle.std.proofs.lemmas.Grind.{common_steps}
use Rattle.std.proofs.lemmas.Result.{IfOk-weaker}
use Rattle.uc_circuit.proofs.GateClauses.{node_defined}
use Rattle.uc_circuit.proofs.circuit.Circuit.clauses_of.Goals as goal

pub returns-in-Some-clause-define : goal.returns-in-Some-clause-define
returns-in-Some-clause-define c =
    let node : get_or c.args.self.now c.args.n None ≡ Some c.in-Some.gate = grind (arith, common_steps) in
    IfOk-weaker c.clauses_of_gate.result _ _
    (λ cs is. node_defined (get_or c.args.self.now c.args.n None) c.args.n c.in-Some.gate cs.items node is) c.clauses_of_gate.ensures
