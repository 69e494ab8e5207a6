use Rattle.uc_circuit.proofs.Choices.{or-means}
use Rattle.uc_circuit.proofs.gates.Gates.or.Goals as goal

pub returns-clause-ok : goal.returns-clause-ok
returns-clause-ok c =
    or-means c.and.new.self c.args.a c.args.b c.turn.result c.turn-2.result c.in_ok-neither.neither c.turn-3.result
    c.turn.ensures c.turn-2.ensures c.turn-3.ensures c.in_ok-neither.ensures.ok
