use Rattle.std.proofs.Common.{arith}
use Rattle.uc_graph.proofs.Rounds.{spreads_end, spreads_first, spreads_round, spreads_taken}
use Rattle.uc_graph.proofs.reached.take_reached.Goals as goal

pub rounds-init : goal.rounds-init
rounds-init c = spreads_first c.args.graph.now c.args.left.now c.args.starts.now _ _ _ _ c.new-found.ensures c.new-fresh.ensures c.in_ok-take_all.ensures

pub rounds-preserved : goal.rounds-preserved
rounds-preserved c = spreads_round c.args.graph.now c.args.left.now c.args.starts.now _ _ _ _ _ _ _ c.as_slice.ensures c.in_ok-append.ensures c.rounds.invariant c.in_ok-next.ensures

pub returns-clause-reached : goal.returns-clause-reached
returns-clause-reached c = spreads_end c.args.graph.now c.args.left.now c.args.starts.now _ _ _ (omega (arith, c.rounds-test.false, c.len.ensures)) c.rounds.invariant

pub returns-clause-taken : goal.returns-clause-taken
returns-clause-taken c = spreads_taken c.args.graph.now c.args.left.now c.args.starts.now _ _ _ (omega (arith, c.rounds-test.false, c.len.ensures)) c.rounds.invariant
