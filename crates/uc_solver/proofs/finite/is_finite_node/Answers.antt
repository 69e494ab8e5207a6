use Rattle.std.proofs.Common.{sym}
use Rattle.uc_solver.proofs.Nodes.{decides_no, not_finite, finite_node}
use Rattle.uc_solver.proofs.finite.is_finite_node.Goals as goal

pub returns-then-is_application : goal.returns-then-is_application
returns-then-is_application c = decides_no (not_finite c.args.terms.now c.args.place c.node-node.result.now c.node-node.ensures.node (sym c.if-is_application.ensures))

pub returns : goal.returns
returns c = finite_node c.args.terms.now c.args.place c.node-node.result.now c.has_bits.result c.node-node.ensures.node (sym c.if-is_application.ensures) c.has_bits.ensures
