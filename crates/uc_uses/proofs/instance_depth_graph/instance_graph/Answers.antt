use Rattle.std.proofs.Common.{ap, length, sym}
use Rattle.uc_meaning.specs.Lookup.{System}
use Rattle.uc_uses.proofs.Nodes.{rows_begin, rows_end, rows_more}
use Rattle.uc_uses.proofs.instance_depth_graph.instance_graph.Goals as goal

pub loop-place-init : goal.loop-place-init
loop-place-init c = rows_begin _ _ c.new-graph.ensures

pub loop-place-preserved : goal.loop-place-preserved
loop-place-preserved c = rows_more _ _ _ _ _ _ c.loop-place.invariant c.declarations_of.ensures c.in_ok-nodes.ensures c.in_ok-push.ensures.ok

pub returns : goal.returns
returns c = rows_end _ _ _ _ c.loop-place.invariant c.loop-place-test.false (ap (λ (s : System). length s.modules) (sym c.system.ensures))
