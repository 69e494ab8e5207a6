use Rattle.std.proofs.Common.{sym, ◌∙◌}
use Rattle.uc_graph.proofs.Takings.{takes_one}
use Rattle.uc_graph.proofs.reached.take.Goals as goal

pub returns-in_ok-push : goal.returns-in_ok-push
returns-in_ok-push c =
    takes_one c.args.left.now c.args.taken.now c.set.new.self c.push.new.self c.args.node (sym c.is_set.ensures ∙ c.if-is_set.true) c.set.ensures c.in_ok-push.ensures.ok
