use Rattle.std.proofs.Common.{ap, reverse, ◌∙◌}
use Rattle.uc_expression_rules.proofs.Turns.{own_begin, own_done, own_more}
use Rattle.uc_expression_rules.proofs.branches.conditional.Goals as goal

pub loop-branch-init : goal.loop-branch-init
loop-branch-init c =
    own_begin c.args.branches c.into_iter-branch-iterator.result.rest.items c.args.otherwise c.args.first.now (c.into_iter-branch-iterator.ensures.into_iter_gives.0 ∙ c.reverse.ensures.items ∙ ap reverse c.into_vec-branches.ensures)

pub loop-branch-preserved : goal.loop-branch-preserved
loop-branch-preserved c =
    own_more c.args.branches _ c.args.first.now c.in-Some.branch c.loop-branch.branch-iterator.rest.items c.next.new.self.rest.items c.loop-branch.rest c.joined-rest.result c.loop-branch.first c.joined-rest.new.first
    c.loop-branch.invariant c.in-Some.ensures.steps.0 (λ own. c.joined-rest.ensures c.args.first.now own)

pub returns : goal.returns
returns c =
    own_done c.args.branches _ c.args.first.now c.loop-branch.branch-iterator.rest.items c.loop-branch.rest c.loop-branch.first _ c.loop-branch.invariant c.loop-branch.branch-iterator.rest.ok.0 c.in-None.ensures.steps.0
