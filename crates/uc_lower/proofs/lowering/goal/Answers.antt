use Rattle.std.proofs.Common.{◌∙◌}
use Rattle.uc_lower.proofs.Ending.{goal_alone, goal_of, no_vec_items}
use Rattle.uc_lower.proofs.lowering.goal.Goals as goal

pub returns-then-is_empty-clause-goal : goal.returns-then-is_empty-clause-goal
returns-then-is_empty-clause-goal c =
    goal_alone c.args.terms.now c.args.conditions.items c.args.root c.requires.well c.requires.there c.requires.boolean (no_vec_items c.args.conditions.items c.is_empty.result _ c.args.conditions.ok.0 c.is_empty.ensures c.if-is_empty.true)

pub returns-clause-goal : goal.returns-clause-goal
returns-clause-goal c =
    goal_of c.args.terms.now c.conjunction.new.terms c.args.conditions.items c.as_slice.result.now c.args.root c.in_ok-goal.goal c.in_ok-goal.ensures.grown (c.as_slice.ensures.value ∙ c.in_ok-push.ensures.items) c.in_ok-goal.ensures.conjunction
