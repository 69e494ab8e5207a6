use Rattle.uc_simplify_steps.proofs.Booleans.{twice_known}
use Rattle.uc_simplify_steps.proofs.truths.twice_negated.Goals as goal

pub returns-in-Some : goal.returns-in-Some
returns-in-Some c = twice_known c.args.terms.now c.args.a c.in-Some.part c.len-count.ensures.well c.in-Some.ensures
