use Rattle.uc_simplify.proofs.Standing.{values_kept}
use Rattle.uc_simplify_steps.proofs.Features.{evenly_kept}
use Rattle.uc_simplify.proofs.simplifier.simplify.Goals as goal

pub returns-in_err-answer-clause-kept : goal.returns-in_err-answer-clause-kept
returns-in_err-answer-clause-kept c = values_kept c.args.terms.now c.standing.new.terms c.standing.ensures.grown

pub returns-clause-kept : goal.returns-clause-kept
returns-clause-kept c = values_kept c.args.terms.now c.standing.new.terms c.standing.ensures.grown

pub returns-clause-evenly : goal.returns-clause-evenly
returns-clause-evenly c = evenly_kept c.standing.new.terms c.args.terms.now c.in_ok-answer.answer c.args.t c.in_ok-answer.ensures.stands.features
