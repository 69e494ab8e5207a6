use Rattle.uc_simplify.proofs.Standing.{values_kept}
use Rattle.uc_simplify.proofs.simplifier.simplify_from.Goals as goal

pub returns-in_err-all-clause-kept : goal.returns-in_err-all-clause-kept
returns-in_err-all-clause-kept c = values_kept c.args.terms.now c.all_standing.new.terms c.all_standing.ensures.grown

pub returns-clause-kept : goal.returns-clause-kept
returns-clause-kept c = values_kept c.args.terms.now c.all_standing.new.terms c.all_standing.ensures.grown
