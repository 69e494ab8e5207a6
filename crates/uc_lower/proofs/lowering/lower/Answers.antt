use Rattle.uc_lower.proofs.Growing.{grows_keeps}
use Rattle.uc_lower.proofs.lowering.lower.Goals as goal

pub returns-clause-kept : goal.returns-clause-kept
returns-clause-kept c = grows_keeps c.args.terms.now c.walk.new.terms c.walk.ensures.grown
