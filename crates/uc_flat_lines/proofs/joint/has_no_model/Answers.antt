use Rattle.uc_flat_lines.proofs.Gathering.{no_model_found}
use Rattle.uc_flat_lines.proofs.joint.has_no_model.Goals as goal

pub returns : goal.returns
returns c = λ is. no_model_found c.args.terms.now c.args.goal c.solution-found.result c.solution-found.ensures.solution (c.is_none.ensures is)
