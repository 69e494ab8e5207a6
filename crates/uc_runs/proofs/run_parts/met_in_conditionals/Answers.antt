use Rattle.uc_runs.proofs.Forms.{met_in_conditionals}
use Rattle.uc_runs.proofs.run_parts.met_in_conditionals.Goals as goal

pub returns : goal.returns
returns c = met_in_conditionals
