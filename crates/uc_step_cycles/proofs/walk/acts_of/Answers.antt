use Rattle.uc_step_cycles.proofs.WritingStatementsAdding.{whole_acts}
use Rattle.uc_step_cycles.proofs.walk.acts_of.Goals as goal

pub returns : goal.returns
returns c = whole_acts _ _ _ _ _ c.as_slice-declarations.ensures c.in_ok-procedures.ensures c.new-acts.ensures c.in_ok-add_declarations.ensures
