use Rattle.uclid_laws.proofs.Passed as laws
use Rattle.uclid_laws.proofs.enough_budget.Goals as goal

pub returns : goal.returns
returns c = laws.enough_budget
