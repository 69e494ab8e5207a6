use Rattle.uclid_laws.proofs.Refusals as laws
use Rattle.uclid_laws.proofs.one_refusal.Goals as goal

pub returns : goal.returns
returns c = laws.one_refusal
