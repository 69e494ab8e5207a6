use Rattle.uc_order_rules.proofs.Passing.{cycles_are_passed}
use Rattle.uc_order_rules.proofs.passage_laws.cycles_are_passed.Goals as goal

pub returns : goal.returns
returns c = cycles_are_passed
