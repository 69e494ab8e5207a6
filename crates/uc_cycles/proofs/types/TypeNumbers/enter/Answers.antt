use Rattle.uc_cycles.proofs.Entering.{type_new}
use Rattle.uc_cycles.proofs.types.TypeNumbers.enter.Goals as goal

pub returns-in_ok-enter_new-in-None : goal.returns-in_ok-enter_new-in-None
returns-in_ok-enter_new-in-None c = λ knows. type_new c.args.self.now c.enter_new.new.self c.args.key c.in-None.ensures c.in_ok-enter_new-in-None.ensures.numbers c.in_ok-enter_new-in-None.ensures.keys knows
