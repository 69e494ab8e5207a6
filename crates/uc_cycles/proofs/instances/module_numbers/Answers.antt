use Rattle.uc_cycles.proofs.Entering.{modules_begin, modules_more, names_none}
use Rattle.uc_cycles.proofs.instances.module_numbers.Goals as goal

pub loop-home-init : goal.loop-home-init
loop-home-init c = modules_begin c.args.homes.now c.new-numbers.result (names_none c.new-numbers.result c.new-numbers.ensures)

pub loop-home-preserved : goal.loop-home-preserved
loop-home-preserved c = modules_more c.args.homes.now c.loop-home.home c.name_of.result c.loop-home.numbers c.enter.new.self c.name_of.ensures c.loop-home.invariant c.in_ok-enter.ensures
