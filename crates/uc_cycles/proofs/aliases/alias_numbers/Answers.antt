use Rattle.uc_cycles.proofs.Entering.{design_begin, types_none}
use Rattle.uc_cycles.proofs.aliases.alias_numbers.Goals as goal

pub loop-home-init : goal.loop-home-init
loop-home-init c = design_begin c.args.homes.now c.new-numbers.result (types_none c.new-numbers.result c.new-numbers.ensures)
