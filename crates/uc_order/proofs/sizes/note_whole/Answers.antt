use Rattle.uc_lookup.specs.Parts.{system_in}
use Rattle.uc_order.proofs.Whole.{no_main}
use Rattle.uc_order.proofs.sizes.note_whole.Goals as goal

pub returns-in-None : goal.returns-in-None
returns-in-None c = λ ends. no_main c.args.names.now (system_in c.system-system.result) c.args.is_acyclic c.args.is_bounded c.args.first.now c.in-None.ensures c.system-system.ensures
