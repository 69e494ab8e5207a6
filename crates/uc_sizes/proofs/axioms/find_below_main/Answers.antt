use Rattle.uc_lookup.specs.Parts.{system_in}
use Rattle.uc_sizes.proofs.Finding.{main_none}
use Rattle.uc_sizes.proofs.axioms.find_below_main.Goals as goal

pub returns-in-None : goal.returns-in-None
returns-in-None c = main_none c.args.name c.args.depth (system_in c.args.system.now) c.in-None.ensures
