use Rattle.uc_rules.specs.Names.{as_instance}
use Rattle.uc_lookup.specs.Parts.{instance_parts}
use Rattle.uc_names.proofs.FirstEntries.{first_gives}
use Rattle.uc_names.proofs.table.NameTable.instance.Goals as goal

pub returns : goal.returns
returns c = λ ms es held. first_gives instance_parts as_instance _ es c.args.name _ held.instances c.get.ensures
