use Rattle.uc_rules.specs.Names.{as_called}
use Rattle.uc_names.specs.Senses.{called_meant}
use Rattle.uc_names.proofs.FirstEntries.{first_gives}
use Rattle.uc_names.proofs.table.NameTable.called.Goals as goal

pub returns : goal.returns
returns c = λ ms es held. first_gives called_meant as_called _ es c.args.name _ held.calls c.get.ensures
