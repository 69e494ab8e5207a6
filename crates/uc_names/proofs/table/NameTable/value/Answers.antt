use Rattle.uc_rules.specs.Names.{as_value}
use Rattle.uc_names.specs.Senses.{value_meant}
use Rattle.uc_names.proofs.FirstEntries.{first_gives}
use Rattle.uc_names.proofs.table.NameTable.value.Goals as goal

pub returns : goal.returns
returns c = λ ms es held. first_gives value_meant as_value _ es c.args.name _ held.values c.get.ensures
