use Rattle.uc_rules.specs.Names.{as_type}
use Rattle.uc_names.specs.Senses.{declared_meant}
use Rattle.uc_names.proofs.FirstEntries.{first_gives}
use Rattle.uc_names.proofs.table.NameTable.declared_type.Goals as goal

pub returns : goal.returns
returns c = λ ms es held. first_gives (declared_meant ms) as_type _ es c.args.name _ held.types c.get.ensures
