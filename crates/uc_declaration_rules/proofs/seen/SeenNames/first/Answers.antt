use Rattle.uc_rules.specs.Names.{is_entry}
use Rattle.uc_names.specs.Senses.{entry_meant}
use Rattle.uc_names.proofs.FirstEntries.{first_found}
use Rattle.uc_declaration_rules.proofs.seen.SeenNames.first.Goals as goal

pub returns : goal.returns
returns c = λ ms es held. first_found is_entry (entry_meant ms) _ es c.args.name _ held c.get.ensures
