use Rattle.std.proofs.Common.{Some, refl}
use Rattle.uc_rules.specs.Names.{is_entry}
use Rattle.uc_names.specs.Senses.{entry_meant}
use Rattle.uc_names.proofs.FirstEntries.{first_more}
use Rattle.uc_declaration_rules.proofs.seen.SeenNames.add.Goals as goal

pub returns : goal.returns
returns c = λ ms es held. first_more is_entry (entry_meant ms) (λ e. Some e) _ _ es (entry_meant ms c.args.entry) (Some c.args.entry) held refl c.in_ok-enter.ensures
