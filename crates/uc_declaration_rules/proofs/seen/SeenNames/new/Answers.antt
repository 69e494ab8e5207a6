use Rattle.std.proofs.Common.{Some}
use Rattle.std.specs.Prelude.{nat_eq}
use Rattle.indexmap.specs.IndexMap.{get}
use Rattle.uc_rules.specs.Names.{is_entry}
use Rattle.uc_names.specs.Senses.{entry_meant}
use Rattle.uc_names.proofs.FirstEntries.{first_begin}
use Rattle.uc_declaration_rules.proofs.seen.SeenNames.new.Goals as goal

pub returns : goal.returns
returns c = λ ms. first_begin is_entry (entry_meant ms) (λ e. Some e) _ c.new.ensures
