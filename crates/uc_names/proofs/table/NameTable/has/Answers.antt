use Rattle.std.proofs.Common.{◌∙◌}
use Rattle.uc_names.specs.Senses.{entry_meant}
use Rattle.uc_names.proofs.FirstEntries.{some_found}
use Rattle.uc_names.proofs.table.NameTable.has.Goals as goal

pub returns : goal.returns
returns c = λ ms es held. c.is_some.ensures ∙ some_found (entry_meant ms) es c.args.name c.entry.result (c.entry.ensures ms es held)
