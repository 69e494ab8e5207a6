use Rattle.std.proofs.Common.{ap, ◌∙◌}
use Rattle.uc_names.specs.Senses.{entries_meant, module_in}
use Rattle.uc_declaration_rules.proofs.Parts.{naming_of_parts}
use Rattle.uc_declaration_rules.proofs.naming.note_names.Goals as goal

pub returns : goal.returns
returns c =
    naming_of_parts c.args.design.now (module_in c.args.design.now.modules c.args.home) (entries_meant c.args.design.now.modules c.as_slice.result.now) c.args.first.now c.note_entries.new.first c.note_blocks.new.first
    (ap (entries_meant c.args.design.now.modules) c.as_slice.ensures ∙ c.in_ok-entries.ensures) c.in_ok-note_entries.ensures c.note_blocks.ensures
