use Rattle.uc_names.specs.Senses.{entries_meant}
use Rattle.uc_declaration_rules.proofs.Repeats.{SeenUpTo}
use Rattle.uc_declaration_rules.proofs.naming.note_entries.Given as goal

abbrev pub invariant-loop-entry : goal.invariant-loop-entry
invariant-loop-entry l = SeenUpTo l.design (entries_meant l.design.modules l.entries) l.fn.first l.entry-index l.seen l.first
