use Rattle.uc_names.specs.Senses.{entries_meant}
use Rattle.uc_declaration_rules.proofs.Repeats.{entries_end, entries_more, seen_begin}
use Rattle.uc_declaration_rules.proofs.naming.note_entries.Goals as goal

pub loop-entry-init : goal.loop-entry-init
loop-entry-init c =
    seen_begin c.args.design.now (entries_meant c.args.design.now.modules c.args.entries.now) c.args.first.now c.new-seen.result (c.new-seen.ensures c.args.design.now.modules)

pub loop-entry-preserved : goal.loop-entry-preserved
loop-entry-preserved c =
    entries_more c.args.design.now c.args.entries.now c.args.first.now c.loop-entry.entry-index c.loop-entry.seen c.loop-entry.first c.entry-item.result c.entry-item.result c.note_entry.new.seen c.note_entry.new.first
    c.loop-entry.invariant c.loop-entry-test.true c.entry-item.is c.in_ok-note_entry.ensures.faults c.in_ok-note_entry.ensures.seen

pub returns : goal.returns
returns c = entries_end c.args.design.now c.args.entries.now c.args.first.now c.loop-entry.entry-index c.loop-entry.seen c.loop-entry.first c.loop-entry.invariant c.loop-entry-test.false
