use Rattle.std.proofs.Common.{ap, ◌∙◌, sym}
use Rattle.uc_meaning.specs.Lookup.{first_some}
use Rattle.uc_lookup.proofs.Found.{first_end}
use Rattle.uc_type_reader.specs.Reading.{label_meant, label_at}
use Rattle.uc_type_reader.proofs.Imports.{first_known, first_unknown}
use Rattle.uc_type_reader.proofs.labels.first_label.Goals as goal

pub returns-then-is_some : goal.returns-then-is_some
returns-then-is_some c =
    first_known (label_at c.args.tables.now c.args.name) label_meant c.args.enums.now c.loop-written.written-index c.written-item.result c.written-item.result c.in_ok-label.label (first_some (label_at c.args.tables.now c.args.name) c.args.enums.now)
    c.loop-written-test.true c.written-item.is c.in_ok-label.ensures (sym c.is_some.ensures ∙ c.if-is_some.true) c.loop-written.invariant

pub loop-written-preserved : goal.loop-written-preserved
loop-written-preserved c =
    first_unknown (label_at c.args.tables.now c.args.name) label_meant c.args.enums.now c.loop-written.written-index c.written-item.result c.written-item.result c.in_ok-label.label (first_some (label_at c.args.tables.now c.args.name) c.args.enums.now)
    c.loop-written-test.true c.written-item.is c.in_ok-label.ensures (sym c.is_some.ensures ∙ c.if-is_some.false) c.loop-written.invariant

pub returns : goal.returns
returns c = first_end (label_at c.args.tables.now c.args.name) c.args.enums.now c.loop-written.written-index (first_some (label_at c.args.tables.now c.args.name) c.args.enums.now) c.loop-written-test.false c.loop-written.invariant
