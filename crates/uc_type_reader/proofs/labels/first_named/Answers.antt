use Rattle.std.proofs.Common.{ap, ◌∙◌, sym, get_or, refl}
use Rattle.uc_meaning.specs.Lookup.{first_some}
use Rattle.uc_lookup.proofs.Found.{first_end}
use Rattle.uc_type_reader.specs.Reading.{label_meant, label_in_named}
use Rattle.uc_type_reader.proofs.Imports.{first_known, first_unknown}
use Rattle.uc_type_reader.proofs.labels.first_named.Goals as goal

pub returns-then-is_some : goal.returns-then-is_some
returns-then-is_some c =
    first_known (label_in_named c.args.tables.now c.args.name) label_meant c.args.modules.now c.loop-owner.owner-index (get_or c.args.modules.now c.loop-owner.owner-index 0) 0 c.in_ok-label.label
    (first_some (label_in_named c.args.tables.now c.args.name) c.args.modules.now)
    c.loop-owner-test.true refl c.in_ok-label.ensures (sym c.is_some.ensures ∙ c.if-is_some.true) c.loop-owner.invariant

pub loop-owner-preserved : goal.loop-owner-preserved
loop-owner-preserved c =
    first_unknown (label_in_named c.args.tables.now c.args.name) label_meant c.args.modules.now c.loop-owner.owner-index (get_or c.args.modules.now c.loop-owner.owner-index 0) 0 c.in_ok-label.label
    (first_some (label_in_named c.args.tables.now c.args.name) c.args.modules.now)
    c.loop-owner-test.true refl c.in_ok-label.ensures (sym c.is_some.ensures ∙ c.if-is_some.false) c.loop-owner.invariant

pub returns : goal.returns
returns c =
    first_end (label_in_named c.args.tables.now c.args.name) c.args.modules.now c.loop-owner.owner-index (first_some (label_in_named c.args.tables.now c.args.name) c.args.modules.now)
    c.loop-owner-test.false c.loop-owner.invariant
