use Rattle.std.proofs.Common.{ap, ◌∙◌, sym}
use Rattle.uc_meaning.specs.Lookup.{first_some}
use Rattle.uc_lookup.proofs.Found.{first_end}
use Rattle.uc_type_reader.specs.Reading.{label_meant, label_imported}
use Rattle.uc_type_reader.proofs.Imports.{first_known, first_unknown}
use Rattle.uc_type_reader.proofs.labels.first_imported.Goals as goal

pub returns-then-is_some : goal.returns-then-is_some
returns-then-is_some c =
    first_known (label_imported c.args.tables.now c.args.name) label_meant c.args.decls.now c.loop-decl.decl-index c.decl-item.result c.decl-item.result c.in_ok-label.label (first_some (label_imported c.args.tables.now c.args.name) c.args.decls.now)
    c.loop-decl-test.true c.decl-item.is c.in_ok-label.ensures (sym c.is_some.ensures ∙ c.if-is_some.true) c.loop-decl.invariant

pub loop-decl-preserved : goal.loop-decl-preserved
loop-decl-preserved c =
    first_unknown (label_imported c.args.tables.now c.args.name) label_meant c.args.decls.now c.loop-decl.decl-index c.decl-item.result c.decl-item.result c.in_ok-label.label (first_some (label_imported c.args.tables.now c.args.name) c.args.decls.now)
    c.loop-decl-test.true c.decl-item.is c.in_ok-label.ensures (sym c.is_some.ensures ∙ c.if-is_some.false) c.loop-decl.invariant

pub returns : goal.returns
returns c = first_end (label_imported c.args.tables.now c.args.name) c.args.decls.now c.loop-decl.decl-index (first_some (label_imported c.args.tables.now c.args.name) c.args.decls.now) c.loop-decl-test.false c.loop-decl.invariant
