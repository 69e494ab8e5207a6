use Rattle.std.proofs.Common.{◌≡◌, ap, ◌∙◌, sym}
use Rattle.uc_syntax.specs.WrittenTypes.{enums_of_module}
use Rattle.uc_meaning.specs.Lookup.{first_some}
use Rattle.uc_type_reader.specs.Reading.{label_meant, label_at, label_imported, label_in_named}
use Rattle.uc_type_reader.proofs.Listed.{mentioned_enums, mentioned_modules}
use Rattle.uc_type_reader.proofs.Brought.{written_label, label_is}
use Rattle.uc_type_reader.proofs.Imports.{or_known, or_unknown, as_answer}
use Rattle.uc_type_reader.proofs.labels.label_among.Goals as goal

pub returns-then-is_some : goal.returns-then-is_some
returns-then-is_some c =
    let own = c.in_ok-own.ensures ∙ ap (first_some (label_at c.args.tables.now c.args.name)) c.as_slice.ensures
    ∙ written_label c.args.tables.now c.args.name (enums_of_module c.args.code.now) c.args.found.now.enums (mentioned_enums c.args.code.now c.args.found.now c.requires) in
    or_known label_meant c.in_ok-own.own _ _ _ own (sym c.is_some.ensures ∙ c.if-is_some.true) (label_is c.args.tables.now c.args.code.now c.args.name)

pub returns-then-is_some-2 : goal.returns-then-is_some-2
returns-then-is_some-2 c =
    let own = c.in_ok-own.ensures ∙ ap (first_some (label_at c.args.tables.now c.args.name)) c.as_slice.ensures
    ∙ written_label c.args.tables.now c.args.name (enums_of_module c.args.code.now) c.args.found.now.enums (mentioned_enums c.args.code.now c.args.found.now c.requires) in
    let rest = or_unknown label_meant c.in_ok-own.own _ _ _ own (sym c.is_some.ensures ∙ c.if-is_some.false) (label_is c.args.tables.now c.args.code.now c.args.name) in
    or_known label_meant c.in_ok-imported.imported _ _ _ (c.in_ok-imported.ensures ∙ ap (first_some (label_imported c.args.tables.now c.args.name)) c.as_slice-2.ensures)
    (sym c.is_some-2.ensures ∙ c.if-is_some-2.true) (sym rest)

pub returns : goal.returns
returns c =
    let own = c.in_ok-own.ensures ∙ ap (first_some (label_at c.args.tables.now c.args.name)) c.as_slice.ensures
    ∙ written_label c.args.tables.now c.args.name (enums_of_module c.args.code.now) c.args.found.now.enums (mentioned_enums c.args.code.now c.args.found.now c.requires) in
    let rest = or_unknown label_meant c.in_ok-own.own _ _ _ own (sym c.is_some.ensures ∙ c.if-is_some.false) (label_is c.args.tables.now c.args.code.now c.args.name) in
    let last = or_unknown label_meant c.in_ok-imported.imported _ _ _ (c.in_ok-imported.ensures ∙ ap (first_some (label_imported c.args.tables.now c.args.name)) c.as_slice-2.ensures)
    (sym c.is_some-2.ensures ∙ c.if-is_some-2.false) (sym rest) in
    as_answer label_meant _ _ c.first_named.result
    (ap (first_some (label_in_named c.args.tables.now c.args.name)) (c.as_slice-3.ensures ∙ mentioned_modules c.args.code.now c.args.found.now c.requires) ∙ last)
    c.first_named.ensures
