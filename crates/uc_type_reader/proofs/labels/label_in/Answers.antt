use Rattle.std.proofs.Common.{◌≡◌, ap, ◌∙◌, sym}
use Rattle.uc_syntax.specs.WrittenTypes.{enums_of_module}
use Rattle.uc_meaning.specs.Lookup.{first_some}
use Rattle.uc_type_reader.specs.Reading.{label_meant, label_at}
use Rattle.uc_type_reader.proofs.Listed.{mentioned_enums}
use Rattle.uc_type_reader.proofs.Brought.{written_label}
use Rattle.uc_type_reader.proofs.Imports.{as_answer}
use Rattle.uc_type_reader.proofs.labels.label_in.Goals as goal

pub returns : goal.returns
returns c =
    as_answer label_meant _ _ c.first_label.result
    (ap (first_some (label_at c.args.tables.now c.args.name)) c.as_slice.ensures
    ∙ written_label c.args.tables.now c.args.name (enums_of_module c.args.code.now) c.in_ok-found.found.enums (mentioned_enums c.args.code.now c.in_ok-found.found c.in_ok-found.ensures))
    c.first_label.ensures
