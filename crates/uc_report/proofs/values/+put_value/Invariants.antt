use Rattle.std.proofs.Common.{◌≡◌, ◌++◌}
use Rattle.std.specs.Prelude.{codes}
use Rattle.std.specs.List.{join_by}
use Rattle.uc_syntax.proofs.Added.{AddedUpTo}
use Rattle.uc_report.specs.Described.{described}
use Rattle.uc_report.specs.Values.{field_texts, printers, row_text, value_text}
use Rattle.uc_report.proofs.Steps.{fields_from}
use Rattle.uc_report.proofs.values.+put_value.Given as goal

abbrev pub invariant-put_fields-loop-place : goal.invariant-put_fields-loop-place
invariant-put_fields-loop-place l =
    l.out.items ++ fields_from (described l.d) l.fields l.parts l.place
    ≡ l.initial.out.items ++ join_by (λ text. text) (codes ", ") (field_texts (described l.d) (printers (described l.d) l.fields) l.parts)

abbrev pub invariant-put_array-loop-place : goal.invariant-put_array-loop-place
invariant-put_array-loop-place l =
    AddedUpTo (row_text (value_text (described l.d) l.index) (value_text (described l.d) l.element)) l.place-items l.initial.out.items l.place-index l.out.items
