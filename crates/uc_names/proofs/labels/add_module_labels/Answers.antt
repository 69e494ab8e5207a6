use Rattle.std.proofs.Common.{◌++◌, ◌∙◌, ap, sym}
use Rattle.uc_names.specs.Senses.{entries_meant}
use Rattle.uc_names.proofs.Forms.{found_labels, missing_labels}
use Rattle.uc_names.proofs.labels.add_module_labels.Goals as goal

pub returns-in-None : goal.returns-in-None
returns-in-None c = missing_labels c.args.design.now c.args.at c.args.number (entries_meant c.args.design.now.modules c.args.entries.now) (sym c.in-None.ensures)

pub returns-in_ok-add_enums_at-in-Some : goal.returns-in_ok-add_enums_at-in-Some
returns-in_ok-add_enums_at-in-Some c =
    c.in_ok-add_enums_at-in-Some.ensures
    ∙ ap (λ es. entries_meant c.args.design.now.modules c.args.entries.now ++ es)
    (found_labels c.args.design.now c.args.at c.args.number _ c.in_ok-enums-in-Some.enums _ (sym c.in-Some.ensures) c.in_ok-enums-in-Some.ensures c.as_slice.ensures)
