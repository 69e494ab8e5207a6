use Rattle.std.proofs.Common.{◌++◌, ◌∙◌, ap, map}
use Rattle.uc_rules.specs.Names.{labels_from, name_at}
use Rattle.uc_names.specs.Senses.{entries_meant}
use Rattle.uc_names.proofs.labels.add_enum_at.Goals as goal

pub returns : goal.returns
returns c =
    c.in_ok-add_labels_at.ensures c.args.design.now.modules
    ∙ ap (λ n. entries_meant c.args.design.now.modules c.args.entries.now ++ labels_from n 0 (map (λ l. name_at c.args.at l.name) c.args.written.now.labels.now)) c.enum_number-number.ensures
