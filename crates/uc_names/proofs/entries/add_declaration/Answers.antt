use Rattle.std.proofs.Common.{◌++◌, ◌∙◌, ap, append_assoc}
use Rattle.std.specs.List.{flat_map}
use Rattle.uc_syntax.specs.WrittenTypes.{types_in}
use Rattle.uc_rules.specs.Names.{labels_in, names_of}
use Rattle.uc_names.specs.Senses.{entries_meant, module_in}
use Rattle.uc_names.specs.Entries.{labels_by_types}
use Rattle.uc_names.proofs.Forms.{labels_lent}
use Rattle.uc_names.proofs.entries.add_declaration.Goals as goal

pub returns : goal.returns
returns c =
    c.in_ok-add_types_labels.ensures
    ∙ (λ k. c.in_ok-add_names.ensures k ++ (ap (labels_by_types c.args.design.now) c.as_slice.ensures ∙ labels_lent c.args.design.now c.in_ok-types.types ∙ ap (flat_map (labels_in c.args.design.now)) c.in_ok-types.ensures) k)
    ∙ append_assoc (entries_meant c.args.design.now.modules c.args.entries.now) (names_of c.args.design.now (module_in c.args.design.now.modules c.args.declared.home) c.args.declaration.now) (flat_map (labels_in c.args.design.now) (types_in c.args.declaration.now))
