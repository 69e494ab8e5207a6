use Rattle.std.proofs.Common.{◌++◌, ◌∙◌, ap, append_assoc}
use Rattle.std.specs.Option.{option_map}
use Rattle.uc_rules.specs.Names.{labels_brought, types_brought}
use Rattle.uc_names.specs.Senses.{entries_meant, module_in}
use Rattle.uc_names.proofs.entries.add_import.Goals as goal

pub returns : goal.returns
returns c =
    c.in_ok-add_brought.ensures
    ∙ ap (λ es. es ++ labels_brought c.args.design.now c.args.at (option_map (module_in c.args.design.now.modules) c.module_named-number.result)) c.in_ok-add_types_at.ensures
    ∙ append_assoc (entries_meant c.args.design.now.modules c.args.entries.now) (types_brought c.args.at (option_map (module_in c.args.design.now.modules) c.module_named-number.result)) (labels_brought c.args.design.now c.args.at (option_map (module_in c.args.design.now.modules) c.module_named-number.result))
    ∙ ap (λ o. entries_meant c.args.design.now.modules c.args.entries.now ++ (types_brought c.args.at o ++ labels_brought c.args.design.now c.args.at o)) c.module_named-number.ensures
