use Rattle.std.proofs.Common.{◌++◌, ◌∙◌, ap, map, sym}
use Rattle.uc_rules.specs.Names.{SenseVariable, enters, names_of}
use Rattle.uc_names.specs.Senses.{entries_meant, module_in}
use Rattle.uc_names.proofs.Forms.{on_ok, own_all}
use Rattle.uc_names.proofs.entries.add_names.Goals as goal

pub returns-in-TypeImport : goal.returns-in-TypeImport
returns-in-TypeImport c =
    on_ok c.add_import.result (λ added. added ∙ ap (λ es. entries_meant c.args.design.now.modules c.args.entries.now ++ es) (sym (ap (names_of c.args.design.now (module_in c.args.design.now.modules c.args.declared.home)) c.in-TypeImport.is))) c.add_import.ensures

pub returns-in-Variables : goal.returns-in-Variables
returns-in-Variables c =
    on_ok c.add_variables.result
    (λ added. added c.args.design.now.modules
    ∙ ap (λ es. entries_meant c.args.design.now.modules c.args.entries.now ++ es) (ap (map (λ i. enters i (SenseVariable c.in-Variables.kind c.in-Variables.ty))) c.as_slice.ensures ∙ sym (ap (names_of c.args.design.now (module_in c.args.design.now.modules c.args.declared.home)) c.in-Variables.is)))
    c.add_variables.ensures

pub returns-in_default : goal.returns-in_default
returns-in_default c =
    on_ok c.add_own.result
    (λ added. added c.args.design.now c.requires
    ∙ ap (λ es. entries_meant c.args.design.now.modules c.args.entries.now ++ es) (own_all c.args.design.now (module_in c.args.design.now.modules c.args.declared.home) c.args.declaration.now c.in_default.not-TypeImport c.in_default.not-Variables))
    c.add_own.ensures
