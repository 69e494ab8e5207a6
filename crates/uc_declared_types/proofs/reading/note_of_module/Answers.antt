use Rattle.std.proofs.Common.{◌≡◌, Some, None, refl, ap, sym, subst, ◌∙◌}
use Rattle.uc_meaning.specs.Lookup.{System, module_named}
use Rattle.uc_rules.specs.Faults.{first_of}
use Rattle.uc_rules.specs.Outcomes.{faults_in, type_in}
use Rattle.uc_rules.specs.Types.{entry_outcome, of_module}
use Rattle.uc_names.specs.Senses.{module_in}
use Rattle.uc_declared_types.proofs.Entries.{noted}
use Rattle.uc_declared_types.proofs.Sides.{related_on, same_related}
use Rattle.uc_declared_types.proofs.reading.note_of_module.Goals as goal

pub returns-in-None-clause-ty : goal.returns-in-None-clause-ty
returns-in-None-clause-ty c =
    λ side alias h. related_on side None _ None None refl (ap (λ o. (of_module c.args.homes.now alias c.args.place c.args.identifier o).type) (sym (c.in-None.ensures ∙ ap (λ s. module_named s c.args.owner) c.design.ensures))) (same_related side None None refl)

pub returns-in-None-clause-faults : goal.returns-in-None-clause-faults
returns-in-None-clause-faults c =
    λ alias. c.note.ensures ∙ noted _ _ ∙ ap (λ o. first_of c.args.first.now (of_module c.args.homes.now alias c.args.place c.args.identifier o).faults) (c.in-None.ensures ∙ ap (λ s. module_named s c.args.owner) c.design.ensures)

pub returns-in_ok-found-in-Some-clause-ty : goal.returns-in_ok-found-in-Some-clause-ty
returns-in_ok-found-in-Some-clause-ty c =
    let there = subst (λ (s : System). Some (module_in s.modules c.in-Some.number) ≡ module_named s c.args.owner) c.design.ensures c.in-Some.ensures in
    λ side alias h. related_on side _ _ _ _ refl
    (ap (λ o. (of_module c.args.homes.now alias c.args.place c.args.identifier o).type) (sym there)
    ∙ ap (λ o. type_in (entry_outcome c.args.homes.now alias c.args.identifier.name o)) (sym c.declared_in-declared.ensures)) (c.in_ok-found-in-Some.ensures.ty side alias h)

pub returns-in_ok-found-in-Some-clause-faults : goal.returns-in_ok-found-in-Some-clause-faults
returns-in_ok-found-in-Some-clause-faults c =
    let there = subst (λ (s : System). Some (module_in s.modules c.in-Some.number) ≡ module_named s c.args.owner) c.design.ensures c.in-Some.ensures in
    λ alias. c.in_ok-found-in-Some.ensures.faults alias
    ∙ ap (λ o. first_of c.args.first.now (faults_in c.args.identifier.place (entry_outcome c.args.homes.now alias c.args.identifier.name o))) c.declared_in-declared.ensures
    ∙ ap (λ o. first_of c.args.first.now (of_module c.args.homes.now alias c.args.place c.args.identifier o).faults) there
