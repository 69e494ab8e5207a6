use Rattle.std.proofs.Common.{◌≡◌, None, refl, ap, sym, ◌∙◌}
use Rattle.std.specs.Option.{option_map}
use Rattle.uc_rules.specs.Faults.{first_of}
use Rattle.uc_rules.specs.Outcomes.{faults_in, type_in}
use Rattle.uc_rules.specs.Types.{entry_outcome}
use Rattle.uc_names.specs.Senses.{declared_meant}
use Rattle.uc_declared_types.proofs.Entries.{named_fault, noted}
use Rattle.uc_declared_types.proofs.Sides.{related_on, same_related}
use Rattle.uc_declared_types.proofs.named.note_named.Goals as goal

pub returns-in-None-clause-ty : goal.returns-in-None-clause-ty
returns-in-None-clause-ty c =
    λ side alias h. related_on side None _ None None refl (ap (λ o. type_in (entry_outcome c.args.homes.now alias c.args.name (option_map (declared_meant c.args.homes.now.modules) o))) c.in-None.is) (same_related side None None refl)

pub returns-in-None-clause-faults : goal.returns-in-None-clause-faults
returns-in-None-clause-faults c =
    λ alias. c.note.ensures ∙ noted _ _ ∙ sym (ap (λ o. first_of c.args.first.now (faults_in c.args.place (entry_outcome c.args.homes.now alias c.args.name (option_map (declared_meant c.args.homes.now.modules) o)))) c.in-None.is)

pub returns-in_ok-ty-in-Some-clause-ty : goal.returns-in_ok-ty-in-Some-clause-ty
returns-in_ok-ty-in-Some-clause-ty c =
    λ side alias h. related_on side _ _ _ _ refl (ap (λ o. type_in (entry_outcome c.args.homes.now alias c.args.name (option_map (declared_meant c.args.homes.now.modules) o))) c.in-Some.is) (c.in_ok-ty-in-Some.ensures side alias h)

pub returns-in_ok-ty-in-Some-clause-faults : goal.returns-in_ok-ty-in-Some-clause-faults
returns-in_ok-ty-in-Some-clause-faults c = λ alias. named_fault c.args.homes.now alias c.args.place c.args.name c.in-Some.declared c.args.declared c.args.first.now c.in-Some.is
