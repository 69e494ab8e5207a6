use Rattle.std.proofs.Common.{Some, refl, ap, sym, ◌∙◌}
use Rattle.uc_names.specs.Senses.{module_in, value_meant}
use Rattle.uc_rules.specs.Faults.{first_of}
use Rattle.uc_rules.specs.Names.{ValuedLabel}
use Rattle.uc_declaration_rules.specs.Judging.{kind_faults, value_faults}
use Rattle.uc_declaration_rules.proofs.Bound.{unknown_bound}
use Rattle.uc_declaration_rules.proofs.bindings.note_value.Goals as goal

pub returns-in-Label : goal.returns-in-Label
returns-in-Label c =
    unknown_bound c.args.scope.now (module_in c.args.scope.now.system.modules c.args.number) c.args.binding.now c.args.ty (Some (value_meant c.args.value)) (Some (ValuedLabel c.in-Label.field-0)) c.args.first.now c.note.new.first
    (ap (λ v. Some (value_meant v)) (sym c.in-Label.is)) c.note.ensures refl

pub returns-in_ok-bound-in-Variable : goal.returns-in_ok-bound-in-Variable
returns-in_ok-bound-in-Variable c =
    c.note_kind.ensures ∙ ap (λ u. first_of c.args.first.now (kind_faults c.args.scope.now c.args.binding.now c.in-Variable.variable.kind c.args.ty u)) c.in_ok-bound-in-Variable.ensures
    ∙ ap (λ v. first_of c.args.first.now (value_faults c.args.scope.now (module_in c.args.scope.now.system.modules c.args.number) c.args.binding.now c.args.ty (Some (value_meant v)))) (sym c.in-Variable.is)
