use Rattle.std.proofs.Common.{◌≡◌, [], length, Some, refl, ap, sym, ◌∙◌}
use Rattle.uc_values.specs.declared.ty.Ty.TheVariants.{Bool as boolean_type, Int as integer_type, Enum as enum_type}
use Rattle.uc_meaning.specs.Lookup.{module_named}
use Rattle.uc_meaning.specs.Types.{enum_number}
use Rattle.uc_rules.specs.declared.outcome.Outcome.TheVariants.{Has}
use Rattle.uc_rules.specs.Faults.{first_of}
use Rattle.uc_rules.specs.Names.{type_named}
use Rattle.uc_rules.specs.Outcomes.{faults_in, type_in}
use Rattle.uc_rules.specs.Rows.{width_outcome}
use Rattle.uc_rules.specs.Types.{TypeFound, entry_outcome, found_by, of_module}
use Rattle.uc_names.specs.Senses.{module_in}
use Rattle.uc_declared_types.specs.Aliases.{Related}
use Rattle.uc_declared_types.proofs.Arms.{array_faults_arm, array_type_arm, fields_begin, fields_end, fields_faults_end, fields_more, named_faults, named_type, plain_faults, plain_type, record_faults_arm, record_type_arm}
use Rattle.uc_declared_types.proofs.Forms.{form_bits, form_boolean, form_enumeration, form_integer, form_named, form_of_module}
use Rattle.uc_declared_types.proofs.Sides.{related_on}
use Rattle.uc_declared_types.proofs.Entries.{none_of}
use Rattle.uc_declared_types.proofs.reading.+note_type.Goals as goal

pub note_fields-loop-parameter-init : goal.note_fields-loop-parameter-init
note_fields-loop-parameter-init t c = fields_begin c.args.homes.now c.args.aliases.now (module_in c.args.homes.now.modules c.args.home) c.args.parameters.now c.args.first.now _ c.new.ensures

pub note_fields-loop-parameter-preserved : goal.note_fields-loop-parameter-preserved
note_fields-loop-parameter-preserved t c =
    fields_more c.args.homes.now c.args.aliases.now (module_in c.args.homes.now.modules c.args.home) c.args.parameters.now c.args.first.now c.loop-parameter.parameter-index c.loop-parameter.fields _ c.loop-parameter.first c.note_type.new.first
    c.parameter-item.result c.parameter-item.result c.in_ok-ty.ty c.loop-parameter.invariant c.loop-parameter-test.true c.parameter-item.is c.in_ok-ty.ensures.ty c.in_ok-ty.ensures.faults c.in_ok-fields.ensures

pub note_fields-returns-clause-fields : goal.note_fields-returns-clause-fields
note_fields-returns-clause-fields t c =
    fields_end c.args.homes.now c.args.aliases.now (module_in c.args.homes.now.modules c.args.home) c.args.parameters.now c.args.first.now c.loop-parameter.parameter-index c.loop-parameter.fields c.loop-parameter.first c.loop-parameter.invariant c.loop-parameter-test.false

pub note_fields-returns-clause-faults : goal.note_fields-returns-clause-faults
note_fields-returns-clause-faults t c =
    fields_faults_end c.args.homes.now c.args.aliases.now (module_in c.args.homes.now.modules c.args.home) c.args.parameters.now c.args.first.now c.loop-parameter.parameter-index c.loop-parameter.fields c.loop-parameter.first c.loop-parameter.invariant c.loop-parameter-test.false

pub note_type-returns-in-Boolean-clause-ty : goal.note_type-returns-in-Boolean-clause-ty
note_type-returns-in-Boolean-clause-ty t c =
    plain_type c.args.homes.now c.args.aliases.now (module_in c.args.homes.now.modules c.args.home) c.args.ty.now c.in-Boolean.field-0 (Has boolean_type) _
    (λ a. ap (found_by c.args.homes.now a (module_in c.args.homes.now.modules c.args.home)) c.in-Boolean.is ∙ form_boolean c.args.homes.now a (module_in c.args.homes.now.modules c.args.home) c.in-Boolean.field-0) refl

pub note_type-returns-in-Boolean-clause-faults : goal.note_type-returns-in-Boolean-clause-faults
note_type-returns-in-Boolean-clause-faults t c =
    plain_faults c.args.homes.now c.args.aliases.now (module_in c.args.homes.now.modules c.args.home) c.args.ty.now c.in-Boolean.field-0 (Has boolean_type) c.args.first.now c.args.first.now
    (λ a. ap (found_by c.args.homes.now a (module_in c.args.homes.now.modules c.args.home)) c.in-Boolean.is ∙ form_boolean c.args.homes.now a (module_in c.args.homes.now.modules c.args.home) c.in-Boolean.field-0) (none_of c.args.first.now)

pub note_type-returns-in-Integer-clause-ty : goal.note_type-returns-in-Integer-clause-ty
note_type-returns-in-Integer-clause-ty t c =
    plain_type c.args.homes.now c.args.aliases.now (module_in c.args.homes.now.modules c.args.home) c.args.ty.now c.in-Integer.field-0 (Has integer_type) _
    (λ a. ap (found_by c.args.homes.now a (module_in c.args.homes.now.modules c.args.home)) c.in-Integer.is ∙ form_integer c.args.homes.now a (module_in c.args.homes.now.modules c.args.home) c.in-Integer.field-0) refl

pub note_type-returns-in-Integer-clause-faults : goal.note_type-returns-in-Integer-clause-faults
note_type-returns-in-Integer-clause-faults t c =
    plain_faults c.args.homes.now c.args.aliases.now (module_in c.args.homes.now.modules c.args.home) c.args.ty.now c.in-Integer.field-0 (Has integer_type) c.args.first.now c.args.first.now
    (λ a. ap (found_by c.args.homes.now a (module_in c.args.homes.now.modules c.args.home)) c.in-Integer.is ∙ form_integer c.args.homes.now a (module_in c.args.homes.now.modules c.args.home) c.in-Integer.field-0) (none_of c.args.first.now)

pub note_type-returns-in-Bits-clause-ty : goal.note_type-returns-in-Bits-clause-ty
note_type-returns-in-Bits-clause-ty t c =
    plain_type c.args.homes.now c.args.aliases.now (module_in c.args.homes.now.modules c.args.home) c.args.ty.now c.in-Bits.place (width_outcome c.in-Bits.width) _
    (λ a. ap (found_by c.args.homes.now a (module_in c.args.homes.now.modules c.args.home)) c.in-Bits.is ∙ form_bits c.args.homes.now a (module_in c.args.homes.now.modules c.args.home) c.in-Bits.place c.in-Bits.width)
    (c.settle.ensures.ty ∙ ap type_in c.width_outcome.ensures)

pub note_type-returns-in-Bits-clause-faults : goal.note_type-returns-in-Bits-clause-faults
note_type-returns-in-Bits-clause-faults t c =
    plain_faults c.args.homes.now c.args.aliases.now (module_in c.args.homes.now.modules c.args.home) c.args.ty.now c.in-Bits.place (width_outcome c.in-Bits.width) c.args.first.now _
    (λ a. ap (found_by c.args.homes.now a (module_in c.args.homes.now.modules c.args.home)) c.in-Bits.is ∙ form_bits c.args.homes.now a (module_in c.args.homes.now.modules c.args.home) c.in-Bits.place c.in-Bits.width)
    (c.settle.ensures.faults ∙ ap (λ o. first_of c.args.first.now (faults_in c.in-Bits.place o)) c.width_outcome.ensures)

pub note_type-returns-in_ok-count-in-Enumeration-clause-ty : goal.note_type-returns-in_ok-count-in-Enumeration-clause-ty
note_type-returns-in_ok-count-in-Enumeration-clause-ty t c =
    plain_type c.args.homes.now c.args.aliases.now (module_in c.args.homes.now.modules c.args.home) c.args.ty.now c.in-Enumeration.place (Has (enum_type (enum_number c.args.homes.now c.in-Enumeration.place) (length c.in-Enumeration.labels))) _
    (λ a. ap (found_by c.args.homes.now a (module_in c.args.homes.now.modules c.args.home)) c.in-Enumeration.is ∙ form_enumeration c.args.homes.now a (module_in c.args.homes.now.modules c.args.home) c.in-Enumeration.place c.in-Enumeration.labels)
    (λ k. Some (enum_type ((c.in_ok-number-in-Enumeration.ensures ∙ c.enum_number.ensures ∙ ap (λ q. enum_number q c.in-Enumeration.place) c.design.ensures) k) ((c.in_ok-count-in-Enumeration.ensures ∙ c.len.ensures) k)))

pub note_type-returns-in_ok-count-in-Enumeration-clause-faults : goal.note_type-returns-in_ok-count-in-Enumeration-clause-faults
note_type-returns-in_ok-count-in-Enumeration-clause-faults t c =
    plain_faults c.args.homes.now c.args.aliases.now (module_in c.args.homes.now.modules c.args.home) c.args.ty.now c.in-Enumeration.place (Has (enum_type (enum_number c.args.homes.now c.in-Enumeration.place) (length c.in-Enumeration.labels))) c.args.first.now c.args.first.now
    (λ a. ap (found_by c.args.homes.now a (module_in c.args.homes.now.modules c.args.home)) c.in-Enumeration.is ∙ form_enumeration c.args.homes.now a (module_in c.args.homes.now.modules c.args.home) c.in-Enumeration.place c.in-Enumeration.labels)
    (none_of c.args.first.now)

pub note_type-returns-in_ok-fields-in-Record-clause-ty : goal.note_type-returns-in_ok-fields-in-Record-clause-ty
note_type-returns-in_ok-fields-in-Record-clause-ty t c =
    record_type_arm c.args.homes.now c.args.aliases.now (module_in c.args.homes.now.modules c.args.home) c.args.ty.now c.in-Record.field-0 c.in-Record.fields c.as_slice-fields.result.now c.in_ok-fields-in-Record.fields c.record_of.result
    c.in-Record.is c.as_slice-fields.ensures c.in_ok-fields-in-Record.ensures.fields c.record_of.ensures

pub note_type-returns-in_ok-fields-in-Record-clause-faults : goal.note_type-returns-in_ok-fields-in-Record-clause-faults
note_type-returns-in_ok-fields-in-Record-clause-faults t c =
    record_faults_arm c.args.homes.now c.args.aliases.now (module_in c.args.homes.now.modules c.args.home) c.args.ty.now c.in-Record.field-0 c.in-Record.fields c.as_slice-fields.result.now c.args.first.now c.note_repeated_fields.new.first c.note_fields.new.first
    c.in-Record.is c.as_slice-fields.ensures c.in_ok-note_repeated_fields-in-Record.ensures c.in_ok-fields-in-Record.ensures.faults

pub note_type-returns-in_ok-outcome-in-Array-clause-ty : goal.note_type-returns-in_ok-outcome-in-Array-clause-ty
note_type-returns-in_ok-outcome-in-Array-clause-ty t c =
    array_type_arm c.args.homes.now c.args.aliases.now (module_in c.args.homes.now.modules c.args.home) c.args.ty.now c.in-Array.place c.in-Array.index c.in-Array.element c.get.result.now c.get-in-Array.result.now
    c.in_ok-index-in-Array.index c.in_ok-element-in-Array.element c.settle-in-Array.result c.in_ok-outcome-in-Array.outcome
    c.in-Array.is c.get.ensures c.get-in-Array.ensures c.in_ok-index-in-Array.ensures.ty c.in_ok-element-in-Array.ensures.ty c.in_ok-outcome-in-Array.ensures c.settle-in-Array.ensures.ty

pub note_type-returns-in_ok-outcome-in-Array-clause-faults : goal.note_type-returns-in_ok-outcome-in-Array-clause-faults
note_type-returns-in_ok-outcome-in-Array-clause-faults t c =
    array_faults_arm c.args.homes.now c.args.aliases.now (module_in c.args.homes.now.modules c.args.home) c.args.ty.now c.in-Array.place c.in-Array.index c.in-Array.element c.get.result.now c.get-in-Array.result.now
    c.in_ok-index-in-Array.index c.in_ok-element-in-Array.element c.in_ok-outcome-in-Array.outcome c.args.first.now c.note_type.new.first c.note_type-in-Array.new.first c.settle-in-Array.new.first
    c.in-Array.is c.get.ensures c.get-in-Array.ensures c.in_ok-index-in-Array.ensures.ty c.in_ok-element-in-Array.ensures.ty c.in_ok-index-in-Array.ensures.faults c.in_ok-element-in-Array.ensures.faults c.in_ok-outcome-in-Array.ensures c.settle-in-Array.ensures.faults

pub note_type-returns-in_ok-found-in-Named-clause-ty : goal.note_type-returns-in_ok-found-in-Named-clause-ty
note_type-returns-in_ok-found-in-Named-clause-ty t c =
    named_type c.args.homes.now c.args.aliases.now (module_in c.args.homes.now.modules c.args.home) c.args.ty.now c.in-Named.place (λ a. entry_outcome c.args.homes.now a c.in-Named.name (type_named c.args.homes.now (module_in c.args.homes.now.modules c.args.home) c.in-Named.name)) c.in_ok-found-in-Named.found
    (λ a. ap (found_by c.args.homes.now a (module_in c.args.homes.now.modules c.args.home)) c.in-Named.is ∙ form_named c.args.homes.now a (module_in c.args.homes.now.modules c.args.home) c.in-Named.place c.in-Named.name)
    (λ side a h. related_on side _ _ _ _ refl (ap (λ o. type_in (entry_outcome c.args.homes.now a c.in-Named.name o)) (sym c.declared-declared.ensures)) (c.in_ok-found-in-Named.ensures.ty side a h))

pub note_type-returns-in_ok-found-in-Named-clause-faults : goal.note_type-returns-in_ok-found-in-Named-clause-faults
note_type-returns-in_ok-found-in-Named-clause-faults t c =
    named_faults c.args.homes.now c.args.aliases.now (module_in c.args.homes.now.modules c.args.home) c.args.ty.now c.in-Named.place (λ a. entry_outcome c.args.homes.now a c.in-Named.name (type_named c.args.homes.now (module_in c.args.homes.now.modules c.args.home) c.in-Named.name)) c.args.first.now c.note_named.new.first
    (λ a. ap (found_by c.args.homes.now a (module_in c.args.homes.now.modules c.args.home)) c.in-Named.is ∙ form_named c.args.homes.now a (module_in c.args.homes.now.modules c.args.home) c.in-Named.place c.in-Named.name)
    (λ a. c.in_ok-found-in-Named.ensures.faults a ∙ ap (λ o. first_of c.args.first.now (faults_in c.in-Named.place (entry_outcome c.args.homes.now a c.in-Named.name o))) c.declared-declared.ensures)

pub note_type-returns-in_ok-found-in-OfModule-clause-ty : goal.note_type-returns-in_ok-found-in-OfModule-clause-ty
note_type-returns-in_ok-found-in-OfModule-clause-ty t c =
    λ side a h. related_on side _ _ _ _ refl
    (ap (λ u. (found_by c.args.homes.now a (module_in c.args.homes.now.modules c.args.home) u).type) c.in-OfModule.is
    ∙ ap (λ (f : TypeFound). f.type) (form_of_module c.args.homes.now a (module_in c.args.homes.now.modules c.args.home) c.in-OfModule.place c.in-OfModule.owner c.in-OfModule.identifier)) (c.in_ok-found-in-OfModule.ensures.ty side a h)

pub note_type-returns-in_ok-found-in-OfModule-clause-faults : goal.note_type-returns-in_ok-found-in-OfModule-clause-faults
note_type-returns-in_ok-found-in-OfModule-clause-faults t c =
    λ a h. c.in_ok-found-in-OfModule.ensures.faults a
    ∙ sym (ap (λ u. first_of c.args.first.now (found_by c.args.homes.now a (module_in c.args.homes.now.modules c.args.home) u).faults) c.in-OfModule.is
    ∙ ap (λ (f : TypeFound). first_of c.args.first.now f.faults) (form_of_module c.args.homes.now a (module_in c.args.homes.now.modules c.args.home) c.in-OfModule.place c.in-OfModule.owner c.in-OfModule.identifier))
