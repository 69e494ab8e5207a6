use Rattle.std.proofs.Common.{◌≡◌, [], ◌++◌, take, refl, ap, sym, subst, ◌∙◌}
use Rattle.std.specs.List.{flat_map}
use Rattle.std.specs.Option.{option_map}
use Rattle.uc_meaning.specs.Lookup.{module_named}
use Rattle.uc_names.specs.Senses.{declared_meant, module_in}
use Rattle.uc_rules.specs.Cycles.{entry_name, mentioned, name_of_module}
use Rattle.uc_cycles.specs.Numbers.{type_places}
use Rattle.uc_cycles.proofs.Forms.{adds_begin, adds_end, adds_more, adds_nothing, adds_same, adds_two, of_array, of_bits, of_boolean, of_enumeration, of_integer, of_named, of_other, of_record}
use Rattle.uc_cycles.proofs.mentioned.+add_mentioned.Goals as goal

pub add_mentioned-returns-in_ok-add_all_mentioned-in-Record : goal.add_mentioned-returns-in_ok-add_all_mentioned-in-Record
add_mentioned-returns-in_ok-add_all_mentioned-in-Record t c =
    adds_same c.args.numbers.now c.args.needs.now c.add_all_mentioned.new.needs (flat_map (λ p. mentioned c.args.homes.now (module_in c.args.homes.now.modules c.args.home) p.ty) c.in-Record.fields) (mentioned c.args.homes.now (module_in c.args.homes.now.modules c.args.home) c.args.ty.now)
    (ap (mentioned c.args.homes.now (module_in c.args.homes.now.modules c.args.home)) c.in-Record.is ∙ of_record c.args.homes.now (module_in c.args.homes.now.modules c.args.home) c.in-Record.field-0 c.in-Record.fields)
    (c.in_ok-add_all_mentioned-in-Record.ensures ∙ ap (λ ps. c.args.needs.now ++ type_places c.args.numbers.now (flat_map (λ p. mentioned c.args.homes.now (module_in c.args.homes.now.modules c.args.home) p.ty) ps)) c.as_slice.ensures)

pub add_mentioned-returns-in_ok-add_mentioned-in-Array-2 : goal.add_mentioned-returns-in_ok-add_mentioned-in-Array-2
add_mentioned-returns-in_ok-add_mentioned-in-Array-2 t c =
    adds_same c.args.numbers.now c.args.needs.now c.add_mentioned-in-Array.new.needs (mentioned c.args.homes.now (module_in c.args.homes.now.modules c.args.home) c.get.result.now ++ mentioned c.args.homes.now (module_in c.args.homes.now.modules c.args.home) c.get-in-Array.result.now) (mentioned c.args.homes.now (module_in c.args.homes.now.modules c.args.home) c.args.ty.now)
    (ap (mentioned c.args.homes.now (module_in c.args.homes.now.modules c.args.home)) c.in-Array.is ∙ of_array c.args.homes.now (module_in c.args.homes.now.modules c.args.home) c.in-Array.field-0 c.in-Array.index c.in-Array.element ∙ ap (λ x. mentioned c.args.homes.now (module_in c.args.homes.now.modules c.args.home) x ++ mentioned c.args.homes.now (module_in c.args.homes.now.modules c.args.home) c.in-Array.element) (sym c.get.ensures) ∙ ap (λ x. mentioned c.args.homes.now (module_in c.args.homes.now.modules c.args.home) c.get.result.now ++ mentioned c.args.homes.now (module_in c.args.homes.now.modules c.args.home) x) (sym c.get-in-Array.ensures))
    (adds_two c.args.numbers.now c.args.needs.now c.add_mentioned.new.needs c.add_mentioned-in-Array.new.needs (mentioned c.args.homes.now (module_in c.args.homes.now.modules c.args.home) c.get.result.now) (mentioned c.args.homes.now (module_in c.args.homes.now.modules c.args.home) c.get-in-Array.result.now) c.in_ok-add_mentioned-in-Array.ensures c.in_ok-add_mentioned-in-Array-2.ensures)

pub add_mentioned-returns-in_ok-add_declared-in-Named : goal.add_mentioned-returns-in_ok-add_declared-in-Named
add_mentioned-returns-in_ok-add_declared-in-Named t c =
    adds_same c.args.numbers.now c.args.needs.now c.add_declared.new.needs (entry_name c.in-Named.name (option_map (declared_meant c.args.homes.now.modules) c.declared.result)) (mentioned c.args.homes.now (module_in c.args.homes.now.modules c.args.home) c.args.ty.now)
    (ap (mentioned c.args.homes.now (module_in c.args.homes.now.modules c.args.home)) c.in-Named.is ∙ of_named c.args.homes.now (module_in c.args.homes.now.modules c.args.home) c.in-Named.field-0 c.in-Named.name ∙ ap (entry_name c.in-Named.name) (sym c.declared.ensures)) c.in_ok-add_declared-in-Named.ensures

pub add_mentioned-returns-in_ok-add_of_module-in-OfModule : goal.add_mentioned-returns-in_ok-add_of_module-in-OfModule
add_mentioned-returns-in_ok-add_of_module-in-OfModule t c =
    adds_same c.args.numbers.now c.args.needs.now c.add_of_module.new.needs (name_of_module c.in-OfModule.identifier.name (module_named c.args.homes.now c.in-OfModule.owner)) (mentioned c.args.homes.now (module_in c.args.homes.now.modules c.args.home) c.args.ty.now)
    (ap (mentioned c.args.homes.now (module_in c.args.homes.now.modules c.args.home)) c.in-OfModule.is ∙ of_other c.args.homes.now (module_in c.args.homes.now.modules c.args.home) c.in-OfModule.field-0 c.in-OfModule.owner c.in-OfModule.identifier) c.in_ok-add_of_module-in-OfModule.ensures

pub add_mentioned-returns-in-Boolean : goal.add_mentioned-returns-in-Boolean
add_mentioned-returns-in-Boolean t c = adds_nothing c.args.numbers.now c.args.needs.now (mentioned c.args.homes.now (module_in c.args.homes.now.modules c.args.home) c.args.ty.now) (ap (mentioned c.args.homes.now (module_in c.args.homes.now.modules c.args.home)) c.in-Boolean.is ∙ of_boolean c.args.homes.now (module_in c.args.homes.now.modules c.args.home) c.in-Boolean.field-0)

pub add_mentioned-returns-in-Integer : goal.add_mentioned-returns-in-Integer
add_mentioned-returns-in-Integer t c = adds_nothing c.args.numbers.now c.args.needs.now (mentioned c.args.homes.now (module_in c.args.homes.now.modules c.args.home) c.args.ty.now) (ap (mentioned c.args.homes.now (module_in c.args.homes.now.modules c.args.home)) c.in-Integer.is ∙ of_integer c.args.homes.now (module_in c.args.homes.now.modules c.args.home) c.in-Integer.field-0)

pub add_mentioned-returns-in-Bits : goal.add_mentioned-returns-in-Bits
add_mentioned-returns-in-Bits t c = adds_nothing c.args.numbers.now c.args.needs.now (mentioned c.args.homes.now (module_in c.args.homes.now.modules c.args.home) c.args.ty.now) (ap (mentioned c.args.homes.now (module_in c.args.homes.now.modules c.args.home)) c.in-Bits.is ∙ of_bits c.args.homes.now (module_in c.args.homes.now.modules c.args.home) c.in-Bits.field-0 c.in-Bits.field-1)

pub add_mentioned-returns-in-Enumeration : goal.add_mentioned-returns-in-Enumeration
add_mentioned-returns-in-Enumeration t c = adds_nothing c.args.numbers.now c.args.needs.now (mentioned c.args.homes.now (module_in c.args.homes.now.modules c.args.home) c.args.ty.now) (ap (mentioned c.args.homes.now (module_in c.args.homes.now.modules c.args.home)) c.in-Enumeration.is ∙ of_enumeration c.args.homes.now (module_in c.args.homes.now.modules c.args.home) c.in-Enumeration.field-0 c.in-Enumeration.field-1)

pub add_all_mentioned-loop-field-init : goal.add_all_mentioned-loop-field-init
add_all_mentioned-loop-field-init t c = adds_begin c.args.numbers.now (λ p. mentioned c.args.homes.now (module_in c.args.homes.now.modules c.args.home) p.ty) c.args.needs.now c.args.fields.now

pub add_all_mentioned-loop-field-preserved : goal.add_all_mentioned-loop-field-preserved
add_all_mentioned-loop-field-preserved t c =
    adds_more c.args.numbers.now (λ p. mentioned c.args.homes.now (module_in c.args.homes.now.modules c.args.home) p.ty) c.args.fields.now c.loop-field.field-index c.field-item.result c.args.needs.now c.loop-field.needs c.add_mentioned.new.needs c.loop-field-test.true c.loop-field.invariant
    (adds_same c.args.numbers.now c.loop-field.needs c.add_mentioned.new.needs (mentioned c.args.homes.now (module_in c.args.homes.now.modules c.args.home) c.field-item.result.ty) _ (ap (λ p. mentioned c.args.homes.now (module_in c.args.homes.now.modules c.args.home) p.ty) (sym c.field-item.is)) c.in_ok-add_mentioned.ensures)

pub add_all_mentioned-returns : goal.add_all_mentioned-returns
add_all_mentioned-returns t c = adds_end c.args.numbers.now (λ p. mentioned c.args.homes.now (module_in c.args.homes.now.modules c.args.home) p.ty) c.args.fields.now c.loop-field.field-index c.args.needs.now c.loop-field.needs c.loop-field-test.false c.loop-field.invariant
