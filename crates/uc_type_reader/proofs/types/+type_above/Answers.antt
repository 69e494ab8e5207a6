use Rattle.std.proofs.Common.{◌≡◌, ◌-◌, Some, ap, ◌∙◌, sym, arith}
use Rattle.std.specs.Option.{option_copied}
use Rattle.uc_values.specs.declared.ty.Ty.TheVariants.{Un as open_type}
use Rattle.uc_meaning.specs.Lookup.{first_some, module_named}
use Rattle.uc_meaning.specs.Types.{type_in, home_of_type}
use Rattle.uc_type_reader.specs.Reading.{entry_meant, type_above, cost_through, cost_above, costs_above, cost_in_home}
use Rattle.uc_type_reader.proofs.Equations.{cost_record, cost_array, cost_named, cost_of_module, cost_at, alias_type, alias_end, alias_cost, alias_home, opaque_home, alias_home_cost, as_type}
use Rattle.uc_type_reader.proofs.types.+type_above.Goals as goal

pub type_above-fields_above-requires : goal.type_above-fields_above-requires
type_above-fields_above-requires t c =
    let l = ap (cost_above c.args.below c.args.tables.now c.args.code.now) c.in-Record.is ∙ cost_record c.args.below c.args.tables.now c.args.code.now c.in-Record.field-0 c.in-Record.fields in
    let g = ap (costs_above c.args.below c.args.tables.now c.args.code.now) c.as_slice.ensures in
    (omega (arith, c.decreases, l, g), tt)

pub fields_above-type_above-requires : goal.fields_above-type_above-requires
fields_above-type_above-requires t c =
    let l = cost_at c.args.below c.args.tables.now c.args.code.now c.args.parameters.now c.loop-parameter.parameter-index c.parameter-item.result c.loop-parameter-test.true c.parameter-item.is in
    (omega (arith, c.decreases, l), tt)

pub type_above-type_above-requires : goal.type_above-type_above-requires
type_above-type_above-requires t c =
    let l = ap (cost_above c.args.below c.args.tables.now c.args.code.now) c.in-Array.is ∙ cost_array c.args.below c.args.tables.now c.args.code.now c.in-Array.field-0 c.in-Array.index c.in-Array.element in
    let g = ap (cost_above c.args.below c.args.tables.now c.args.code.now) c.get.ensures in
    (omega (arith, c.decreases, l, g), tt)

pub type_above-type_above-requires-in-Array : goal.type_above-type_above-requires-in-Array
type_above-type_above-requires-in-Array t c =
    let l = ap (cost_above c.args.below c.args.tables.now c.args.code.now) c.in-Array.is ∙ cost_array c.args.below c.args.tables.now c.args.code.now c.in-Array.field-0 c.in-Array.index c.in-Array.element in
    let g = ap (cost_above c.args.below c.args.tables.now c.args.code.now) c.get-in-Array.ensures in
    (omega (arith, c.decreases, l, g), tt)

pub type_above-type_in_home-requires : goal.type_above-type_in_home-requires
type_above-type_in_home-requires t c =
    let l = ap (cost_above c.args.below c.args.tables.now c.args.code.now) c.in-Named.is ∙ cost_named c.args.below c.args.tables.now c.args.code.now c.in-Named.field-0 c.in-Named.name in
    let h = ap (λ o. cost_in_home (cost_through c.args.below c.args.tables.now) o c.in-Named.name)
    (c.home_of_type-home.ensures ∙ ap (λ q. home_of_type q c.args.code.now c.in-Named.name) c.system.ensures) in
    (omega (arith, c.decreases, l, h), tt)

pub type_above-type_in_home-requires-in-OfModule : goal.type_above-type_in_home-requires-in-OfModule
type_above-type_in_home-requires-in-OfModule t c =
    let l = ap (cost_above c.args.below c.args.tables.now c.args.code.now) c.in-OfModule.is ∙ cost_of_module c.args.below c.args.tables.now c.args.code.now c.in-OfModule.field-0 c.in-OfModule.owner c.in-OfModule.identifier in
    let h = ap (λ o. cost_in_home (cost_through c.args.below c.args.tables.now) o c.in-OfModule.identifier.name)
    (c.module_named-home.ensures ∙ ap (λ q. module_named q c.in-OfModule.owner) c.system-in-OfModule.ensures) in
    (omega (arith, c.decreases, l, h), tt)

pub type_in_home-returns-then-below-eq0 : goal.type_in_home-returns-then-below-eq0
type_in_home-returns-then-below-eq0 t c =
    let some = ap (λ e. Some (entry_meant e)) (sym c.in-Some-Alias.field-0-is) ∙ (c.in-Some-Alias.ensures ∙ ap (first_some (type_in c.args.name)) c.as_slice.ensures) in
    alias_end c.args.below c.args.tables.now c.in-Some.code.now c.in-Some-Alias.ty.now c.if-below-eq0.true
    ∙ sym (alias_home c.args.below c.args.tables.now c.in-Some.code.now c.args.name (option_copied c.args.home) (ap option_copied c.in-Some.is) c.in-Some-Alias.ty.now some)

pub type_in_home-type_above-requires : goal.type_in_home-type_above-requires
type_in_home-type_above-requires t c =
    let some = ap (λ e. Some (entry_meant e)) (sym c.in-Some-Alias.field-0-is) ∙ (c.in-Some-Alias.ensures ∙ ap (first_some (type_in c.args.name)) c.as_slice.ensures) in
    let l = alias_home_cost c.args.below c.args.tables.now c.in-Some.code.now c.args.name (option_copied c.args.home) (ap option_copied c.in-Some.is) c.in-Some-Alias.ty.now some in
    let g = alias_cost c.args.below c.args.tables.now c.in-Some.code.now c.in-Some-Alias.ty.now c.if-below-eq0.false in
    (omega (arith, c.decreases, l, g), tt)

pub type_in_home-returns-else-below-eq0 : goal.type_in_home-returns-else-below-eq0
type_in_home-returns-else-below-eq0 t c =
    let some = ap (λ e. Some (entry_meant e)) (sym c.in-Some-Alias.field-0-is) ∙ (c.in-Some-Alias.ensures ∙ ap (first_some (type_in c.args.name)) c.as_slice.ensures) in
    as_type (type_above (c.args.below - 1) c.args.tables.now c.in-Some.code.now c.in-Some-Alias.ty.now) _ _
    (alias_type c.args.below c.args.tables.now c.in-Some.code.now c.in-Some-Alias.ty.now c.if-below-eq0.false
    ∙ sym (alias_home c.args.below c.args.tables.now c.in-Some.code.now c.args.name (option_copied c.args.home) (ap option_copied c.in-Some.is) c.in-Some-Alias.ty.now some))
    c.type_above.ensures

pub type_in_home-returns-in_ok-number-in-Some-Opaque : goal.type_in_home-returns-in_ok-number-in-Some-Opaque
type_in_home-returns-in_ok-number-in-Some-Opaque t c =
    let some = ap (λ e. Some (entry_meant e)) (sym c.in-Some-Opaque.field-0-is) ∙ (c.in-Some-Opaque.ensures ∙ ap (first_some (type_in c.args.name)) c.as_slice.ensures) in
    ap open_type (c.in_ok-number-in-Some-Opaque.ensures ∙ c.opaque_number.ensures)
    ∙ sym (opaque_home c.args.below c.args.tables.now c.in-Some.code.now c.args.name (option_copied c.args.home) (ap option_copied c.in-Some.is) some)
