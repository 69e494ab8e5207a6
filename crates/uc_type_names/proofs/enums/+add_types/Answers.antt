use Rattle.std.proofs.Common.{◌∷◌, [], ◌++◌, ◌∙◌, sym, ap, map}
use Rattle.std.specs.List.{flat_map}
use Rattle.uc_syntax.specs.WrittenTypes.{enums_in}
use Rattle.uc_syntax.proofs.Added.{adds_nothing, adds_one, adds_two}
use Rattle.uc_type_names.proofs.EnumForms.{enums_boolean, enums_integer, enums_bits, enums_enumeration, enums_record, enums_array, enums_named, enums_of_other}
use Rattle.uc_type_names.proofs.enums.+add_types.Goals as goal

pub add_type-returns-in-Boolean : goal.add_type-returns-in-Boolean
add_type-returns-in-Boolean t c = adds_nothing enums_in _ _ _ c.in-Boolean.is (enums_boolean _)

pub add_type-returns-in-Integer : goal.add_type-returns-in-Integer
add_type-returns-in-Integer t c = adds_nothing enums_in _ _ _ c.in-Integer.is (enums_integer _)

pub add_type-returns-in-Bits : goal.add_type-returns-in-Bits
add_type-returns-in-Bits t c = adds_nothing enums_in _ _ _ c.in-Bits.is (enums_bits _ _)

pub add_type-returns-in_ok-push-in-Enumeration : goal.add_type-returns-in_ok-push-in-Enumeration
add_type-returns-in_ok-push-in-Enumeration t c =
    adds_one enums_in _ _ _ c.in-Enumeration.is _ _
    (enums_enumeration c.in-Enumeration.place c.in-Enumeration.labels ∙ (λ k. record { place = c.in-Enumeration.place; labels = map (λ l. l.name) (sym c.as_slice-labels.ensures k) } ∷ []))
    c.in_ok-push-in-Enumeration.ensures

pub add_type-returns-in_ok-add_fields-in-Record : goal.add_type-returns-in_ok-add_fields-in-Record
add_type-returns-in_ok-add_fields-in-Record t c =
    adds_one enums_in _ _ _ c.in-Record.is _ _
    (enums_record _ _ ∙ ap (flat_map (λ p. enums_in p.ty)) (sym c.as_slice.ensures)) c.in_ok-add_fields-in-Record.ensures

pub add_type-returns-in_ok-add_type-in-Array-2 : goal.add_type-returns-in_ok-add_type-in-Array-2
add_type-returns-in_ok-add_type-in-Array-2 t c =
    adds_two enums_in _ _ _ c.in-Array.is _ _ _ _
    (enums_array _ _ _ ∙ (λ k. enums_in (sym c.get.ensures k) ++ enums_in (sym c.get-in-Array.ensures k)))
    c.in_ok-add_type-in-Array.ensures c.in_ok-add_type-in-Array-2.ensures

pub add_type-returns-in-Named : goal.add_type-returns-in-Named
add_type-returns-in-Named t c = adds_nothing enums_in _ _ _ c.in-Named.is (enums_named _ _)

pub add_type-returns-in-OfModule : goal.add_type-returns-in-OfModule
add_type-returns-in-OfModule t c = adds_nothing enums_in _ _ _ c.in-OfModule.is (enums_of_other _ _ _)
