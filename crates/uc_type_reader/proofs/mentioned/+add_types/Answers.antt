use Rattle.std.proofs.Common.{ap, sym, ◌∙◌, map, [], ◌∷◌, ◌++◌}
use Rattle.std.specs.List.{flat_map}
use Rattle.uc_syntax.specs.WrittenTypes.{types_of_parameters}
use Rattle.uc_syntax.proofs.Added.{append_nil}
use Rattle.uc_type_reader.specs.declared.mentioned.WrittenEnum.{WrittenEnum}
use Rattle.uc_type_reader.specs.Mentioned.{Gains, enums_at, modules_at}
use Rattle.uc_type_reader.proofs.Gained.{gains_join}
use Rattle.uc_type_reader.proofs.Written.{gains_type, gains_plain, gains_inside, enums_boolean, enums_integer, enums_bits, enums_enumeration, enums_record, enums_named, enums_array, enums_of_module, modules_boolean, modules_integer, modules_bits, modules_enumeration, modules_record, modules_named, modules_array, modules_of_module}
use Rattle.uc_type_reader.proofs.mentioned.+add_types.Goals as goal

pub add_type-returns-in-Boolean : goal.add_type-returns-in-Boolean
add_type-returns-in-Boolean t c = gains_plain _ _ _ c.in-Boolean.is (enums_boolean _) (modules_boolean _)

pub add_type-returns-in-Integer : goal.add_type-returns-in-Integer
add_type-returns-in-Integer t c = gains_plain _ _ _ c.in-Integer.is (enums_integer _) (modules_integer _)

pub add_type-returns-in-Bits : goal.add_type-returns-in-Bits
add_type-returns-in-Bits t c = gains_plain _ _ _ c.in-Bits.is (enums_bits _ _) (modules_bits _ _)

pub add_type-returns-in_ok-push-in-Enumeration : goal.add_type-returns-in_ok-push-in-Enumeration
add_type-returns-in_ok-push-in-Enumeration t c =
    gains_type _ _ _ _ _ _ c.in-Enumeration.is (enums_enumeration _ _) (modules_enumeration _ _)
    (c.in_ok-push-in-Enumeration.ensures.ok
    ∙ ap (λ ls. c.args.found.now.enums ++ (record { place = c.in-Enumeration.place; labels = ls }) ∷ []) (c.in_ok-labels-in-Enumeration.ensures ∙ ap (λ ls. map (λ l. l.name) ls) c.as_slice.ensures))
    (sym (append_nil c.args.found.now.modules))

pub add_type-returns-in_ok-add_parameters-in-Record : goal.add_type-returns-in_ok-add_parameters-in-Record
add_type-returns-in_ok-add_parameters-in-Record t c =
    gains_inside _ _ _ _ (types_of_parameters c.as_slice-in-Record.result.now) c.in-Record.is
    (enums_record _ _ ∙ ap (λ ps. flat_map enums_at (types_of_parameters ps)) (sym c.as_slice-in-Record.ensures))
    (modules_record _ _ ∙ ap (λ ps. flat_map modules_at (types_of_parameters ps)) (sym c.as_slice-in-Record.ensures))
    c.in_ok-add_parameters-in-Record.ensures

pub add_type-returns-in_ok-add_type-in-Array-2 : goal.add_type-returns-in_ok-add_type-in-Array-2
add_type-returns-in_ok-add_type-in-Array-2 t c =
    gains_inside _ _ _ _ (c.get.result.now ∷ (c.get-in-Array.result.now ∷ [])) c.in-Array.is
    (enums_array _ _ _ ∙ (λ k. flat_map enums_at (sym c.get.ensures k ∷ (sym c.get-in-Array.ensures k ∷ []))))
    (modules_array _ _ _ ∙ (λ k. flat_map modules_at (sym c.get.ensures k ∷ (sym c.get-in-Array.ensures k ∷ []))))
    (gains_join _ _ _ (c.get.result.now ∷ []) (c.get-in-Array.result.now ∷ []) c.in_ok-add_type-in-Array.ensures c.in_ok-add_type-in-Array-2.ensures)

pub add_type-returns-in-Named : goal.add_type-returns-in-Named
add_type-returns-in-Named t c = gains_plain _ _ _ c.in-Named.is (enums_named _ _) (modules_named _ _)

pub add_type-returns-in_ok-push-in-OfModule : goal.add_type-returns-in_ok-push-in-OfModule
add_type-returns-in_ok-push-in-OfModule t c =
    gains_type _ _ _ _ _ _ c.in-OfModule.is (enums_of_module _ _ _) (modules_of_module _ _ _) (sym (append_nil c.args.found.now.enums)) c.in_ok-push-in-OfModule.ensures.ok
