use Rattle.std.proofs.Common.{◌++◌, ◌∙◌, sym}
use Rattle.uc_syntax.specs.Labels.{type_labels}
use Rattle.uc_syntax.proofs.Added.{adds_nothing, adds_two}
use Rattle.uc_syntax.proofs.Labels.{labels_boolean, labels_integer, labels_bits, labels_array, labels_named, labels_of_module}
use Rattle.uc_syntax.proofs.written_enums.+add_types.Goals as goal

pub add_type-returns-in-Boolean : goal.add_type-returns-in-Boolean
add_type-returns-in-Boolean t c = adds_nothing type_labels _ _ _ c.in-Boolean.is (labels_boolean _)

pub add_type-returns-in-Integer : goal.add_type-returns-in-Integer
add_type-returns-in-Integer t c = adds_nothing type_labels _ _ _ c.in-Integer.is (labels_integer _)

pub add_type-returns-in-Bits : goal.add_type-returns-in-Bits
add_type-returns-in-Bits t c = adds_nothing type_labels _ _ _ c.in-Bits.is (labels_bits _ _)

pub add_type-returns-in_ok-add_type-in-Array-2 : goal.add_type-returns-in_ok-add_type-in-Array-2
add_type-returns-in_ok-add_type-in-Array-2 t c =
    adds_two type_labels _ _ _ c.in-Array.is _ _ _ _
    (labels_array _ _ _ ∙ (λ k. type_labels (sym c.get.ensures k) ++ type_labels (sym c.get-in-Array.ensures k)))
    c.in_ok-add_type-in-Array.ensures c.in_ok-add_type-in-Array-2.ensures

pub add_type-returns-in-Named : goal.add_type-returns-in-Named
add_type-returns-in-Named t c = adds_nothing type_labels _ _ _ c.in-Named.is (labels_named _ _)

pub add_type-returns-in-OfModule : goal.add_type-returns-in-OfModule
add_type-returns-in-OfModule t c = adds_nothing type_labels _ _ _ c.in-OfModule.is (labels_of_module _ _ _)
