use Rattle.std.proofs.Common.{◌++◌, ◌∙◌, sym, ap}
use Rattle.std.specs.List.{flat_map}
use Rattle.uc_rules.specs.Names.{labels_brought, labels_from, labels_in}
use Rattle.uc_syntax.proofs.Added.{adds_nothing, adds_one, adds_two}
use Rattle.uc_names.proofs.Forms.{labels_boolean, labels_integer, labels_bits, labels_enumeration, labels_record, labels_array, labels_named, labels_of_other}
use Rattle.uc_names.proofs.labels.+add_type_labels.Goals as goal

pub add_type_labels-returns-in-Boolean : goal.add_type_labels-returns-in-Boolean
add_type_labels-returns-in-Boolean t c = adds_nothing (labels_in c.args.design.now) _ _ _ c.in-Boolean.is (labels_boolean c.args.design.now _)

pub add_type_labels-returns-in-Integer : goal.add_type_labels-returns-in-Integer
add_type_labels-returns-in-Integer t c = adds_nothing (labels_in c.args.design.now) _ _ _ c.in-Integer.is (labels_integer c.args.design.now _)

pub add_type_labels-returns-in-Bits : goal.add_type_labels-returns-in-Bits
add_type_labels-returns-in-Bits t c = adds_nothing (labels_in c.args.design.now) _ _ _ c.in-Bits.is (labels_bits c.args.design.now _ _)

pub add_type_labels-returns-in_ok-add_labels-in-Enumeration : goal.add_type_labels-returns-in_ok-add_labels-in-Enumeration
add_type_labels-returns-in_ok-add_labels-in-Enumeration t c =
    adds_one (labels_in c.args.design.now) _ _ _ c.in-Enumeration.is _ _
    (labels_enumeration c.args.design.now c.in-Enumeration.place c.in-Enumeration.labels ∙ (λ k. labels_from (sym c.enum_number-number.ensures k) 0 (sym c.as_slice-labels.ensures k)))
    (c.in_ok-add_labels-in-Enumeration.ensures c.args.design.now.modules)

pub add_type_labels-returns-in_ok-add_field_labels-in-Record : goal.add_type_labels-returns-in_ok-add_field_labels-in-Record
add_type_labels-returns-in_ok-add_field_labels-in-Record t c =
    adds_one (labels_in c.args.design.now) _ _ _ c.in-Record.is _ _
    (labels_record c.args.design.now _ _ ∙ ap (flat_map (λ p. labels_in c.args.design.now p.ty)) (sym c.as_slice.ensures)) c.in_ok-add_field_labels-in-Record.ensures

pub add_type_labels-returns-in_ok-add_type_labels-in-Array-2 : goal.add_type_labels-returns-in_ok-add_type_labels-in-Array-2
add_type_labels-returns-in_ok-add_type_labels-in-Array-2 t c =
    adds_two (labels_in c.args.design.now) _ _ _ c.in-Array.is _ _ _ _
    (labels_array c.args.design.now _ _ _ ∙ (λ k. labels_in c.args.design.now (sym c.get.ensures k) ++ labels_in c.args.design.now (sym c.get-in-Array.ensures k)))
    c.in_ok-add_type_labels-in-Array.ensures c.in_ok-add_type_labels-in-Array-2.ensures

pub add_type_labels-returns-in-Named : goal.add_type_labels-returns-in-Named
add_type_labels-returns-in-Named t c = adds_nothing (labels_in c.args.design.now) _ _ _ c.in-Named.is (labels_named c.args.design.now _ _)

pub add_type_labels-returns-in_ok-add_brought-in-OfModule : goal.add_type_labels-returns-in_ok-add_brought-in-OfModule
add_type_labels-returns-in_ok-add_brought-in-OfModule t c =
    adds_one (labels_in c.args.design.now) _ _ _ c.in-OfModule.is _ _
    (labels_of_other c.args.design.now c.in-OfModule.place c.in-OfModule.owner _ ∙ ap (labels_brought c.args.design.now c.in-OfModule.place) (sym c.module_named-number.ensures))
    c.in_ok-add_brought-in-OfModule.ensures
