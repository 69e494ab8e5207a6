use Rattle.std.proofs.Common.{ap, sym, ◌∙◌}
use Rattle.uc_rules.specs.Types.{type_found}
use Rattle.uc_declaration_rules.proofs.Places.{place_array, place_bits, place_boolean, place_enumeration, place_integer, place_named, place_of_module, place_record}
use Rattle.uc_declaration_rules.proofs.functions.place_of.Goals as goal

pub returns-in-Boolean : goal.returns-in-Boolean
returns-in-Boolean c s m = place_boolean s m c.in-Boolean.place ∙ ap (λ t. (type_found s m t).place) (sym c.in-Boolean.is)

pub returns-in-Integer : goal.returns-in-Integer
returns-in-Integer c s m = place_integer s m c.in-Integer.place ∙ ap (λ t. (type_found s m t).place) (sym c.in-Integer.is)

pub returns-in-Bits : goal.returns-in-Bits
returns-in-Bits c s m = place_bits s m c.in-Bits.place c.in-Bits.field-1 ∙ ap (λ t. (type_found s m t).place) (sym c.in-Bits.is)

pub returns-in-Enumeration : goal.returns-in-Enumeration
returns-in-Enumeration c s m = place_enumeration s m c.in-Enumeration.place c.in-Enumeration.field-1 ∙ ap (λ t. (type_found s m t).place) (sym c.in-Enumeration.is)

pub returns-in-Record : goal.returns-in-Record
returns-in-Record c s m = place_record s m c.in-Record.place c.in-Record.field-1 ∙ ap (λ t. (type_found s m t).place) (sym c.in-Record.is)

pub returns-in-Array : goal.returns-in-Array
returns-in-Array c s m = place_array s m c.in-Array.place c.in-Array.field-1 c.in-Array.field-2 ∙ ap (λ t. (type_found s m t).place) (sym c.in-Array.is)

pub returns-in-Named : goal.returns-in-Named
returns-in-Named c s m = place_named s m c.in-Named.place c.in-Named.field-1 ∙ ap (λ t. (type_found s m t).place) (sym c.in-Named.is)

pub returns-in-OfModule : goal.returns-in-OfModule
returns-in-OfModule c s m = place_of_module s m c.in-OfModule.place c.in-OfModule.field-1 c.in-OfModule.field-2 ∙ ap (λ t. (type_found s m t).place) (sym c.in-OfModule.is)
