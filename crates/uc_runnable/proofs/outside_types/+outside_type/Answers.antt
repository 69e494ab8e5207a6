use Rattle.uc_runnable.proofs.OutsideTypeForms.{outside_array, outside_bits, outside_boolean, outside_enum, outside_integer, outside_named, outside_of_module, outside_record}
use Rattle.uc_runnable.proofs.outside_types.+outside_type.Goals as goal

pub outside_type-returns-in-Boolean : goal.outside_type-returns-in-Boolean
outside_type-returns-in-Boolean t c = outside_boolean _ _ c.in-Boolean.is

pub outside_type-returns-in-Integer : goal.outside_type-returns-in-Integer
outside_type-returns-in-Integer t c = outside_integer _ _ c.in-Integer.is

pub outside_type-returns-in-Bits : goal.outside_type-returns-in-Bits
outside_type-returns-in-Bits t c = outside_bits _ _ _ c.in-Bits.is

pub outside_type-returns-in-Enumeration : goal.outside_type-returns-in-Enumeration
outside_type-returns-in-Enumeration t c = outside_enum _ _ _ c.in-Enumeration.is

pub outside_type-returns-in-Array : goal.outside_type-returns-in-Array
outside_type-returns-in-Array t c = outside_array _ _ _ _ c.in-Array.is

pub outside_type-returns-in-Named : goal.outside_type-returns-in-Named
outside_type-returns-in-Named t c = outside_named _ _ _ c.in-Named.is

pub outside_type-returns-in-OfModule : goal.outside_type-returns-in-OfModule
outside_type-returns-in-OfModule t c = outside_of_module _ _ _ _ c.in-OfModule.is

pub outside_type-returns-in-Record : goal.outside_type-returns-in-Record
outside_type-returns-in-Record t c = outside_record _ _ _ _ _ c.in-Record.is c.as_slice.ensures c.outside_fields.ensures
