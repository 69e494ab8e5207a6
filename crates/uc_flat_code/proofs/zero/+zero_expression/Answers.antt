use Rattle.std.proofs.Common.{◌∙◌, ap, map}
use Rattle.uc_values.specs.declared.ty.Field.{Field}
use Rattle.uc_values.specs.declared.ty.Ty.{Ty}
use Rattle.uc_flat_code.specs.Zero.{zero_of}
use Rattle.uc_flat_code.proofs.Zeros.{bits_zero, enum_zero, open_zero, record_zero, array_zero}
use Rattle.uc_flat_code.proofs.zero.+zero_expression.Goals as goal

pub zero_expression-returns-in-Bv : goal.zero_expression-returns-in-Bv
zero_expression-returns-in-Bv t c = bits_zero _ _ _ c.in-Bv.is c.constant_zero-in-Bv.ensures

pub zero_expression-returns-in-Enum : goal.zero_expression-returns-in-Enum
zero_expression-returns-in-Enum t c = enum_zero _ _ _ _ c.in-Enum.is c.constant_zero-in-Enum.ensures

pub zero_expression-returns-in-Un : goal.zero_expression-returns-in-Un
zero_expression-returns-in-Un t c = open_zero _ _ _ c.in-Un.is c.constant_zero-in-Un.ensures

pub zero_expression-returns-in-Arr : goal.zero_expression-returns-in-Arr
zero_expression-returns-in-Arr t c = array_zero _ _ _ _ c.in-Arr.is c.constant_zero-in-Arr.ensures

pub zero_expression-returns-in_ok-parts-in-Rec : goal.zero_expression-returns-in_ok-parts-in-Rec
zero_expression-returns-in_ok-parts-in-Rec t c =
    record_zero _ c.in-Rec.fields _ _ c.in-Rec.is (c.in_ok-parts-in-Rec.ensures ∙ ap (map (λ (f : Field Ty). zero_of f.ty)) c.as_slice.ensures) c.record_of.ensures
