use Rattle.std.proofs.Common.{◌^◌, sym, ◌∙◌, arith}
use Rattle.uc_lexer.specs.Bytes.{is_digit}
use Rattle.uc_lexer.proofs.Numbers.{AreAll-at, too_large, all_digits}
use Rattle.uc_lexer.proofs.number.value.Goals as goal

pub with_digit-requires : goal.with_digit-requires
with_digit-requires c = AreAll-at is_digit c.args.digits.now c.loop-digit.digit-index 0 c.requires (omega arith)

pub returns-in_err-value : goal.returns-in_err-value
returns-in_err-value c = c.from_residual.ensures ∙ sym (too_large (2 ^ 128) c.loop-digit.value c.loop-digit.digit-index c.args.digits.now (omega arith) (sym (c.in_err-value.ensures)) c.loop-digit.invariant.1)

pub returns : goal.returns
returns c = all_digits (2 ^ 128) c.loop-digit.value c.loop-digit.digit-index c.args.digits.now (omega arith) c.loop-digit.invariant.0 c.loop-digit.invariant.1
