use Rattle.std.proofs.Common.{◌≡◌, ◌<◌, ◌^◌, fold, drop}
use Rattle.uc_lexer.specs.Bytes.{with_digit, value_of}
use Rattle.uc_lexer.proofs.number.value.Given as goal

abbrev pub invariant-loop-digit : goal.invariant-loop-digit
invariant-loop-digit l = (l.value < 2 ^ 128) × (fold with_digit l.value (drop l.digit-index l.digits) ≡ value_of l.digits)
