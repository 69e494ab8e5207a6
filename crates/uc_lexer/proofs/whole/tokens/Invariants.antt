use Rattle.std.proofs.Common.{◌-◌, length}
use Rattle.uc_lexer.proofs.Turns.{SoFar}
use Rattle.uc_lexer.proofs.whole.tokens.Given as goal

abbrev pub invariant-turns : goal.invariant-turns
invariant-turns l = SoFar l.fn.file l.fn.text l.lexer l.found.items

abbrev pub decreases-turns : goal.decreases-turns
decreases-turns l = length l.fn.text - l.lexer.offset
