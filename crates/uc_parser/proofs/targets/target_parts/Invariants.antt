use Rattle.std.proofs.Common.{◌≡◌, ◌∷◌, [], length}
use Rattle.uc_forms.specs.Counted.{turns, with_front}
use Rattle.uc_grammar.specs.Code.{code_of}
use Rattle.uc_grammar.specs.declared.word.Kind.TheVariants.{Dot, LeftBracket}
use Rattle.uc_grammar.specs.Syntax.{words, target_part}
use Rattle.uc_parse_expressions.specs.Reading.{state, form}
use Rattle.uc_parser.proofs.targets.target_parts.Given as goal

abbrev pub invariant-turns : goal.invariant-turns
invariant-turns l = with_front l.found (turns words (code_of Dot ∷ code_of LeftBracket ∷ []) (form l.levels target_part) (state l.reader)) ≡ turns words (code_of Dot ∷ code_of LeftBracket ∷ []) (form l.levels target_part) (state l.fn.reader)

abbrev pub decreases-turns : goal.decreases-turns
decreases-turns l = length l.reader.rest.now
