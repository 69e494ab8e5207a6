use Rattle.std.proofs.Common.{◌≡◌, ◌∷◌, [], length}
use Rattle.uc_forms.specs.Counted.{endings, with_head, count_word}
use Rattle.uc_grammar.specs.Code.{code_of}
use Rattle.uc_grammar.specs.declared.word.Kind.TheVariants.{RightBrace}
use Rattle.uc_grammar.specs.Syntax.{words, command}
use Rattle.uc_parse_expressions.specs.Reading.{state, form}
use Rattle.uc_parser.proofs.command.commands.Given as goal

abbrev pub invariant-turns : goal.invariant-turns
invariant-turns l = with_head l.found (endings words (code_of RightBrace ∷ []) (form l.levels command) (count_word words RightBrace) (state l.reader)) ≡ endings words (code_of RightBrace ∷ []) (form l.levels command) (count_word words RightBrace) (state l.fn.reader)

abbrev pub decreases-turns : goal.decreases-turns
decreases-turns l = length l.reader.rest.now
