use Rattle.std.proofs.Common.{◌≡◌, ◌∷◌, [], ◌+◌, ◌*◌, length}
use Rattle.uc_forms.specs.Form.{after}
use Rattle.uc_forms.specs.Counted.{turns, with_front}
use Rattle.uc_grammar.specs.Code.{code_of}
use Rattle.uc_grammar.specs.declared.word.Kind.TheVariants.{Comma}
use Rattle.uc_grammar.specs.Syntax.{words, parameter}
use Rattle.uc_parse_expressions.specs.Reading.{state, form}
use Rattle.uc_parse_expressions.proofs.types.+types.Given as goal

-- With one level the functions call each other from the highest rank down.
abbrev pub decreases-parameters : goal.decreases-parameters
decreases-parameters l = 6 * l.levels + 5

abbrev pub decreases-more_parameters : goal.decreases-more_parameters
decreases-more_parameters l = 6 * l.levels + 4

abbrev pub decreases-parameter : goal.decreases-parameter
decreases-parameter l = 6 * l.levels + 3

abbrev pub decreases-ty : goal.decreases-ty
decreases-ty l = 6 * l.levels + 2

abbrev pub decreases-braced : goal.decreases-braced
decreases-braced l = 6 * l.levels + 1

abbrev pub decreases-record_braces : goal.decreases-record_braces
decreases-record_braces l = 6 * l.levels + 0

abbrev pub decreases-array : goal.decreases-array
decreases-array l = 6 * l.levels + 0

abbrev pub invariant-more_parameters-turns : goal.invariant-more_parameters-turns
invariant-more_parameters-turns l = with_front l.found (turns words (code_of Comma ∷ []) (form l.levels (after Comma parameter)) (state l.reader)) ≡ with_front l.fn.found (turns words (code_of Comma ∷ []) (form l.levels (after Comma parameter)) (state l.fn.reader))

abbrev pub decreases-more_parameters-turns : goal.decreases-more_parameters-turns
decreases-more_parameters-turns l = length l.reader.rest.now
