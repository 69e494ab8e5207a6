use Rattle.std.proofs.Common.{◌≡◌, ◌∷◌, [], length}
use Rattle.uc_forms.specs.Form.{after}
use Rattle.uc_forms.specs.Counted.{turns, with_front}
use Rattle.uc_grammar.specs.Code.{code_of}
use Rattle.uc_grammar.specs.declared.word.Kind.TheVariants.{Comma}
use Rattle.uc_grammar.specs.Syntax.{words, target}
use Rattle.uc_parse_expressions.specs.Reading.{state, form}
use Rattle.uc_parser.proofs.targets.more_targets.Given as goal

abbrev pub invariant-turns : goal.invariant-turns
invariant-turns l = with_front l.found (turns words (code_of Comma ∷ []) (form l.levels (after Comma target)) (state l.reader)) ≡ with_front l.fn.found (turns words (code_of Comma ∷ []) (form l.levels (after Comma target)) (state l.fn.reader))

abbrev pub decreases-turns : goal.decreases-turns
decreases-turns l = length l.reader.rest.now
