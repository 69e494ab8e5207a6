use Rattle.std.proofs.Common.{◌≡◌, ◌∷◌, [], length}
use Rattle.uc_forms.specs.Counted.{turns, with_front}
use Rattle.uc_grammar.specs.Code.{code_of}
use Rattle.uc_grammar.specs.declared.word.Kind.TheVariants.{KwModule}
use Rattle.uc_grammar.specs.Syntax.{words, module_form}
use Rattle.uc_parse_expressions.specs.Reading.{state, form}
use Rattle.uc_parser.proofs.module.modules.Given as goal

abbrev pub invariant-turns : goal.invariant-turns
invariant-turns l = with_front l.found (turns words (code_of KwModule ∷ []) (form l.levels module_form) (state l.reader)) ≡ turns words (code_of KwModule ∷ []) (form l.levels module_form) (state l.fn.reader)

abbrev pub decreases-turns : goal.decreases-turns
decreases-turns l = length l.reader.rest.now
