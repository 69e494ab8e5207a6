use Rattle.std.proofs.Common.{◌≡◌, ◌≤◌, ◌∷◌, [], ◌+◌, ◌-◌, ◌*◌, Ok, length}
use Rattle.uc_forms.specs.Counted.{turned, turns, with_front}
use Rattle.uc_forms.specs.Form.{after, both, word, one_of}
use Rattle.uc_grammar.specs.Code.{code_of}
use Rattle.uc_grammar.specs.declared.word.Word.{Word}
use Rattle.uc_grammar.specs.declared.word.Kind.TheVariants.{Comma, Dot, LeftBracket, KwIf, Plus}
use Rattle.uc_grammar.specs.Syntax.{words, expr, selection, branch, product, sum_sign}
use Rattle.uc_parse_expressions.specs.Chains.{form_of, operand_form, sign_of, gathered}
use Rattle.uc_parse_expressions.specs.Signs.{minus, sum_codes}
use Rattle.uc_parse_expressions.specs.Levels.{height, level_here}
use Rattle.uc_parse_expressions.specs.declared.level.Level.TheVariants as level_kinds
use Rattle.uc_parse_expressions.specs.Reading.{state, form}
use Rattle.uc_parse_expressions.proofs.parser.+expressions.Given as goal

-- With one level the functions call each other from the highest rank down.
abbrev pub decreases-parens : goal.decreases-parens
decreases-parens l = 64 * l.levels + 0

abbrev pub decreases-arguments : goal.decreases-arguments
decreases-arguments l = 64 * l.levels + 0

abbrev pub decreases-brackets : goal.decreases-brackets
decreases-brackets l = 64 * l.levels + 0

abbrev pub decreases-new_value : goal.decreases-new_value
decreases-new_value l = 64 * l.levels + 57

abbrev pub decreases-element : goal.decreases-element
decreases-element l = 64 * l.levels + 58

abbrev pub decreases-sign_operand : goal.decreases-sign_operand
decreases-sign_operand l = 64 * l.levels + 0

abbrev pub decreases-if_expression : goal.decreases-if_expression
decreases-if_expression l = 64 * l.levels + 0

abbrev pub decreases-named : goal.decreases-named
decreases-named l = 64 * l.levels + 1

abbrev pub decreases-primary : goal.decreases-primary
decreases-primary l = 64 * l.levels + 2

abbrev pub decreases-selection : goal.decreases-selection
decreases-selection l = 64 * l.levels + 1

abbrev pub decreases-selections : goal.decreases-selections
decreases-selections l = 64 * l.levels + 2

abbrev pub decreases-selected : goal.decreases-selected
decreases-selected l = 64 * l.levels + 3

abbrev pub decreases-unary : goal.decreases-unary
decreases-unary l = 64 * l.levels + 4

abbrev pub decreases-level : goal.decreases-level
decreases-level l = 64 * l.levels + 4 * height l.top + 9

abbrev pub decreases-rest : goal.decreases-rest
decreases-rest l = 64 * l.levels + 4 * height l.level + 8

abbrev pub decreases-chain : goal.decreases-chain
decreases-chain l = 64 * l.levels + 4 * height (level_kinds.Chain l.level) + 7

abbrev pub decreases-more_operands : goal.decreases-more_operands
decreases-more_operands l = 64 * l.levels + 4 * height (level_kinds.Chain l.chain) + 6

abbrev pub decreases-sum : goal.decreases-sum
decreases-sum l = 64 * l.levels + 4 * height level_kinds.Sum + 7

abbrev pub decreases-more_terms : goal.decreases-more_terms
decreases-more_terms l = 64 * l.levels + 4 * height level_kinds.Sum + 6

abbrev pub decreases-comparison : goal.decreases-comparison
decreases-comparison l = 64 * l.levels + 4 * height level_kinds.Comparison + 7

abbrev pub decreases-expression : goal.decreases-expression
decreases-expression l = 64 * l.levels + 54

abbrev pub decreases-expr : goal.decreases-expr
decreases-expr l = 64 * l.levels + 55

abbrev pub decreases-expr_before : goal.decreases-expr_before
decreases-expr_before l = 64 * l.levels + 56

abbrev pub decreases-more_expressions : goal.decreases-more_expressions
decreases-more_expressions l = 64 * l.levels + 56

abbrev pub decreases-expressions : goal.decreases-expressions
decreases-expressions l = 64 * l.levels + 57

abbrev pub decreases-if_branch : goal.decreases-if_branch
decreases-if_branch l = 64 * l.levels + 57

abbrev pub decreases-more_branches : goal.decreases-more_branches
decreases-more_branches l = 64 * l.levels + 58

-- ---- loops

abbrev pub invariant-more_expressions-turns : goal.invariant-more_expressions-turns
invariant-more_expressions-turns l = with_front l.found (turns words (code_of Comma ∷ []) (form l.levels (after Comma expr)) (state l.reader)) ≡ with_front l.fn.found (turns words (code_of Comma ∷ []) (form l.levels (after Comma expr)) (state l.fn.reader))

abbrev pub decreases-more_expressions-turns : goal.decreases-more_expressions-turns
decreases-more_expressions-turns l = length l.reader.rest.now

abbrev pub invariant-selections-turns : goal.invariant-selections-turns
invariant-selections-turns l = with_front l.found (turns words (code_of Dot ∷ code_of LeftBracket ∷ []) (form l.levels selection) (state l.reader)) ≡ turns words (code_of Dot ∷ code_of LeftBracket ∷ []) (form l.levels selection) (state l.fn.reader)

abbrev pub decreases-selections-turns : goal.decreases-selections-turns
decreases-selections-turns l = length l.reader.rest.now

abbrev pub invariant-more_branches-turns : goal.invariant-more_branches-turns
invariant-more_branches-turns l = with_front l.found (turns words (code_of KwIf ∷ []) (form l.levels branch) (state l.reader)) ≡ with_front l.fn.found (turns words (code_of KwIf ∷ []) (form l.levels branch) (state l.fn.reader))

abbrev pub decreases-more_branches-turns : goal.decreases-more_branches-turns
decreases-more_branches-turns l = length l.reader.rest.now

abbrev pub invariant-level-turns : goal.invariant-level-turns
invariant-level-turns l = record {
  read : form l.levels (form_of l.reached) (state l.fn.reader) ≡ Ok (l.found, state l.reader);
  next : l.next ≡ level_here l.reader.rest.now;
  within : height l.reached ≤ height l.top;
}

abbrev pub decreases-level-turns : goal.decreases-level-turns
decreases-level-turns l = height l.top - height l.reached

abbrev pub invariant-more_operands-turns : goal.invariant-more_operands-turns
invariant-more_operands-turns l =
    turned (gathered (λ (w : Word). w.place) l.operands l.places) (turns words (code_of (sign_of l.chain) ∷ []) (form l.levels (both (word (sign_of l.chain)) (operand_form l.chain))) (state l.reader))
    ≡ turned (gathered (λ (w : Word). w.place) l.fn.operands l.fn.places) (turns words (code_of (sign_of l.chain) ∷ []) (form l.levels (both (word (sign_of l.chain)) (operand_form l.chain))) (state l.fn.reader))

abbrev pub decreases-more_operands-turns : goal.decreases-more_operands-turns
decreases-more_operands-turns l = length l.reader.rest.now

abbrev pub invariant-more_terms-turns : goal.invariant-more_terms-turns
invariant-more_terms-turns l =
    turned (gathered sum_sign l.terms l.signs) (turns words sum_codes (form l.levels (both (one_of Plus minus) product)) (state l.reader))
    ≡ turned (gathered sum_sign l.fn.terms l.fn.signs) (turns words sum_codes (form l.levels (both (one_of Plus minus) product)) (state l.fn.reader))

abbrev pub decreases-more_terms-turns : goal.decreases-more_terms-turns
decreases-more_terms-turns l = length l.reader.rest.now
