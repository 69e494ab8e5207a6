use Rattle.std.proofs.Common.{◌≡◌, ◌∷◌, [], ◌+◌, ◌*◌, length}
use Rattle.uc_forms.specs.Counted.{endings, links, with_head, count_word}
use Rattle.uc_grammar.specs.Code.{code_of}
use Rattle.uc_grammar.specs.declared.word.Kind.TheVariants.{RightBrace, KwElse, KwDefault, KwEsac}
use Rattle.uc_grammar.specs.Syntax.{words, statement}
use Rattle.uc_parse_expressions.specs.Reading.{state, form}
use Rattle.uc_parser.specs.ParseStatementsParts.{else_branch, case_arm, case_end}
use Rattle.uc_parser.proofs.blocks.+statements.Given as goal

-- With one level the functions call each other from the highest rank down.
abbrev pub decreases-up_to_brace : goal.decreases-up_to_brace
decreases-up_to_brace l = 16 * l.levels + 11

abbrev pub decreases-statement : goal.decreases-statement
decreases-statement l = 16 * l.levels + 10

abbrev pub decreases-conditions : goal.decreases-conditions
decreases-conditions l = 16 * l.levels + 9

abbrev pub decreases-branching : goal.decreases-branching
decreases-branching l = 16 * l.levels + 8

abbrev pub decreases-if_statement : goal.decreases-if_statement
decreases-if_statement l = 16 * l.levels + 7

abbrev pub decreases-case_statement : goal.decreases-case_statement
decreases-case_statement l = 16 * l.levels + 7

abbrev pub decreases-else_branches : goal.decreases-else_branches
decreases-else_branches l = 16 * l.levels + 6

abbrev pub decreases-case_arms : goal.decreases-case_arms
decreases-case_arms l = 16 * l.levels + 6

abbrev pub decreases-arm : goal.decreases-arm
decreases-arm l = 16 * l.levels + 5

abbrev pub decreases-case_arm : goal.decreases-case_arm
decreases-case_arm l = 16 * l.levels + 5

abbrev pub decreases-default_arm : goal.decreases-default_arm
decreases-default_arm l = 16 * l.levels + 5

abbrev pub decreases-for_statement : goal.decreases-for_statement
decreases-for_statement l = 16 * l.levels + 4

abbrev pub decreases-loop_body : goal.decreases-loop_body
decreases-loop_body l = 16 * l.levels + 3

abbrev pub decreases-case_body : goal.decreases-case_body
decreases-case_body l = 16 * l.levels + 3

abbrev pub decreases-statements : goal.decreases-statements
decreases-statements l = 16 * l.levels + 2

abbrev pub decreases-nested_block : goal.decreases-nested_block
decreases-nested_block l = 16 * l.levels + 2

abbrev pub decreases-block : goal.decreases-block
decreases-block l = 16 * l.levels + 1

abbrev pub invariant-up_to_brace-turns : goal.invariant-up_to_brace-turns
invariant-up_to_brace-turns l = with_head l.found (endings words (code_of RightBrace ∷ []) (form l.levels statement) (count_word words RightBrace) (state l.reader)) ≡ endings words (code_of RightBrace ∷ []) (form l.levels statement) (count_word words RightBrace) (state l.fn.reader)

abbrev pub decreases-up_to_brace-turns : goal.decreases-up_to_brace-turns
decreases-up_to_brace-turns l = length l.reader.rest.now

abbrev pub invariant-else_branches-turns : goal.invariant-else_branches-turns
invariant-else_branches-turns l = with_head l.found (links words (code_of KwElse ∷ []) (form l.levels else_branch) (state l.reader)) ≡ with_head (l.fn.first ∷ []) (links words (code_of KwElse ∷ []) (form l.levels else_branch) (state l.fn.reader))

abbrev pub decreases-else_branches-turns : goal.decreases-else_branches-turns
decreases-else_branches-turns l = length l.reader.rest.now

abbrev pub invariant-case_arms-turns : goal.invariant-case_arms-turns
invariant-case_arms-turns l = with_head l.found (endings words (code_of KwDefault ∷ code_of KwEsac ∷ []) (form l.levels case_arm) (form l.levels case_end) (state l.reader)) ≡ endings words (code_of KwDefault ∷ code_of KwEsac ∷ []) (form l.levels case_arm) (form l.levels case_end) (state l.fn.reader)

abbrev pub decreases-case_arms-turns : goal.decreases-case_arms-turns
decreases-case_arms-turns l = length l.reader.rest.now
