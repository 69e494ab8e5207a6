-- Each of these forms takes some words.
use Rattle.std.proofs.Common.{ℕ, refl}
use Rattle.uc_forms.proofs.Advances.{Advances}
use Rattle.uc_grammar.specs.Syntax.{words, statement, if_statement, case_statement, for_statement, call_statement, target, target_part, expression, equivalence, implication, disjunction, conjunction, compared, bit_or, bit_xor, bit_and, concatenated, summed, product, unary, primary}
use Rattle.uc_parser.specs.ParseStatementsParts.{else_branch, case_arm}
use Rattle.uc_parse_expressions.specs.Reading.{form}
use Rattle.uc_parse_expressions.proofs.Here.{takes}

pub statement_takes : (levels : ℕ) → Advances words (form levels statement)
unfolding statement if_statement case_statement for_statement call_statement target
statement_takes levels = takes levels statement refl

pub branch_takes : (levels : ℕ) → Advances words (form levels else_branch)
branch_takes levels = takes levels else_branch refl

pub case_arm_takes : (levels : ℕ) → Advances words (form levels case_arm)
unfolding expression equivalence implication disjunction conjunction compared bit_or bit_xor bit_and concatenated summed product unary primary
case_arm_takes levels = takes levels case_arm refl

pub part_takes : (levels : ℕ) → Advances words (form levels target_part)
unfolding target_part
part_takes levels = takes levels target_part refl
