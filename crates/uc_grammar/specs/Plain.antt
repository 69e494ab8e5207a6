-- One word of lookahead is enough for the whole grammar, and two at a label and at a part of bits.
use Rattle.std.specs.Prelude.{◌≡◌, true, refl}
use Rattle.uc_forms.specs.Plain.{is_plain, IsPlain}
use Rattle.uc_grammar.specs.Syntax.{enum_braces, record_braces, array, arguments, in_name, parens, brackets, sign_operand, if_expression, target_index, block, typed_name, range_bounds, negative_bound, call_targets, in_number, maybe_number, paths, control_braces, params, results, binds, bind_value, hyper_number, module_braces, rule, opens, goes, ty, primary, selection, unary, product, summed, concatenated, bit_and, bit_xor, bit_or, compared, conjunction, disjunction, implication, equivalence, expression, branch, target_part, target, bound, if_statement, case_statement, for_statement, call_statement, statement, run, counterexample, command, clause, type_declaration, procedure, declaration, module_form, text}

pub text_is_plain : is_plain opens goes text ≡ true
unfolding ty primary selection unary product summed concatenated bit_and bit_xor bit_or compared conjunction disjunction implication equivalence expression branch target_part target bound if_statement case_statement for_statement call_statement statement run counterexample command clause type_declaration procedure declaration module_form text
text_is_plain = refl

pub rules_are_plain : IsPlain rule opens goes
unfolding ty primary selection unary product summed concatenated bit_and bit_xor bit_or compared conjunction disjunction implication equivalence expression branch target_part target bound if_statement case_statement for_statement call_statement statement run counterexample command clause type_declaration procedure declaration module_form text
rules_are_plain = record {
  plain = elim [ enum_braces ↦ refl | record_braces ↦ refl | array ↦ refl | arguments ↦ refl | in_name ↦ refl | parens ↦ refl | brackets ↦ refl | sign_operand ↦ refl | if_expression ↦ refl | target_index ↦ refl | block ↦ refl | typed_name ↦ refl | range_bounds ↦ refl | negative_bound ↦ refl | call_targets ↦ refl | in_number ↦ refl | maybe_number ↦ refl | paths ↦ refl | control_braces ↦ refl | params ↦ refl | results ↦ refl | binds ↦ refl | bind_value ↦ refl | hyper_number ↦ refl | module_braces ↦ refl ];
  first_is = elim [ enum_braces ↦ refl | record_braces ↦ refl | array ↦ refl | arguments ↦ refl | in_name ↦ refl | parens ↦ refl | brackets ↦ refl | sign_operand ↦ refl | if_expression ↦ refl | target_index ↦ refl | block ↦ refl | typed_name ↦ refl | range_bounds ↦ refl | negative_bound ↦ refl | call_targets ↦ refl | in_number ↦ refl | maybe_number ↦ refl | paths ↦ refl | control_braces ↦ refl | params ↦ refl | results ↦ refl | binds ↦ refl | bind_value ↦ refl | hyper_number ↦ refl | module_braces ↦ refl ];
  has_words = elim [ enum_braces ↦ refl | record_braces ↦ refl | array ↦ refl | arguments ↦ refl | in_name ↦ refl | parens ↦ refl | brackets ↦ refl | sign_operand ↦ refl | if_expression ↦ refl | target_index ↦ refl | block ↦ refl | typed_name ↦ refl | range_bounds ↦ refl | negative_bound ↦ refl | call_targets ↦ refl | in_number ↦ refl | maybe_number ↦ refl | paths ↦ refl | control_braces ↦ refl | params ↦ refl | results ↦ refl | binds ↦ refl | bind_value ↦ refl | hyper_number ↦ refl | module_braces ↦ refl ];
  stays = elim [ enum_braces ↦ refl | record_braces ↦ refl | array ↦ refl | arguments ↦ refl | in_name ↦ refl | parens ↦ refl | brackets ↦ refl | sign_operand ↦ refl | if_expression ↦ refl | target_index ↦ refl | block ↦ refl | typed_name ↦ refl | range_bounds ↦ refl | negative_bound ↦ refl | call_targets ↦ refl | in_number ↦ refl | maybe_number ↦ refl | paths ↦ refl | control_braces ↦ refl | params ↦ refl | results ↦ refl | binds ↦ refl | bind_value ↦ refl | hyper_number ↦ refl | module_braces ↦ refl ];
  ready = elim [ enum_braces ↦ refl | record_braces ↦ refl | array ↦ refl | arguments ↦ refl | in_name ↦ refl | parens ↦ refl | brackets ↦ refl | sign_operand ↦ refl | if_expression ↦ refl | target_index ↦ refl | block ↦ refl | typed_name ↦ refl | range_bounds ↦ refl | negative_bound ↦ refl | call_targets ↦ refl | in_number ↦ refl | maybe_number ↦ refl | paths ↦ refl | control_braces ↦ refl | params ↦ refl | results ↦ refl | binds ↦ refl | bind_value ↦ refl | hyper_number ↦ refl | module_braces ↦ refl ];
  direct = elim [ enum_braces ↦ refl | record_braces ↦ refl | array ↦ refl | arguments ↦ refl | in_name ↦ refl | parens ↦ refl | brackets ↦ refl | sign_operand ↦ refl | if_expression ↦ refl | target_index ↦ refl | block ↦ refl | typed_name ↦ refl | range_bounds ↦ refl | negative_bound ↦ refl | call_targets ↦ refl | in_number ↦ refl | maybe_number ↦ refl | paths ↦ refl | control_braces ↦ refl | params ↦ refl | results ↦ refl | binds ↦ refl | bind_value ↦ refl | hyper_number ↦ refl | module_braces ↦ refl ];
}
