-- Every nested form, and texts.
use Rattle.std.proofs.Common.{inl, inr, ℕ, zero, suc, List, [], ◌∷◌}
use Rattle.uc_forms.specs.Spelling.{SpellAt, Spells}
use Rattle.uc_grammar.specs.declared.word.Word.{Word}
use Rattle.uc_grammar.specs.Language.{grammar}
use Rattle.uc_grammar.specs.Syntax.{rule, Nested, Value, enum_braces, record_braces, array, arguments, in_name, parens, brackets, sign_operand, if_expression, target_index, block, typed_name, range_bounds, negative_bound, call_targets, in_number, maybe_number, paths, control_braces, params, results, binds, bind_value, hyper_number, module_braces}
use Rattle.uc_syntax.specs.declared.declaration.Module.{Module}
use Rattle.uc_print_laws.specs.Piece.{Piece}
use Rattle.uc_print_laws.specs.Declarations.{modules_words}
use Rattle.uc_print_laws.specs.Kept.{IsAmong}
use Rattle.uc_print_laws.specs.ShapedLaw.{IsKept}
use Rattle.uc_print_laws.proofs.ShapedSteps.{Allows, Deeper, Keeps}
use Rattle.uc_print_laws.proofs.Nest.{Nest, Deep}
use Rattle.uc_print_laws.proofs.ShapedTypes.{r_enum_braces, r_record_braces, r_array}
use Rattle.uc_print_laws.proofs.Expressions.{r_if_expression, r_sign_operand, r_parens, r_arguments, r_in_name, r_bind_value, r_brackets}
use Rattle.uc_print_laws.proofs.Statements.{r_block, r_target_index, r_typed_name, r_range_bounds, r_negative_bound, r_call_targets}
use Rattle.uc_print_laws.proofs.Declarations.{k_text, r_in_number, r_maybe_number, r_paths, r_control_braces, r_params, r_results, r_binds, r_hyper_number, r_module_braces}

rule_keeps : (P : Piece → Type 0) (m : ℕ) (L : Deeper) → Deep P m L → (n : Nested) → Keeps P L (rule n) (Nest P (suc m) n)
rule_keeps P m L d enum_braces = r_enum_braces P m L
rule_keeps P m L d record_braces = r_record_braces P m L d
rule_keeps P m L d array = r_array P m L d
rule_keeps P m L d arguments = r_arguments P m L d
rule_keeps P m L d in_name = r_in_name P m L
rule_keeps P m L d parens = r_parens P m L d
rule_keeps P m L d brackets = r_brackets P m L d
rule_keeps P m L d sign_operand = r_sign_operand P m L d
rule_keeps P m L d if_expression = r_if_expression P m L d
rule_keeps P m L d target_index = r_target_index P m L d
rule_keeps P m L d block = r_block P m L d
rule_keeps P m L d typed_name = r_typed_name P m L d
rule_keeps P m L d range_bounds = r_range_bounds P m L d
rule_keeps P m L d negative_bound = r_negative_bound P m L
rule_keeps P m L d call_targets = r_call_targets P m L d
rule_keeps P m L d in_number = r_in_number P m L
rule_keeps P m L d maybe_number = r_maybe_number P m L
rule_keeps P m L d paths = r_paths P m L
rule_keeps P m L d control_braces = r_control_braces P m L d
rule_keeps P m L d params = r_params P m L d
rule_keeps P m L d results = r_results P m L d
rule_keeps P m L d binds = r_binds P m L d
rule_keeps P m L d bind_value = r_bind_value P m L d
rule_keeps P m L d hyper_number = r_hyper_number P m L
rule_keeps P m L d module_braces = r_module_braces P m L d

nested_keeps : (P : Piece → Type 0) (m : ℕ) (n : Nested) (ws : List Word) (v : Value n) → Allows P ws → SpellAt rule m n ws v → Nest P m n v
unfolding SpellAt
nested_keeps P zero n ws v a s = absurd s
nested_keeps P (suc m) n ws v a s = (rule_keeps P m (SpellAt rule m) (λ k. record { keeps = λ us u b t. nested_keeps P m k us u b t }) n).keeps ws v a s

deep_keeps : (P : Piece → Type 0) (m : ℕ) → Deep P m (SpellAt rule m)
deep_keeps P m n = record { keeps = nested_keeps P m n }

-- ---- the words themselves

allows_more : (P Q : Piece → Type 0) (ws : List Word) → ((p : Piece) → P p → Q p) → Allows P ws → Allows Q ws
allows_more P Q [] h a = tt
allows_more P Q (w ∷ ws) h a = (λ p r. h p (a.0 p r), allows_more P Q ws h a.1)

own_words : (ws : List Word) → Allows (IsAmong ws) ws
own_words [] = tt
own_words (w ∷ ws) = (λ p r. inl r, allows_more (IsAmong ws) (IsAmong (w ∷ ws)) ws (λ p i. inr i) (own_words ws))

pub modules_kept : (levels : ℕ) (words : List Word) (modules : List Module) → Spells grammar.rule levels grammar.text words modules → IsKept levels words (modules_words modules)
modules_kept levels words modules s =
    let g = (k_text (IsAmong words) levels (SpellAt rule levels) (deep_keeps (IsAmong words) levels)).keeps words modules (own_words words) s in
    record { nodes = g.nodes; depth = g.depth; among = g.words }
