use Rattle.std.proofs.Common.{◌≡◌, map, Some, subst}
use Rattle.std.specs.Option.{option_and_then}
use Rattle.uc_flat_expressions.specs.Answers.{IsAnswer}
use Rattle.uc_flat_expressions.specs.Expressions.{all_of, on_two, plain_primary, select_all_of, flat_of}
use Rattle.uc_flat_expressions.proofs.Forms.{on_bits_ok, plain_answer}
use Rattle.uc_flat_expressions.proofs.walking.+flat_expression.Goals as goal

pub flat_expression-returns-in_ok-parts-in-OnBits : goal.flat_expression-returns-in_ok-parts-in-OnBits
flat_expression-returns-in_ok-parts-in-OnBits t c =
    let names = c.args.names.now in
    let parts = c.in_ok-parts-in-OnBits.parts in
    let all : all_of (map (flat_of names) c.in-OnBits.arguments) ≡ Some parts = subst (λ es. all_of (map (flat_of names) es) ≡ Some parts) c.as_slice-in-OnBits.ensures c.in_ok-parts-in-OnBits.ensures in
    let h = subst (λ ss. IsAnswer (option_and_then (λ u. select_all_of u ss) (on_two c.in-OnBits.function parts)) c.on_parts.result) c.as_slice-in-OnBits-2.ensures c.on_parts.ensures in
    on_bits_ok names c.args.e.now c.in-Selected.field-0 c.in-Selected.primary c.in-OnBits.function c.in-OnBits.arguments c.in-Selected.selections parts c.on_parts.result c.in-Selected.is c.in-OnBits.is all h

pub flat_expression-returns-in_default : goal.flat_expression-returns-in_default
flat_expression-returns-in_default t c =
    let names = c.args.names.now in
    let h = subst (λ ss. IsAnswer (option_and_then (λ u. select_all_of u ss) (plain_primary names c.in-Selected.primary)) c.selected.result) c.as_slice-in_default.ensures c.selected.ensures in
    plain_answer names c.args.e.now c.in-Selected.field-0 c.in-Selected.primary c.in-Selected.selections c.selected.result c.in-Selected.is c.in_default.not-OnBits c.in_default.not-Grouped h
