-- Brackets with an index.
use Rattle.std.proofs.Common.{◌≡◌, ℕ, ◌-◌, ◌<◌, false, [], Ok, Err, refl, ◌∙◌, ◌⊎◌, inl, inr}
use Rattle.uc_forms.specs.Counted.{State, Outcome, turned, count_word}
use Rattle.uc_forms.specs.Reading.{is_at_two}
use Rattle.uc_grammar.specs.declared.word.Word.{Word}
use Rattle.uc_grammar.specs.declared.word.Kind.TheVariants.{Number, Colon, LeftBracket}
use Rattle.uc_grammar.specs.Syntax as syntax
use Rattle.uc_grammar.specs.Syntax.{words}
use Rattle.uc_parse_expressions.specs.Parts.{element, element_of, new_value}
use Rattle.uc_parse_expressions.specs.Reading.{form, nested}
use Rattle.uc_parse_expressions.proofs.Here.{one_deeper}
use Rattle.uc_syntax.specs.declared.expression.Expr.{Expr}
use Rattle.uc_syntax.specs.declared.expression.Selection.{Selection}
use Rattle.uc_syntax.specs.declared.expression.Selection.TheVariants as selection_kinds
use Rattle.uc_grammar.specs.Code.{value_in}

abbrev bracket_value : Word × ((Word × Word) ⊎ (Expr × (Word ⊎ Expr))) → Selection Expr
bracket_value x = elim x.1 [ inl y ↦ selection_kinds.Extract x.0.place (value_in y.0.kind) (value_in y.1.kind) | inr y ↦ elim y.1 [ inl v ↦ selection_kinds.Element x.0.place y.0 | inr a ↦ selection_kinds.Update x.0.place y.0 a ] ]

pub brackets_given : (levels : ℕ) (w : Word) (s mid : State Word) → 0 < levels → count_word words LeftBracket s ≡ Ok (w, mid) → is_at_two words (Number 0) [] Colon mid.0 ≡ false
    → nested levels syntax.brackets s ≡ turned (element_of w.place) (form (levels - 1) element mid)
unfolding element new_value
brackets_given levels w s mid h e t = one_deeper levels syntax.brackets s h ∙ rw (e, t) (regroup (form (levels - 1) element mid))
  where
    regroup : (r : Outcome Word (Expr × (Word ⊎ Expr))) → turned bracket_value (turned (λ (b : (Word × Word) ⊎ (Expr × (Word ⊎ Expr))). (w, b)) (turned (λ (y : Expr × (Word ⊎ Expr)). let x : (Word × Word) ⊎ (Expr × (Word ⊎ Expr)) = inr y in x) r)) ≡ turned (element_of w.place) r
    regroup (Ok x) = refl
    regroup (Err d) = refl
