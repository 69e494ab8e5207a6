-- How a declaration of a type of the module's own is read.
use Rattle.std.proofs.Common.{◌≡◌, ℕ, true, Ok, Err, refl, ap, ◌∙◌, ◌⊎◌, inl}
use Rattle.uc_forms.specs.Counted.{State, Outcome, turned, count_word}
use Rattle.uc_forms.proofs.Shapes.{first_is}
use Rattle.uc_forms.specs.Reading.{is_at}
use Rattle.uc_grammar.specs.declared.word.Word.{Word}
use Rattle.uc_grammar.specs.declared.word.Kind.TheVariants.{KwType}
use Rattle.uc_grammar.specs.Syntax.{words, rule, opens, type_declaration, type_of}
use Rattle.uc_parse_expressions.specs.Reading.{form, name_codes}
use Rattle.uc_syntax.specs.declared.place.Identifier.{Identifier}
use Rattle.uc_syntax.specs.declared.type_expression.TypeExpr.{TypeExpr}
use Rattle.uc_parser.specs.Parts.{own_type, own_type_of, imported_types}

pub own_type_given : (levels : ℕ) (s mid : State Word) (w : Word) → count_word words KwType s ≡ Ok (w, mid) → is_at words name_codes mid.0 ≡ true → form levels type_declaration s ≡ turned (own_type_of w.place) (form levels own_type mid)
unfolding type_declaration
own_type_given levels s mid w e t =
    rw e (ap (λ (r : Outcome Word ((Identifier × (Word ⊎ TypeExpr)) ⊎ Identifier)). turned type_of (turned (λ b. (w, b)) r)) (first_is rule opens levels own_type imported_types mid t) ∙ same (form levels own_type mid))
  where
    same : (r : Outcome Word (Identifier × (Word ⊎ TypeExpr))) → turned type_of (turned (λ b. (w, b)) (turned inl r)) ≡ turned (own_type_of w.place) r
    same (Ok x) = refl
    same (Err f) = refl
