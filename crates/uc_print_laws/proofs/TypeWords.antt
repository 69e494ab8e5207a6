-- The words of each form of type.
use Rattle.std.proofs.Common.{◌≡◌, ℕ, List, [], ◌∷◌, ◌++◌, map, refl, ap, ◌∙◌}
use Rattle.uc_lexer.specs.declared.place.Place.{Place}
use Rattle.uc_grammar.specs.declared.word.Kind.TheVariants as kinds
use Rattle.uc_syntax.specs.declared.place.Identifier.{Identifier}
use Rattle.uc_syntax.specs.declared.type_expression.Parameter.{Parameter}
use Rattle.uc_syntax.specs.declared.type_expression.TypeExpr.{TypeExpr}
use Rattle.uc_syntax.specs.declared.type_expression.TypeExpr.TheOpen.TypeExpr-F.{Enumeration, Record, Array}
use Rattle.uc_syntax.specs.declared.type_expression.TypeExpr.TheVariants as types
use Rattle.uc_syntax.specs.declared.type_expression.TypeExpr.TheViews as type_views
use Rattle.uc_syntax.specs.declared.type_expression.TypeExpr.TheViews.{roll-TypeExpr}
use Rattle.uc_syntax.specs.declared.type_expression.TypeExpr.TheFolds.{fold-roll-TypeExpr}
use Rattle.uc_print_laws.specs.Piece.{fixed}
use Rattle.uc_print_laws.specs.Printed.{Printed, identifier, joined, listed}
use Rattle.uc_print_laws.specs.Types.{parameter, type_form, printed_type, each_parameter}
use Rattle.uc_print_laws.specs.Declarations.{parameter_words}
use Rattle.uc_print_laws.proofs.Maps.{joined_over}
use Rattle.uc_print_laws.proofs.TypeLaw.{map_record}
use Rattle.uc_print_laws.specs.Text.{kind_text, with_word, written}
use Rattle.uc_print_laws.proofs.Written.{written_both}

pub enumeration_words : (p : Place) (is : List Identifier) → (printed_type (types.Enumeration p is)).words ≡ fixed kinds.KwEnum ∷ fixed kinds.LeftBrace ∷ ((joined kinds.Comma identifier is).words ++ fixed kinds.RightBrace ∷ [])
unfolding roll-TypeExpr denote.Hole.Carrier.roll
enumeration_words p is = ap (λ (z : Printed). z.words) (fold-roll-TypeExpr Printed type_form (Enumeration p is))

pub record_words : (p : Place) (fs : List (Parameter TypeExpr)) → (printed_type (type_views.Record p fs)).words ≡ fixed kinds.KwRecord ∷ fixed kinds.LeftBrace ∷ ((joined kinds.Comma parameter_words fs).words ++ fixed kinds.RightBrace ∷ [])
unfolding roll-TypeExpr denote.Hole.Carrier.roll
record_words p fs =
    ap (λ (z : Printed). z.words) (fold-roll-TypeExpr Printed type_form (Record p fs) ∙ ap type_form (map_record printed_type p fs))
    ∙ ap (λ (z : Printed). fixed kinds.KwRecord ∷ fixed kinds.LeftBrace ∷ (z.words ++ fixed kinds.RightBrace ∷ [])) (joined_over kinds.Comma (each_parameter printed_type) parameter fs)

pub array_words : (p : Place) (i e : TypeExpr) → (printed_type (type_views.Array p i e)).words ≡ fixed kinds.LeftBracket ∷ (((printed_type i).words ++ fixed kinds.RightBracket ∷ []) ++ (printed_type e).words)
unfolding roll-TypeExpr denote.Hole.Carrier.roll
array_words p i e = ap (λ (z : Printed). z.words) (fold-roll-TypeExpr Printed type_form (Array p i e))

pub enumeration_text : (names : List (List ℕ)) (out : List ℕ) (p : Place) (is : List Identifier) → written names out (printed_type (types.Enumeration p is)).words
    ≡ with_word (written names (with_word (with_word out (kind_text kinds.KwEnum)) (kind_text kinds.LeftBrace)) (joined kinds.Comma identifier is).words) (kind_text kinds.RightBrace)
enumeration_text names out p is = ap (λ z. written names out z) (enumeration_words p is) ∙ written_both names _ (joined kinds.Comma identifier is).words (fixed kinds.RightBrace ∷ [])

pub record_text : (names : List (List ℕ)) (out : List ℕ) (p : Place) (fs : List (Parameter TypeExpr)) → written names out (printed_type (type_views.Record p fs)).words
    ≡ with_word (written names (with_word (with_word out (kind_text kinds.KwRecord)) (kind_text kinds.LeftBrace)) (joined kinds.Comma parameter_words fs).words) (kind_text kinds.RightBrace)
record_text names out p fs = ap (λ z. written names out z) (record_words p fs) ∙ written_both names _ (joined kinds.Comma parameter_words fs).words (fixed kinds.RightBrace ∷ [])

pub array_text : (names : List (List ℕ)) (out : List ℕ) (p : Place) (i e : TypeExpr) → written names out (printed_type (type_views.Array p i e)).words
    ≡ written names (with_word (written names (with_word out (kind_text kinds.LeftBracket)) (printed_type i).words) (kind_text kinds.RightBracket)) (printed_type e).words
array_text names out p i e =
    let o = with_word out (kind_text kinds.LeftBracket) in
    ap (λ z. written names out z) (array_words p i e) ∙ written_both names o ((printed_type i).words ++ fixed kinds.RightBracket ∷ []) (printed_type e).words
    ∙ ap (λ z. written names z (printed_type e).words) (written_both names o (printed_type i).words (fixed kinds.RightBracket ∷ []))
