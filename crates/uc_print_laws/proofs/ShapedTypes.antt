-- Types.
use Rattle.std.proofs.Common.{◌≡◌, ◌⊎◌, inl, inr, ℕ, suc, true, List, [], ◌∷◌, Option, Some, None, refl, ap, ◌∙◌}
use Rattle.uc_forms.specs.Form.{quiet, declares, after, before, joined_by}
use Rattle.uc_lexer.specs.declared.place.Place.{Place}
use Rattle.uc_grammar.specs.declared.word.Kind.{Kind}
use Rattle.uc_grammar.specs.declared.word.Kind.TheVariants as kinds
use Rattle.uc_grammar.specs.declared.word.Word.{Word}
use Rattle.uc_grammar.specs.Code.{name_in, width_in}
use Rattle.uc_grammar.specs.Syntax.{F, rule, ty, parameter as parameter_form, id, new_id, listed as listed_form, array, enum_braces, record_braces, named_type, enclosed as enclosed_form}
use Rattle.uc_syntax.specs.declared.place.Identifier.{Identifier}
use Rattle.uc_syntax.specs.declared.type_expression.Parameter.{Parameter}
use Rattle.uc_syntax.specs.declared.type_expression.TypeExpr.{TypeExpr}
use Rattle.uc_syntax.specs.declared.type_expression.TypeExpr.TheOpen.TypeExpr-F.{Boolean, Integer, Bits, Enumeration, Record, Array, Named, OfModule}
use Rattle.uc_syntax.specs.declared.type_expression.TypeExpr.TheVariants as types
use Rattle.uc_syntax.specs.declared.type_expression.TypeExpr.TheViews as type_views
use Rattle.uc_syntax.specs.declared.type_expression.TypeExpr.TheViews.{roll-TypeExpr}
use Rattle.uc_syntax.specs.declared.type_expression.TypeExpr.TheFolds.{fold-roll-TypeExpr}
use Rattle.uc_print_laws.specs.Piece.{Piece, name, fixed}
use Rattle.uc_print_laws.specs.Printed.{Printed, piece, sign, identifier, ◌<+>◌, nested, joined, listed, in_parens}
use Rattle.uc_print_laws.specs.Expressions.{enclosed}
use Rattle.uc_print_laws.specs.Types.{parameter, type_form, printed_type, each_parameter}
use Rattle.uc_print_laws.specs.Declarations.{parameter_words}
use Rattle.uc_print_laws.proofs.Maps.{listed_over}
use Rattle.uc_print_laws.proofs.TypeLaw.{map_record}
use Rattle.uc_print_laws.proofs.Good.{Good, good_is, g_none, g_piece, g_both, g_nested, g_when, g_behind, g_in_parens}
use Rattle.uc_print_laws.proofs.Coded.{IsTold}
use Rattle.uc_print_laws.proofs.ShapedSteps.{Deeper, Keeps, Joined, k_word, k_type, k_name, k_both, k_either, k_made, k_or, k_after, k_before, k_joined, k_optional, k_weak}
use Rattle.uc_print_laws.proofs.Nest.{Nest, Deep}

-- ---- equations

printed_boolean : (p : Place) → printed_type (types.Boolean p) ≡ sign kinds.KwBoolean
unfolding roll-TypeExpr denote.Hole.Carrier.roll
printed_boolean p = fold-roll-TypeExpr Printed type_form (Boolean p)

printed_integer : (p : Place) → printed_type (types.Integer p) ≡ sign kinds.KwInteger
unfolding roll-TypeExpr denote.Hole.Carrier.roll
printed_integer p = fold-roll-TypeExpr Printed type_form (Integer p)

printed_bits : (p : Place) (w : ℕ) → printed_type (types.Bits p w) ≡ sign (kinds.BvType w)
unfolding roll-TypeExpr denote.Hole.Carrier.roll
printed_bits p w = fold-roll-TypeExpr Printed type_form (Bits p w)

printed_enumeration : (p : Place) (is : List Identifier) → printed_type (types.Enumeration p is) ≡ sign kinds.KwEnum <+> nested (sign kinds.LeftBrace <+> (listed identifier is <+> sign kinds.RightBrace))
unfolding roll-TypeExpr denote.Hole.Carrier.roll
printed_enumeration p is = fold-roll-TypeExpr Printed type_form (Enumeration p is)

printed_record : (p : Place) (fs : List (Parameter TypeExpr)) → printed_type (type_views.Record p fs) ≡ sign kinds.KwRecord <+> nested (sign kinds.LeftBrace <+> (listed parameter_words fs <+> sign kinds.RightBrace))
unfolding roll-TypeExpr denote.Hole.Carrier.roll
printed_record p fs =
    fold-roll-TypeExpr Printed type_form (Record p fs) ∙ ap type_form (map_record printed_type p fs)
    ∙ ap (λ (z : Printed). sign kinds.KwRecord <+> nested (sign kinds.LeftBrace <+> (z <+> sign kinds.RightBrace))) (listed_over (each_parameter printed_type) parameter fs)

printed_array : (p : Place) (i e : TypeExpr) → printed_type (type_views.Array p i e) ≡ nested (sign kinds.LeftBracket <+> ((printed_type i <+> sign kinds.RightBracket) <+> printed_type e))
unfolding roll-TypeExpr denote.Hole.Carrier.roll
printed_array p i e = fold-roll-TypeExpr Printed type_form (Array p i e)

printed_named : (p : Place) (n : ℕ) → printed_type (types.Named p n) ≡ piece (name n)
unfolding roll-TypeExpr denote.Hole.Carrier.roll
printed_named p n = fold-roll-TypeExpr Printed type_form (Named p n)

printed_of_module : (p : Place) (m : ℕ) (i : Identifier) → printed_type (types.OfModule p m i) ≡ piece (name m) <+> (sign kinds.Dot <+> identifier i)
unfolding roll-TypeExpr denote.Hole.Carrier.roll
printed_of_module p m i = fold-roll-TypeExpr Printed type_form (OfModule p m i)

-- ---- forms

module _ (P : Piece → Type 0) (m : ℕ) (L : Deeper) where
  pub k_id : Keeps P L id (λ i. Good P m (identifier i))
  k_id = k_made _ (λ w h. g_piece h) (k_name quiet)

  pub k_new_id : Keeps P L new_id (λ i. Good P m (identifier i))
  k_new_id = k_made _ (λ w h. g_piece h) (k_name declares)

  -- ---- lists

  joined_good : {A : Type 0} (show : A → Printed) (k : Kind) (xs : List A) → Joined (P (fixed k)) (λ x. Good P m (show x)) xs → Good P m (joined k show xs)
  joined_good show k [] h = absurd h
  joined_good show k (x ∷ xs) h = g_both h.0 (g_behind show k xs h.1)

  listed_good : {A : Type 0} (show : A → Printed) (xs : List A) → Joined (P (fixed kinds.Comma)) (λ x. Good P m (show x)) xs → Good P m (listed show xs)
  listed_good show [] h = absurd h
  listed_good show (x ∷ xs) h = g_when true refl (g_both h.0 (g_behind show kinds.Comma xs h.1))

  pub k_joined_by : {A : Type 0} {f : F A} (show : A → Printed) (k : Kind) → IsTold k → Keeps P L f (λ a. Good P m (show a)) → Keeps P L (joined_by k f) (λ xs. Good P m (joined k show xs))
  k_joined_by show k t h = k_weak (joined_good show k) (k_joined (λ a. Good P m (show a)) k t h)

  pub k_listed : {A : Type 0} {f : F A} (show : A → Printed) → Keeps P L f (λ a. Good P m (show a)) → Keeps P L (listed_form f) (λ xs. Good P m (listed show xs))
  k_listed show h = k_weak (listed_good show) (k_joined (λ a. Good P m (show a)) kinds.Comma (refl, refl, refl) h)

  -- in parentheses, and maybe nothing between
  pub k_enclosed : {A : Type 0} {f : F A} (show : A → Printed) → Keeps P L f (λ a. Good P m (show a)) → Keeps P L (enclosed_form (listed_form f)) (λ xs. Good P (suc m) (enclosed show xs))
  k_enclosed {A} {f} show h =
      k_weak (λ xs q. g_in_parens q.0 q.1.1 q.1.0)
      (k_after {Q = λ xs. Good P m (joined kinds.Comma show xs) × P (fixed kinds.RightParen)} kinds.LeftParen (refl, refl, refl) (k_made _ inner (k_either {R = Inner} (k_word kinds.RightParen (refl, refl, refl)) (k_before kinds.RightParen (refl, refl, refl) (k_joined_by show kinds.Comma (refl, refl, refl) h)))))
    where
      Inner : Word ⊎ List A → Type 0
      Inner (inl w) = P (fixed kinds.RightParen)
      Inner (inr xs) = Good P m (joined kinds.Comma show xs) × P (fixed kinds.RightParen)

      inner : (x : Word ⊎ List A) → Inner x → Good P m (joined kinds.Comma show (elim x [ inl w ↦ [] | inr xs ↦ xs ])) × P (fixed kinds.RightParen)
      inner (inl w) q = (g_none, q)
      inner (inr xs) q = q

  pub k_in_parens : {A : Type 0} {f : F A} (show : A → Printed) → Keeps P L f (λ a. Good P m (show a)) → Keeps P L (after kinds.LeftParen (before f kinds.RightParen)) (λ a. Good P (suc m) (in_parens (show a)))
  k_in_parens show h = k_weak (λ a q. g_in_parens q.0 q.1.1 q.1.0) (k_after kinds.LeftParen (refl, refl, refl) (k_before kinds.RightParen (refl, refl, refl) h))

  -- ---- types

  abbrev OfModuleGood : Option Identifier → Type 0
  OfModuleGood None = Unit {0}
  OfModuleGood (Some i) = P (fixed kinds.Dot) × Good P m (identifier i)

  named_good : (x : Word × Option Identifier) → P (name (name_in x.0.kind)) × OfModuleGood x.1 → Good P m (printed_type (named_type x))
  named_good (w, None) h = good_is (printed_named w.place (name_in w.kind)) (g_piece h.0)
  named_good (w, Some i) h = good_is (printed_of_module w.place (name_in w.kind) i) (g_both (g_piece h.0) (g_both (g_piece h.1.0) h.1.1))

  pub k_ty : Deep P m L → Keeps P L ty (λ t. Good P m (printed_type t))
  unfolding ty
  k_ty d =
      k_or (k_made _ (λ w h. good_is (printed_boolean w.place) (g_piece h)) (k_word kinds.KwBoolean (refl, refl, refl)))
      (k_or (k_made _ (λ w h. good_is (printed_integer w.place) (g_piece h)) (k_word kinds.KwInteger (refl, refl, refl)))
      (k_or (k_made _ (λ w h. good_is (printed_bits w.place (width_in w.kind)) (g_piece h)) k_type)
      (k_or (k_made _ (λ x h. good_is (printed_enumeration x.0.place x.1) (g_both (g_piece h.0) h.1)) (k_both (k_word kinds.KwEnum (refl, refl, refl)) (d enum_braces)))
      (k_or (k_made _ (λ x h. good_is (printed_record x.0.place x.1) (g_both (g_piece h.0) h.1)) (k_both (k_word kinds.KwRecord (refl, refl, refl)) (d record_braces)))
      (k_or (k_weak (λ t h. h) (d array))
      (k_made named_type named_good (k_both (k_name quiet) (k_optional OfModuleGood tt (k_after kinds.Dot (refl, refl, refl) k_id)))))))))

  pub k_parameter : Deep P m L → Keeps P L parameter_form (λ p. Good P m (parameter_words p))
  k_parameter d = k_made _ (λ x h. g_both h.0 (g_both (g_piece h.1.0) h.1.1)) (k_both k_new_id (k_after kinds.Colon (refl, refl, refl) (k_ty d)))

  -- ---- their nested forms

  pub r_enum_braces : Keeps P L (rule enum_braces) (Nest P (suc m) enum_braces)
  r_enum_braces = k_weak (λ is h. g_nested (g_both (g_piece h.0) (g_both h.1.0 (g_piece h.1.1)))) (k_after kinds.LeftBrace (refl, refl, refl) (k_before kinds.RightBrace (refl, refl, refl) (k_listed identifier k_new_id)))

  pub r_record_braces : Deep P m L → Keeps P L (rule record_braces) (Nest P (suc m) record_braces)
  r_record_braces d = k_weak (λ fs h. g_nested (g_both (g_piece h.0) (g_both h.1.0 (g_piece h.1.1)))) (k_after kinds.LeftBrace (refl, refl, refl) (k_before kinds.RightBrace (refl, refl, refl) (k_listed parameter_words (k_parameter d))))

  pub r_array : Deep P m L → Keeps P L (rule array) (Nest P (suc m) array)
  r_array d =
      k_made _ (λ x h. good_is (printed_array x.0.place x.1.0 x.1.1) (g_nested (g_both (g_piece h.0) (g_both (g_both h.1.0.0 (g_piece h.1.0.1)) h.1.1))))
      (k_both (k_word kinds.LeftBracket (refl, refl, refl)) (k_both (k_before kinds.RightBracket (refl, refl, refl) (k_ty d)) (k_ty d)))
