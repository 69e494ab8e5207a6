-- A primary with its selections.
use Rattle.std.proofs.Common.{◌≡◌, ℕ, Bool, true, false, List, [], ◌∷◌, map, Option, Some, None, refl, ap, sym, ◌∙◌}
use Rattle.std.specs.Prelude.{◌↔◌, IsTrue}
use Rattle.std.proofs.lemmas.Bool.{iff_false}
use Rattle.uc_lexer.specs.declared.place.Place.{Place}
use Rattle.uc_syntax.specs.declared.expression.Expr.{Expr}
use Rattle.uc_syntax.specs.declared.expression.Expr.TheOpen.{Expr-F}
use Rattle.uc_syntax.specs.declared.expression.Expr.TheOpen.Expr-F.{Selected as SelectedForm}
use Rattle.uc_syntax.specs.declared.expression.Expr.TheViews.{roll-Expr, Selected}
use Rattle.uc_syntax.specs.declared.expression.Expr.TheFolds.{fold-roll-Expr, map-Expr}
use Rattle.uc_syntax.specs.declared.expression.Primary.{Primary}
use Rattle.uc_syntax.specs.declared.expression.Primary.TheVariants.{Truth, Number, BitsLiteral, Name, Apply, OnBits, Old, Grouped}
use Rattle.uc_syntax.specs.declared.expression.Selection.{Selection}
use Rattle.uc_syntax.specs.declared.expression.Selection.TheVariants.{Field, Copy, Element, Update, Extract}
use Rattle.uc_rules.specs.Expressions.{Context, Part, is_plain, judged, judged_form, name_in, number_in, selected}
use Rattle.uc_expression_rules.specs.Parts.{is_plain_primary, name_of_primary, number_of_primary, primary_parts, selections_parts}

selections_of : {X : Type 0} → Expr-F X → List (Selection X)
selections_of (SelectedForm p primary selections) = selections
selections_of other = []

primary_of : {X : Type 0} → Expr-F X → Primary X
primary_of (SelectedForm p primary selections) = primary
primary_of other = Truth true

module _ (p : Place) where
  abbrev layer : Primary Expr → List (Selection Expr) → Expr-F Part
  layer primary ss = map-Expr Expr Part judged (SelectedForm p primary ss)

  selections_are : (primary : Primary Expr) (ss : List (Selection Expr)) → selections_of (layer primary ss) ≡ selections_parts ss
  unfolding selections_of
  selections_are primary [] = refl
  selections_are primary (Field q i ∷ ss) = ap (λ xs. Field q i ∷ xs) (selections_are primary ss)
  selections_are primary (Copy q k ∷ ss) = ap (λ xs. Copy q k ∷ xs) (selections_are primary ss)
  selections_are primary (Element q e ∷ ss) = ap (λ xs. Element q (judged e) ∷ xs) (selections_are primary ss)
  selections_are primary (Update q e v ∷ ss) = ap (λ xs. Update q (judged e) (judged v) ∷ xs) (selections_are primary ss)
  selections_are primary (Extract q a b ∷ ss) = ap (λ xs. Extract q a b ∷ xs) (selections_are primary ss)

  primary_is : (primary : Primary Expr) (ss : List (Selection Expr)) → primary_of (layer primary ss) ≡ primary_parts primary
  unfolding primary_of
  primary_is (Truth b) ss = refl
  primary_is (Number n) ss = refl
  primary_is (BitsLiteral n w) ss = refl
  primary_is (Name x primed) ss = refl
  primary_is (Apply x es) ss = refl
  primary_is (OnBits k es) ss = refl
  primary_is (Old i) ss = refl
  primary_is (Grouped e) ss = refl

  pub judged_selected : (c : Context) (primary : Primary Expr) (ss : List (Selection Expr)) → judged (Selected p primary ss) c ≡ selected p (primary_parts primary) (selections_parts ss) c
  unfolding judged roll-Expr denote.Hole.Carrier.roll selections_of primary_of
  judged_selected c primary ss =
      ap (λ (q : Part). q c) (fold-roll-Expr Part judged_form (SelectedForm p primary ss))
      ∙ ap (λ x. selected p x (selections_of (layer primary ss)) c) (primary_is primary ss)
      ∙ ap (λ xs. selected p (primary_parts primary) xs c) (selections_are primary ss)

pub number_alone : (primary : Primary Expr) → number_in (primary_parts primary) [] ≡ number_of_primary primary
number_alone (Truth b) = refl
number_alone (Number n) = refl
number_alone (BitsLiteral n w) = refl
number_alone (Name x primed) = refl
number_alone (Apply x es) = refl
number_alone (OnBits k es) = refl
number_alone (Old i) = refl
number_alone (Grouped e) = refl

pub number_behind : (primary : Primary Expr) (s : Selection Expr) (ss : List (Selection Expr)) → number_in (primary_parts primary) (selections_parts (s ∷ ss)) ≡ None
number_behind (Truth b) s ss = refl
number_behind (Number n) s ss = refl
number_behind (BitsLiteral n w) s ss = refl
number_behind (Name x primed) s ss = refl
number_behind (Apply x es) s ss = refl
number_behind (OnBits k es) s ss = refl
number_behind (Old i) s ss = refl
number_behind (Grouped e) s ss = refl

pub name_alone : (primary : Primary Expr) → name_in (primary_parts primary) [] ≡ name_of_primary primary
name_alone (Truth b) = refl
name_alone (Number n) = refl
name_alone (BitsLiteral n w) = refl
name_alone (Name x true) = refl
name_alone (Name x false) = refl
name_alone (Apply x es) = refl
name_alone (OnBits k es) = refl
name_alone (Old i) = refl
name_alone (Grouped e) = refl

pub name_behind : (primary : Primary Expr) (s : Selection Expr) (ss : List (Selection Expr)) → name_in (primary_parts primary) (selections_parts (s ∷ ss)) ≡ None
name_behind (Truth b) s ss = refl
name_behind (Number n) s ss = refl
name_behind (BitsLiteral n w) s ss = refl
name_behind (Name x true) s ss = refl
name_behind (Name x false) s ss = refl
name_behind (Apply x es) s ss = refl
name_behind (OnBits k es) s ss = refl
name_behind (Old i) s ss = refl
name_behind (Grouped e) s ss = refl

pub plain_alone : (c : Context) (primary : Primary Expr) → is_plain c (primary_parts primary) [] ≡ is_plain_primary c primary
plain_alone c (Truth b) = refl
plain_alone c (Number n) = refl
plain_alone c (BitsLiteral n w) = refl
plain_alone c (Name x true) = refl
plain_alone c (Name x false) = refl
plain_alone c (Apply x es) = refl
plain_alone c (OnBits k es) = refl
plain_alone c (Old i) = refl
plain_alone c (Grouped e) = refl

pub plain_behind : (c : Context) (primary : Primary Expr) (s : Selection Expr) (ss : List (Selection Expr)) → is_plain c (primary_parts primary) (selections_parts (s ∷ ss)) ≡ false
plain_behind c (Truth b) s ss = refl
plain_behind c (Number n) s ss = refl
plain_behind c (BitsLiteral n w) s ss = refl
plain_behind c (Name x true) s ss = refl
plain_behind c (Name x false) s ss = refl
plain_behind c (Apply x es) s ss = refl
plain_behind c (OnBits k es) s ss = refl
plain_behind c (Old i) s ss = refl
plain_behind c (Grouped e) s ss = refl

-- a primary that stands alone, and one with selections behind it
module _ (p : Place) (c : Context) (primary : Primary Expr) (ss : List (Selection Expr)) (e : Expr) (is : e ≡ Selected p primary ss) where
  number_in_it : number_in (primary_parts primary) (selections_parts ss) ≡ (judged e c).number
  number_in_it = ap (λ j. j.number) (sym (judged_selected p c primary ss)) ∙ ap (λ x. (judged x c).number) (sym is)

  name_in_it : name_in (primary_parts primary) (selections_parts ss) ≡ (judged e c).name
  name_in_it = ap (λ j. j.name) (sym (judged_selected p c primary ss)) ∙ ap (λ x. (judged x c).name) (sym is)

  plain_in_it : is_plain c (primary_parts primary) (selections_parts ss) ≡ (judged e c).plain
  plain_in_it = ap (λ j. j.plain) (sym (judged_selected p c primary ss)) ∙ ap (λ x. (judged x c).plain) (sym is)

  pub number_there : (n : Option ℕ) → ss ≡ [] → n ≡ number_of_primary primary → n ≡ (judged e c).number
  number_there n none n-is = n-is ∙ sym (number_alone primary) ∙ ap (λ xs. number_in (primary_parts primary) (selections_parts xs)) (sym none) ∙ number_in_it

  pub name_there : (n : Option ℕ) → ss ≡ [] → n ≡ name_of_primary primary → n ≡ (judged e c).name
  name_there n none n-is = n-is ∙ sym (name_alone primary) ∙ ap (λ xs. name_in (primary_parts primary) (selections_parts xs)) (sym none) ∙ name_in_it

  pub plain_there : (b : Bool) → ss ≡ [] → b ≡ is_plain_primary c primary → b ≡ (judged e c).plain
  plain_there b none b-is = b-is ∙ sym (plain_alone c primary) ∙ ap (λ xs. is_plain c (primary_parts primary) (selections_parts xs)) (sym none) ∙ plain_in_it

  pub number_missing : (b : Bool) → (IsTrue b ↔ (ss ≡ [])) → b ≡ false → None ≡ (judged e c).number
  number_missing b when off = sym (behind ss when) ∙ number_in_it
    where
      behind : (xs : List (Selection Expr)) → (IsTrue b ↔ (xs ≡ [])) → number_in (primary_parts primary) (selections_parts xs) ≡ None
      behind [] w = absurd (iff_false w off refl)
      behind (x ∷ xs) w = number_behind primary x xs

  pub name_missing : (b : Bool) → (IsTrue b ↔ (ss ≡ [])) → b ≡ false → None ≡ (judged e c).name
  name_missing b when off = sym (behind ss when) ∙ name_in_it
    where
      behind : (xs : List (Selection Expr)) → (IsTrue b ↔ (xs ≡ [])) → name_in (primary_parts primary) (selections_parts xs) ≡ None
      behind [] w = absurd (iff_false w off refl)
      behind (x ∷ xs) w = name_behind primary x xs

  pub plain_missing : (b : Bool) → (IsTrue b ↔ (ss ≡ [])) → b ≡ false → false ≡ (judged e c).plain
  plain_missing b when off = sym (behind ss when) ∙ plain_in_it
    where
      behind : (xs : List (Selection Expr)) → (IsTrue b ↔ (xs ≡ [])) → is_plain c (primary_parts primary) (selections_parts xs) ≡ false
      behind [] w = absurd (iff_false w off refl)
      behind (x ∷ xs) w = plain_behind c primary x xs
