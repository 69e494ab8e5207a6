-- What is traced of an expression is what it says.
use Rattle.std.proofs.Common.{◌≡◌, List, [], ◌∷◌, true, map, refl, ap, ◌∙◌, sym, subst}
use Rattle.uc_lexer.specs.declared.place.Place.{Place}
use Rattle.uc_syntax.specs.declared.expression.Expr.{Expr}
use Rattle.uc_syntax.specs.declared.expression.Expr.TheOpen.{Expr-F}
use Rattle.uc_syntax.specs.declared.expression.Expr.TheOpen.Expr-F.{If, Iff, Implies, Or, And, Compare, BitOr, BitXor, BitAnd, Concat, Sum, Product, Unary, Selected}
use Rattle.uc_syntax.specs.declared.expression.Branch.{Branch}
use Rattle.uc_syntax.specs.declared.expression.Primary.{Primary}
use Rattle.uc_syntax.specs.declared.expression.Primary.TheVariants.{Truth, Number, BitsLiteral, Name, Apply, OnBits, Old, Grouped}
use Rattle.uc_syntax.specs.declared.expression.Selection.{Selection}
use Rattle.uc_syntax.specs.declared.expression.Selection.TheVariants.{Field, Copy, Element, Update, Extract}
use Rattle.uc_syntax.specs.declared.expression.Expr.TheFolds.{fold-Expr, map-Expr, fold-roll-Expr, ind-Expr}
use Rattle.uc_meaning.specs.Lookup.{System}
use Rattle.uc_meaning.specs.Expressions.{Part, Elsewhere, reading_form, reading_by}
use Rattle.uc_meaning.specs.Overflow.{Traced, MetElsewhere, traced_form}

abbrev selections_of : {X : Type 0} → Expr-F X → List (Selection X)
selections_of (Selected p primary selections) = selections
selections_of other = []

abbrev branches_of : {X : Type 0} → Expr-F X → List (Branch X)
branches_of (If p branches otherwise) = branches
branches_of other = []

abbrev primary_of : {X : Type 0} → Expr-F X → Primary X
primary_of (Selected p primary selections) = primary
primary_of other = Truth true

-- Two ways over a layer are one where they are one at each child, which each child has a proof of.
module _ {A B C D : Type 0} (f : A → B) (g : B → C) (h : A → C) (d : D → A) (same : (e : D) → g (f (d e)) ≡ h (d e)) where
  list_same : (es : List D) → map g (map f (map d es)) ≡ map h (map d es)
  list_same [] = refl
  list_same (e ∷ es) = ap (λ x. x ∷ map g (map f (map d es))) (same e) ∙ ap (λ xs. h (d e) ∷ xs) (list_same es)

  abbrev left : Expr-F D → Expr-F C
  left y = map-Expr B C g (map-Expr A B f (map-Expr D A d y))

  abbrev right : Expr-F D → Expr-F C
  right y = map-Expr A C h (map-Expr D A d y)

  selections_same : (p : Place) (primary : Primary D) (ss : List (Selection D)) → selections_of (left (Selected p primary ss)) ≡ selections_of (right (Selected p primary ss))
  selections_same p primary [] = refl
  selections_same p primary (Field q i ∷ ss) = ap (λ xs. Field q i ∷ xs) (selections_same p primary ss)
  selections_same p primary (Copy q k ∷ ss) = ap (λ xs. Copy q k ∷ xs) (selections_same p primary ss)
  selections_same p primary (Element q e ∷ ss) = ap (λ x. Element q x ∷ selections_of (left (Selected p primary ss))) (same e) ∙ ap (λ xs. Element q (h (d e)) ∷ xs) (selections_same p primary ss)
  selections_same p primary (Update q e v ∷ ss) =
      ap (λ x. Update q x (g (f (d v))) ∷ selections_of (left (Selected p primary ss))) (same e)
      ∙ ap (λ x. Update q (h (d e)) x ∷ selections_of (left (Selected p primary ss))) (same v)
      ∙ ap (λ xs. Update q (h (d e)) (h (d v)) ∷ xs) (selections_same p primary ss)
  selections_same p primary (Extract q a b ∷ ss) = ap (λ xs. Extract q a b ∷ xs) (selections_same p primary ss)

  branches_same : (p : Place) (bs : List (Branch D)) (z : D) → branches_of (left (If p bs z)) ≡ branches_of (right (If p bs z))
  branches_same p [] z = refl
  branches_same p (b ∷ bs) z =
      ap (λ k. record { place = b.place; condition = k; value = g (f (d b.value)) } ∷ branches_of (left (If p bs z))) (same b.condition)
      ∙ ap (λ k. record { place = b.place; condition = h (d b.condition); value = k } ∷ branches_of (left (If p bs z))) (same b.value)
      ∙ ap (λ k. record { place = b.place; condition = h (d b.condition); value = h (d b.value) } ∷ k) (branches_same p bs z)

  primary_same : (p : Place) (primary : Primary D) (ss : List (Selection D)) → primary_of (left (Selected p primary ss)) ≡ primary_of (right (Selected p primary ss))
  primary_same p (Truth b) ss = refl
  primary_same p (Number n) ss = refl
  primary_same p (BitsLiteral n w) ss = refl
  primary_same p (Name x primed) ss = refl
  primary_same p (Apply x es) ss = ap (λ xs. Apply x xs) (list_same es)
  primary_same p (OnBits k es) ss = ap (λ xs. OnBits k xs) (list_same es)
  primary_same p (Old i) ss = refl
  primary_same p (Grouped e) ss = ap (λ x. Grouped x) (same e)

  layer_same : (y : Expr-F D) → map-Expr B C g (map-Expr A B f (map-Expr D A d y)) ≡ map-Expr A C h (map-Expr D A d y)
  layer_same (If p bs z) =
      ap (λ k. If p k (g (f (d z)))) (branches_same p bs z)
      ∙ ap (λ k. If p (branches_of (right (If p bs z))) k) (same z)
  layer_same (Iff p es ms) = ap (λ xs. Iff p xs ms) (list_same es)
  layer_same (Implies p es ms) = ap (λ xs. Implies p xs ms) (list_same es)
  layer_same (Or p es ms) = ap (λ xs. Or p xs ms) (list_same es)
  layer_same (And p es ms) = ap (λ xs. And p xs ms) (list_same es)
  layer_same (Compare p o m a b) = ap (λ k. Compare p o m k (g (f (d b)))) (same a) ∙ ap (λ k. Compare p o m (h (d a)) k) (same b)
  layer_same (BitOr p es ms) = ap (λ xs. BitOr p xs ms) (list_same es)
  layer_same (BitXor p es ms) = ap (λ xs. BitXor p xs ms) (list_same es)
  layer_same (BitAnd p es ms) = ap (λ xs. BitAnd p xs ms) (list_same es)
  layer_same (Concat p es ms) = ap (λ xs. Concat p xs ms) (list_same es)
  layer_same (Sum p es ms) = ap (λ xs. Sum p xs ms) (list_same es)
  layer_same (Product p es ms) = ap (λ xs. Product p xs ms) (list_same es)
  layer_same (Unary p o e) = ap (λ k. Unary p o k) (same e)
  layer_same (Selected p primary selections) =
      ap (λ k. Selected p k (selections_of (left (Selected p primary selections)))) (primary_same p primary selections)
      ∙ ap (λ k. Selected p (primary_of (right (Selected p primary selections))) k) (selections_same p primary selections)

pub part_is : (system : System) (else' : Elsewhere) (others : MetElsewhere) (e : Expr) → (fold-Expr Traced (traced_form system else' others) e).part ≡ reading_by system else' e
unfolding reading_by
part_is system else' others =
    ind-Expr (λ e. (fold-Expr Traced (traced_form system else' others) e).part ≡ reading_by system else' e)
    (λ x y is.
    let way = layer_same (fold-Expr Traced (traced_form system else' others)) (λ t. t.part) (reading_by system else') (λ e. e.0) (λ e. e.1) y in
    ap (λ t. t.part) (fold-roll-Expr Traced (traced_form system else' others) x)
    ∙ ap (reading_form system else') (subst (λ z. map-Expr Traced Part (λ t. t.part) (map-Expr Expr Traced (fold-Expr Traced (traced_form system else' others)) z) ≡ map-Expr Expr Part (reading_by system else') z) is way)
    ∙ sym (fold-roll-Expr Part (reading_form system else') x))
