-- Where more defines read state, an expression that did still does.
use Rattle.std.proofs.Common.{◌≡◌, ℕ, Bool, true, false, List, [], ◌∷◌, map, Option, Some, None, refl, ap, sym, subst, ◌∙◌, ◌⊎◌, inl, inr, ⊎_elim}
use Rattle.std.specs.Prelude.{nat_eq, ◌||◌}
use Rattle.std.specs.List.{list_any}
use Rattle.uc_lexer.specs.declared.place.Place.{Place}
use Rattle.uc_syntax.specs.declared.place.Identifier.{Identifier}
use Rattle.uc_syntax.specs.declared.expression.Expr.{Expr}
use Rattle.uc_syntax.specs.declared.expression.Branch.{Branch}
use Rattle.uc_syntax.specs.declared.expression.Primary.{Primary}
use Rattle.uc_syntax.specs.declared.expression.Primary.TheVariants.{Truth, Number, BitsLiteral, Name, Apply, OnBits, Old, Grouped}
use Rattle.uc_syntax.specs.declared.expression.Selection.{Selection}
use Rattle.uc_syntax.specs.declared.expression.Selection.TheVariants.{Field, Copy, Element, Update, Extract}
use Rattle.uc_syntax.specs.declared.expression.Expr.TheOpen.{Expr-F}
use Rattle.uc_syntax.specs.declared.expression.Expr.TheOpen.Expr-F.{If, Iff, Implies, Or, And, Compare, BitOr, BitXor, BitAnd, Concat, Sum, Product, Unary, Selected}
use Rattle.uc_syntax.specs.declared.expression.Expr.TheViews.{roll-Expr}
use Rattle.uc_syntax.specs.declared.expression.Expr.TheFolds.{map-Expr, fold-roll-Expr, ind-Expr}
use Rattle.uc_syntax.specs.declared.declaration.Module.{Module}
use Rattle.uc_meaning.specs.Lookup.{System}
use Rattle.uc_rules.specs.Names.{Called, CalledFunction, CalledDefine}
use Rattle.uc_rules.specs.Reads.{any_reads, body_reads, parameter_names, primary_reads, reads_by, reads_form, selection_reads}

-- where one holds, so does the other
abbrev Below : Bool → Bool → Type 0
Below b c = b ≡ true → c ≡ true

or_below : (a b c d : Bool) → Below a c → Below b d → Below (a || b) (c || d)
or_below true b c d h k e = ap (λ z. z || d) (h refl)
or_below false b c d h k e = right c d (k e)
  where
    right : (c d : Bool) → d ≡ true → (c || d) ≡ true
    right true d e = refl
    right false d e = e

abbrev branches_of : {X : Type 0} → Expr-F X → List (Branch X)
branches_of (If p bs otherwise) = bs
branches_of other = []

abbrev primary_of : {X : Type 0} → Expr-F X → Primary X
primary_of (Selected p primary selections) = primary
primary_of other = Truth true

abbrev selections_of : {X : Type 0} → Expr-F X → List (Selection X)
selections_of (Selected p primary selections) = selections
selections_of other = []

module _ (system : System) (m : Module) (bound : List ℕ) (f g : ℕ → Bool) (more : (x : ℕ) → f x ≡ true → g x ≡ true) where
  abbrev reads_f : Expr → Bool
  reads_f = reads_by system m bound f

  abbrev reads_g : Expr → Bool
  reads_g = reads_by system m bound g

  abbrev Grows : Expr → Type 0
  Grows e = Below (reads_f e) (reads_g e)

  abbrev Child : Type 0
  Child = (e : Expr) × Grows e

  abbrev tree : Child → Expr
  tree c = c.0

  abbrev layer : Expr-F Child → Expr-F Expr
  layer y = map-Expr Child Expr tree y

  abbrev form_f : Expr-F Child → Bool
  form_f y = reads_form system m bound f (map-Expr Expr Bool reads_f (layer y))

  abbrev form_g : Expr-F Child → Bool
  form_g y = reads_form system m bound g (map-Expr Expr Bool reads_g (layer y))

  any_below : (cs : List Child) → Below (any_reads (map reads_f (map tree cs))) (any_reads (map reads_g (map tree cs)))
  any_below [] e = e
  any_below (c ∷ cs) e = or_below (reads_f c.0) (any_reads (map reads_f (map tree cs))) (reads_g c.0) (any_reads (map reads_g (map tree cs))) c.1 (any_below cs) e

  abbrev parts_f : Expr-F Child → Expr-F Bool
  parts_f y = map-Expr Expr Bool reads_f (layer y)

  abbrev parts_g : Expr-F Child → Expr-F Bool
  parts_g y = map-Expr Expr Bool reads_g (layer y)

  -- the arms of a conditional
  abbrev arms_f : Place → List (Branch Child) → Child → Bool
  arms_f place bs otherwise = list_any (λ b. b.condition || b.value) (branches_of (parts_f (If place bs otherwise)))

  abbrev arms_g : Place → List (Branch Child) → Child → Bool
  arms_g place bs otherwise = list_any (λ b. b.condition || b.value) (branches_of (parts_g (If place bs otherwise)))

  arms_below : (place : Place) (bs : List (Branch Child)) (otherwise : Child) → Below (arms_f place bs otherwise) (arms_g place bs otherwise)
  arms_below place [] otherwise = λ e. e
  arms_below place (b ∷ bs) otherwise =
      or_below (reads_f b.condition.0 || reads_f b.value.0) (arms_f place bs otherwise) (reads_g b.condition.0 || reads_g b.value.0) (arms_g place bs otherwise)
      (or_below (reads_f b.condition.0) (reads_f b.value.0) (reads_g b.condition.0) (reads_g b.value.0) b.condition.1 b.value.1) (arms_below place bs otherwise)

  -- a primary
  abbrev primary_f : Place → Primary Child → List (Selection Child) → Bool
  primary_f place p ss = primary_reads system m bound f (primary_of (parts_f (Selected place p ss)))

  abbrev primary_g : Place → Primary Child → List (Selection Child) → Bool
  primary_g place p ss = primary_reads system m bound g (primary_of (parts_g (Selected place p ss)))

  primary_below : (place : Place) (p : Primary Child) (ss : List (Selection Child)) → Below (primary_f place p ss) (primary_g place p ss)
  primary_below place (Truth b) ss = λ e. e
  primary_below place (Number n) ss = λ e. e
  primary_below place (BitsLiteral n w) ss = λ e. e
  primary_below place (Name x primed) ss = λ e. e
  primary_below place (Apply x es) ss = or_below (f x) (any_reads (map reads_f (map tree es))) (g x) (any_reads (map reads_g (map tree es))) (more x) (any_below es)
  primary_below place (OnBits k es) ss = any_below es
  primary_below place (Old i) ss = λ e. e
  primary_below place (Grouped c) ss = c.1

  -- selections
  abbrev selections_f : Place → Primary Child → List (Selection Child) → Bool
  selections_f place p ss = list_any selection_reads (selections_of (parts_f (Selected place p ss)))

  abbrev selections_g : Place → Primary Child → List (Selection Child) → Bool
  selections_g place p ss = list_any selection_reads (selections_of (parts_g (Selected place p ss)))

  selections_below : (place : Place) (p : Primary Child) (ss : List (Selection Child)) → Below (selections_f place p ss) (selections_g place p ss)
  selections_below place p [] = λ e. e
  selections_below place p (Field q i ∷ ss) = selections_below place p ss
  selections_below place p (Copy q k ∷ ss) = selections_below place p ss
  selections_below place p (Element q c ∷ ss) = or_below (reads_f c.0) (selections_f place p ss) (reads_g c.0) (selections_g place p ss) c.1 (selections_below place p ss)
  selections_below place p (Update q c v ∷ ss) =
      or_below (reads_f c.0 || reads_f v.0) (selections_f place p ss) (reads_g c.0 || reads_g v.0) (selections_g place p ss)
      (or_below (reads_f c.0) (reads_f v.0) (reads_g c.0) (reads_g v.0) c.1 v.1) (selections_below place p ss)
  selections_below place p (Extract q hi lo ∷ ss) = selections_below place p ss

  layer_below : (y : Expr-F Child) → Below (form_f y) (form_g y)
  layer_below (If place bs otherwise) =
      or_below (arms_f place bs otherwise) (reads_f otherwise.0) (arms_g place bs otherwise) (reads_g otherwise.0) (arms_below place bs otherwise) otherwise.1
  layer_below (Iff place es ms) = any_below es
  layer_below (Implies place es ms) = any_below es
  layer_below (Or place es ms) = any_below es
  layer_below (And place es ms) = any_below es
  layer_below (Compare place how mark a b) = or_below (reads_f a.0) (reads_f b.0) (reads_g a.0) (reads_g b.0) a.1 b.1
  layer_below (BitOr place es ms) = any_below es
  layer_below (BitXor place es ms) = any_below es
  layer_below (BitAnd place es ms) = any_below es
  layer_below (Concat place es ms) = any_below es
  layer_below (Sum place es ms) = any_below es
  layer_below (Product place es ms) = any_below es
  layer_below (Unary place operator e) = e.1
  layer_below (Selected place p ss) =
      or_below (primary_f place p ss) (selections_f place p ss) (primary_g place p ss) (selections_g place p ss) (primary_below place p ss) (selections_below place p ss)

  step : (y : Expr-F Child) → Grows (roll-Expr (layer y))
  unfolding reads_by
  step y e =
      fold-roll-Expr Bool (reads_form system m bound g) (layer y) ∙ layer_below y (sym (fold-roll-Expr Bool (reads_form system m bound f) (layer y)) ∙ e)

  pub reads_grow : (e : Expr) → reads_by system m bound f e ≡ true → reads_by system m bound g e ≡ true
  reads_grow = ind-Expr Grows (λ x y is. subst (λ z. Grows (roll-Expr z)) is (step y))
