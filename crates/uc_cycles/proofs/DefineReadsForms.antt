-- Whether each form of an expression reads state, by its parts.
use Rattle.std.proofs.Common.{◌≡◌, ℕ, Bool, true, false, List, [], ◌∷◌, map, refl, ap, ◌∙◌}
use Rattle.std.specs.Prelude.{◌||◌}
use Rattle.std.specs.List.{list_any}
use Rattle.uc_lexer.specs.declared.place.Place.{Place}
use Rattle.uc_syntax.specs.declared.expression.Expr.{Expr}
use Rattle.uc_syntax.specs.declared.expression.Branch.{Branch}
use Rattle.uc_syntax.specs.declared.expression.Comparison.{Comparison}
use Rattle.uc_syntax.specs.declared.expression.SumSign.{SumSign}
use Rattle.uc_syntax.specs.declared.expression.UnaryOperator.{UnaryOperator}
use Rattle.uc_syntax.specs.declared.expression.Primary.{Primary}
use Rattle.uc_syntax.specs.declared.expression.Primary.TheVariants.{Truth, Number, BitsLiteral, Name, Apply, OnBits, Old, Grouped}
use Rattle.uc_syntax.specs.declared.expression.Selection.{Selection}
use Rattle.uc_syntax.specs.declared.expression.Selection.TheVariants.{Field, Copy, Element, Update, Extract}
use Rattle.uc_syntax.specs.declared.expression.Expr.TheOpen.{Expr-F}
use Rattle.uc_syntax.specs.declared.expression.Expr.TheOpen.Expr-F.{If as IfForm, Iff as IffForm, Implies as ImpliesForm, Or as OrForm, And as AndForm, Compare as CompareForm, BitOr as BitOrForm, BitXor as BitXorForm, BitAnd as BitAndForm, Concat as ConcatForm, Sum as SumForm, Product as ProductForm, Unary as UnaryForm, Selected as SelectedForm}
use Rattle.uc_syntax.specs.declared.expression.Expr.TheViews.{roll-Expr, If, Iff, Implies, Or, And, Compare, BitOr, BitXor, BitAnd, Concat, Sum, Product, Unary, Selected}
use Rattle.uc_syntax.specs.declared.expression.Expr.TheFolds.{fold-roll-Expr, map-Expr}
use Rattle.uc_syntax.specs.declared.declaration.Module.{Module}
use Rattle.uc_meaning.specs.Lookup.{System}
use Rattle.uc_rules.specs.Reads.{primary_reads, reads_by, reads_form, selection_reads}
use Rattle.uc_cycles.specs.Found.{branch_by, primary_by, selection_by}
use Rattle.uc_cycles.proofs.Tests.{any_map}

branches_of : {X : Type 0} → Expr-F X → List (Branch X)
branches_of (IfForm p bs otherwise) = bs
branches_of other = []

primary_of : {X : Type 0} → Expr-F X → Primary X
primary_of (SelectedForm p primary selections) = primary
primary_of other = Truth true

selections_of : {X : Type 0} → Expr-F X → List (Selection X)
selections_of (SelectedForm p primary selections) = selections
selections_of other = []

module _ (system : System) (m : Module) (bound : List ℕ) (by : ℕ → Bool) (place : Place) where
  abbrev reads : (ℕ → Bool) → Expr → Bool
  reads f = reads_by system m bound f

  abbrev parts : Expr-F Expr → Expr-F Bool
  parts y = map-Expr Expr Bool (reads by) y

  pub reads_iff : (es : List Expr) (ms : List Place) → reads by (Iff place es ms) ≡ list_any (reads by) es
  unfolding reads_by roll-Expr denote.Hole.Carrier.roll
  reads_iff es ms = fold-roll-Expr Bool (reads_form system m bound by) (IffForm place es ms) ∙ any_map (reads by) es

  pub reads_implies : (es : List Expr) (ms : List Place) → reads by (Implies place es ms) ≡ list_any (reads by) es
  unfolding reads_by roll-Expr denote.Hole.Carrier.roll
  reads_implies es ms = fold-roll-Expr Bool (reads_form system m bound by) (ImpliesForm place es ms) ∙ any_map (reads by) es

  pub reads_or : (es : List Expr) (ms : List Place) → reads by (Or place es ms) ≡ list_any (reads by) es
  unfolding reads_by roll-Expr denote.Hole.Carrier.roll
  reads_or es ms = fold-roll-Expr Bool (reads_form system m bound by) (OrForm place es ms) ∙ any_map (reads by) es

  pub reads_and : (es : List Expr) (ms : List Place) → reads by (And place es ms) ≡ list_any (reads by) es
  unfolding reads_by roll-Expr denote.Hole.Carrier.roll
  reads_and es ms = fold-roll-Expr Bool (reads_form system m bound by) (AndForm place es ms) ∙ any_map (reads by) es

  pub reads_bit_or : (es : List Expr) (ms : List Place) → reads by (BitOr place es ms) ≡ list_any (reads by) es
  unfolding reads_by roll-Expr denote.Hole.Carrier.roll
  reads_bit_or es ms = fold-roll-Expr Bool (reads_form system m bound by) (BitOrForm place es ms) ∙ any_map (reads by) es

  pub reads_bit_xor : (es : List Expr) (ms : List Place) → reads by (BitXor place es ms) ≡ list_any (reads by) es
  unfolding reads_by roll-Expr denote.Hole.Carrier.roll
  reads_bit_xor es ms = fold-roll-Expr Bool (reads_form system m bound by) (BitXorForm place es ms) ∙ any_map (reads by) es

  pub reads_bit_and : (es : List Expr) (ms : List Place) → reads by (BitAnd place es ms) ≡ list_any (reads by) es
  unfolding reads_by roll-Expr denote.Hole.Carrier.roll
  reads_bit_and es ms = fold-roll-Expr Bool (reads_form system m bound by) (BitAndForm place es ms) ∙ any_map (reads by) es

  pub reads_concat : (es : List Expr) (ms : List Place) → reads by (Concat place es ms) ≡ list_any (reads by) es
  unfolding reads_by roll-Expr denote.Hole.Carrier.roll
  reads_concat es ms = fold-roll-Expr Bool (reads_form system m bound by) (ConcatForm place es ms) ∙ any_map (reads by) es

  pub reads_sum : (es : List Expr) (ms : List SumSign) → reads by (Sum place es ms) ≡ list_any (reads by) es
  unfolding reads_by roll-Expr denote.Hole.Carrier.roll
  reads_sum es ms = fold-roll-Expr Bool (reads_form system m bound by) (SumForm place es ms) ∙ any_map (reads by) es

  pub reads_product : (es : List Expr) (ms : List Place) → reads by (Product place es ms) ≡ list_any (reads by) es
  unfolding reads_by roll-Expr denote.Hole.Carrier.roll
  reads_product es ms = fold-roll-Expr Bool (reads_form system m bound by) (ProductForm place es ms) ∙ any_map (reads by) es

  pub reads_compare : (how : Comparison) (mark : Place) (a b : Expr) → reads by (Compare place how mark a b) ≡ (reads by a || reads by b)
  unfolding reads_by roll-Expr denote.Hole.Carrier.roll
  reads_compare how mark a b = fold-roll-Expr Bool (reads_form system m bound by) (CompareForm place how mark a b)

  pub reads_unary : (operator : UnaryOperator) (e : Expr) → reads by (Unary place operator e) ≡ reads by e
  unfolding reads_by roll-Expr denote.Hole.Carrier.roll
  reads_unary operator e = fold-roll-Expr Bool (reads_form system m bound by) (UnaryForm place operator e)

  branches_are : (bs : List (Branch Expr)) (otherwise : Expr) → list_any (λ b. b.condition || b.value) (branches_of (parts (IfForm place bs otherwise))) ≡ list_any (branch_by (reads by)) bs
  unfolding branches_of
  branches_are [] otherwise = refl
  branches_are (b ∷ bs) otherwise = ap (λ z. (reads by b.condition || reads by b.value) || z) (branches_are bs otherwise)

  pub reads_if : (bs : List (Branch Expr)) (otherwise : Expr) → reads by (If place bs otherwise) ≡ (list_any (branch_by (reads by)) bs || reads by otherwise)
  unfolding reads_by roll-Expr denote.Hole.Carrier.roll branches_of
  reads_if bs otherwise = fold-roll-Expr Bool (reads_form system m bound by) (IfForm place bs otherwise) ∙ ap (λ z. z || reads by otherwise) (branches_are bs otherwise)

  primary_is : (p : Primary Expr) (ss : List (Selection Expr)) → primary_reads system m bound by (primary_of (parts (SelectedForm place p ss))) ≡ primary_by system m bound by (reads by) p
  unfolding primary_of
  primary_is (Truth b) ss = refl
  primary_is (Number n) ss = refl
  primary_is (BitsLiteral n w) ss = refl
  primary_is (Name x primed) ss = refl
  primary_is (Apply x es) ss = ap (λ z. by x || z) (any_map (reads by) es)
  primary_is (OnBits k es) ss = any_map (reads by) es
  primary_is (Old i) ss = refl
  primary_is (Grouped e) ss = refl

  selections_are : (p : Primary Expr) (ss : List (Selection Expr)) → list_any selection_reads (selections_of (parts (SelectedForm place p ss))) ≡ list_any (selection_by (reads by)) ss
  unfolding selections_of
  selections_are p [] = refl
  selections_are p (Field q i ∷ ss) = selections_are p ss
  selections_are p (Copy q k ∷ ss) = selections_are p ss
  selections_are p (Element q e ∷ ss) = ap (λ z. reads by e || z) (selections_are p ss)
  selections_are p (Update q e v ∷ ss) = ap (λ z. (reads by e || reads by v) || z) (selections_are p ss)
  selections_are p (Extract q a b ∷ ss) = selections_are p ss

  pub reads_selected : (p : Primary Expr) (ss : List (Selection Expr)) → reads by (Selected place p ss) ≡ (primary_by system m bound by (reads by) p || list_any (selection_by (reads by)) ss)
  unfolding reads_by roll-Expr denote.Hole.Carrier.roll primary_of selections_of
  reads_selected p ss =
      fold-roll-Expr Bool (reads_form system m bound by) (SelectedForm place p ss)
      ∙ ap (λ z. z || list_any selection_reads (selections_of (parts (SelectedForm place p ss)))) (primary_is p ss)
      ∙ ap (λ z. primary_by system m bound by (reads by) p || z) (selections_are p ss)
