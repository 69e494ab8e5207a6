-- The expression over cells of an expression says what the expression says, by induction.
use Rattle.std.proofs.Common.{◌≡◌, ℕ, pos, ◌+◌, ◌-◌, Bool as Truth, List, [], ◌∷◌, ◌++◌, map, Some, None, refl, sym, ap, ◌∙◌, subst}
use Rattle.std.specs.Option.{option_map, option_and_then}
use Rattle.uc_lexer.specs.declared.place.Place.{Place}
use Rattle.uc_syntax.specs.declared.place.Identifier.{Identifier}
use Rattle.uc_syntax.specs.declared.expression.Expr.{Expr}
use Rattle.uc_syntax.specs.declared.expression.Expr.TheOpen.{Expr-F}
use Rattle.uc_syntax.specs.declared.expression.Expr.TheOpen.Expr-F.{If as IfForm, Iff as IffForm, Implies as ImpliesForm, Or as OrForm, And as AndForm, Compare as CompareForm, BitOr as BitOrForm, BitXor as BitXorForm, BitAnd as BitAndForm, Concat as ConcatForm, Sum as SumForm, Product as ProductForm, Unary as UnaryForm, Selected as SelectedForm}
use Rattle.uc_syntax.specs.declared.expression.Expr.TheViews.{roll-Expr, If, Iff, Implies, Or, And, Compare, BitOr, BitXor, BitAnd, Concat, Sum, Product, Unary, Selected}
use Rattle.uc_syntax.specs.declared.expression.Expr.TheFolds.{map-Expr, fold-roll-Expr, ind-Expr}
use Rattle.uc_syntax.specs.declared.expression.Branch.{Branch}
use Rattle.uc_syntax.specs.declared.expression.BitFunction.{BitFunction}
use Rattle.uc_syntax.specs.declared.expression.Comparison.{Comparison}
use Rattle.uc_syntax.specs.declared.expression.UnaryOperator.{UnaryOperator}
use Rattle.uc_syntax.specs.declared.expression.SumSign.{SumSign}
use Rattle.uc_syntax.specs.declared.expression.Primary.{Primary}
use Rattle.uc_syntax.specs.declared.expression.Primary.TheVariants.{Truth as TruthWord, Number, BitsLiteral, Name, Apply as Applied, OnBits, Old, Grouped}
use Rattle.uc_syntax.specs.declared.expression.Selection.{Selection}
use Rattle.uc_syntax.specs.declared.expression.Selection.TheVariants.{Field, Copy, Element, Update, Extract}
use Rattle.uc_values.specs.Operators.{bv_and, bv_or, bv_xor}
use Rattle.uc_values.specs.declared.ty.Ty.{Ty}
use Rattle.uc_values.specs.declared.ty.Ty.TheVariants.{Int, Bv}
use Rattle.uc_values.specs.declared.value.Value.{Value}
use Rattle.uc_values.specs.declared.value.Value.TheVariants.{Int as whole, Bv as word}
use Rattle.uc_ops.specs.declared.model.Model.{Model}
use Rattle.uc_ops.specs.declared.op.Op.TheVariants.{And as AndOp, Or as OrOp}
use Rattle.uc_flat_expressions.specs.declared.typed.TypedExpression.{TypedExpression}
use Rattle.uc_flat_expressions.specs.declared.typed.TypedArm.{TypedArm}
use Rattle.uc_flat_expressions.specs.declared.typed.Meant.{Meant}
use Rattle.uc_flat_expressions.specs.declared.building.Chain.TheVariants.{Equal, Or as OrBits, Xor, And as AndBits, Concat as Joined, Multiply}
use Rattle.uc_flat_expressions.specs.Building.{junction, implication, chain, sum, choice, comparison, unary_of}
use Rattle.uc_flat_expressions.specs.Names.{named}
use Rattle.uc_flat_expressions.specs.Expressions.{MayBe, all_of, arm_of, joined_arms, truth_literal, number_literal, bits_literal, on_two, select_of, select_all_of, flat_of}
use Rattle.uc_flat_expressions.proofs.Forms.{flat_if, flat_iff, flat_implies, flat_or, flat_and, flat_compare, flat_bit_or, flat_bit_xor, flat_bit_and, flat_concat, flat_sum, flat_product, flat_unary, flat_selected}
use Rattle.uc_meaning.specs.declared.scope.Scope.{Scope}
use Rattle.uc_meaning.specs.Lookup.{System}
use Rattle.uc_meaning.specs.Operators.{any_holds, all_hold, implied, equivalent, chained, product, summed, concatenated, unary, compared, extracted}
use Rattle.uc_meaning.specs.Expressions.{Reading, Part, reads, reads_truth, values, first_type, total_width, width, elsewhere, reading_form, reading_by, reading, name, instance_at, field_reading, select_all, if_instance, arrives, reached, at_path, reached_reading, on_bits_reading, chosen}
use Rattle.uc_flat_design.specs.Sayings.{Says, AreMeant}
use Rattle.uc_flat_design.specs.FlatMeaningLaws.{FlatLaw}
use Rattle.uc_flat_design.proofs.FlatMeaningOptions.{some_is, then_some, map_some}
use Rattle.uc_flat_design.proofs.Saying.{values_in, AllTell, says_as}
use Rattle.uc_flat_design.proofs.Junctions.{and_says, or_says, implication_says}
use Rattle.uc_flat_design.proofs.Chains.{type_first, widths, iff_says, bit_or_says, bit_xor_says, bit_and_says, concat_says, sum_says, product_says}
use Rattle.uc_flat_design.proofs.Operators.{unary_says, comparison_says, choice_says}
use Rattle.uc_flat_design.proofs.Selections.{field_says, range_says, on_bits_says}
use Rattle.uc_flat_design.proofs.Literals.{truth_says, number_says, bits_says}

abbrev selections_of : {X : Type 0} → Expr-F X → List (Selection X)
selections_of (SelectedForm p primary selections) = selections
selections_of other = []

abbrev branches_of : {X : Type 0} → Expr-F X → List (Branch X)
branches_of (IfForm p branches otherwise) = branches
branches_of other = []

abbrev arm : TypedExpression → TypedExpression → TypedArm
arm c v = record { condition = c; value = v }

-- what is to show of an expression
abbrev Known : System → Scope → List Ty → Model → List Ty → List Value → List Meant → Expr → Type 0
Known system s constants m types cells names e = (t : TypedExpression) → flat_of names e ≡ Some t → Says constants m types cells (reading system s e) t

module _ (system : System) (s : Scope) (constants : List Ty) (m : Model) (types : List Ty) (cells : List Value) (names : List Meant) (meant : AreMeant system s constants m types cells names) where
  abbrev Shown : Type 0
  Shown = (e : Expr) × Known system s constants m types cells names e

  abbrev shown : List Shown → List Expr
  shown ps = map (λ p. p.0) ps

  abbrev part_of : Expr → Part
  part_of e = reading_by system (elsewhere system) e

  abbrev readings : List Expr → List Reading
  readings es = map (reading system s) es

  values_read : (es : List Expr) → values (map part_of es) s ≡ values_in (readings es)
  values_read [] = refl
  values_read (e ∷ es) = ap (λ vs. (part_of e s).value ∷ vs) (values_read es)

  parts_read : (es : List Expr) → map (λ p. p s) (map part_of es) ≡ readings es
  parts_read [] = refl
  parts_read (e ∷ es) = ap (λ rs. part_of e s ∷ rs) (parts_read es)

  type_read : (es : List Expr) → first_type (map part_of es) s ≡ type_first (readings es)
  type_read [] = refl
  type_read (e ∷ es) = refl

  widths_read : (es : List Expr) → total_width (map part_of es) s ≡ widths (readings es)
  unfolding total_width
  widths_read [] = refl
  widths_read (e ∷ es) = ap (λ k. width (part_of e s).type + k) (widths_read es)

  all_told : (ps : List Shown) (ts : List TypedExpression) → all_of (map (flat_of names) (shown ps)) ≡ Some ts → AllTell constants m types cells (readings (shown ps)) ts
  all_told [] ts h = subst (λ us. AllTell constants m types cells [] us) (some_is [] ts h) tt
  all_told (p ∷ ps) ts h =
      let x = then_some (λ u. option_map (λ us. u ∷ us) (all_of (map (flat_of names) (shown ps)))) (flat_of names p.0) ts h in
      let y = map_some (λ us. x.0 ∷ us) (all_of (map (flat_of names) (shown ps))) ts x.2 in
      subst (λ us. AllTell constants m types cells (readings (shown (p ∷ ps))) us) y.2 (p.1 x.0 x.1, all_told ps y.0 y.1)

  -- a form of parts in a list
  parts_known : (e : Expr) (build : List TypedExpression → MayBe) (r : Reading) (ps : List Shown) → flat_of names e ≡ option_and_then build (all_of (map (flat_of names) (shown ps)))
      → ((ts : List TypedExpression) (t : TypedExpression) → AllTell constants m types cells (readings (shown ps)) ts → build ts ≡ Some t → Says constants m types cells r t)
      → reading system s e ≡ r → Known system s constants m types cells names e
  parts_known e build r ps flat says read t h =
      let x = then_some build (all_of (map (flat_of names) (shown ps))) t (sym flat ∙ h) in
      says_as constants m types cells r (reading system s e) t read (says x.0 t (all_told ps x.0 x.1) x.2)

  iff_known : (place : Place) (ps : List Shown) (marks : List Place) → Known system s constants m types cells names (Iff place (shown ps) marks)
  unfolding reading_by roll-Expr denote.Hole.Carrier.roll
  iff_known place ps marks =
      let es = shown ps in
      parts_known (Iff place es marks) (chain Equal) (reads_truth (equivalent (values_in (readings es)))) ps (flat_iff names place es marks) (iff_says constants m types cells (readings es))
      (ap (λ f. f s) (fold-roll-Expr Part (reading_form system (elsewhere system)) (IffForm place es marks)) ∙ ap (λ vs. reads_truth (equivalent vs)) (values_read es))

  implies_known : (place : Place) (ps : List Shown) (marks : List Place) → Known system s constants m types cells names (Implies place (shown ps) marks)
  unfolding reading_by roll-Expr denote.Hole.Carrier.roll
  implies_known place ps marks =
      let es = shown ps in
      parts_known (Implies place es marks) implication (reads_truth (implied (values_in (readings es)))) ps (flat_implies names place es marks) (implication_says constants m types cells (readings es))
      (ap (λ f. f s) (fold-roll-Expr Part (reading_form system (elsewhere system)) (ImpliesForm place es marks)) ∙ ap (λ vs. reads_truth (implied vs)) (values_read es))

  or_known : (place : Place) (ps : List Shown) (marks : List Place) → Known system s constants m types cells names (Or place (shown ps) marks)
  unfolding reading_by roll-Expr denote.Hole.Carrier.roll
  or_known place ps marks =
      let es = shown ps in
      parts_known (Or place es marks) (junction OrOp) (reads_truth (any_holds (values_in (readings es)))) ps (flat_or names place es marks) (or_says constants m types cells (readings es))
      (ap (λ f. f s) (fold-roll-Expr Part (reading_form system (elsewhere system)) (OrForm place es marks)) ∙ ap (λ vs. reads_truth (any_holds vs)) (values_read es))

  and_known : (place : Place) (ps : List Shown) (marks : List Place) → Known system s constants m types cells names (And place (shown ps) marks)
  unfolding reading_by roll-Expr denote.Hole.Carrier.roll
  and_known place ps marks =
      let es = shown ps in
      parts_known (And place es marks) (junction AndOp) (reads_truth (all_hold (values_in (readings es)))) ps (flat_and names place es marks) (and_says constants m types cells (readings es))
      (ap (λ f. f s) (fold-roll-Expr Part (reading_form system (elsewhere system)) (AndForm place es marks)) ∙ ap (λ vs. reads_truth (all_hold vs)) (values_read es))

  bit_or_known : (place : Place) (ps : List Shown) (marks : List Place) → Known system s constants m types cells names (BitOr place (shown ps) marks)
  unfolding reading_by roll-Expr denote.Hole.Carrier.roll
  bit_or_known place ps marks =
      let es = shown ps in
      parts_known (BitOr place es marks) (chain OrBits) (reads (type_first (readings es)) (chained bv_or (values_in (readings es)))) ps (flat_bit_or names place es marks) (bit_or_says constants m types cells (readings es))
      (ap (λ f. f s) (fold-roll-Expr Part (reading_form system (elsewhere system)) (BitOrForm place es marks))
      ∙ ap (λ u. reads u (chained bv_or (values (map part_of es) s))) (type_read es) ∙ ap (λ vs. reads (type_first (readings es)) (chained bv_or vs)) (values_read es))

  bit_xor_known : (place : Place) (ps : List Shown) (marks : List Place) → Known system s constants m types cells names (BitXor place (shown ps) marks)
  unfolding reading_by roll-Expr denote.Hole.Carrier.roll
  bit_xor_known place ps marks =
      let es = shown ps in
      parts_known (BitXor place es marks) (chain Xor) (reads (type_first (readings es)) (chained bv_xor (values_in (readings es)))) ps (flat_bit_xor names place es marks) (bit_xor_says constants m types cells (readings es))
      (ap (λ f. f s) (fold-roll-Expr Part (reading_form system (elsewhere system)) (BitXorForm place es marks))
      ∙ ap (λ u. reads u (chained bv_xor (values (map part_of es) s))) (type_read es) ∙ ap (λ vs. reads (type_first (readings es)) (chained bv_xor vs)) (values_read es))

  bit_and_known : (place : Place) (ps : List Shown) (marks : List Place) → Known system s constants m types cells names (BitAnd place (shown ps) marks)
  unfolding reading_by roll-Expr denote.Hole.Carrier.roll
  bit_and_known place ps marks =
      let es = shown ps in
      parts_known (BitAnd place es marks) (chain AndBits) (reads (type_first (readings es)) (chained bv_and (values_in (readings es)))) ps (flat_bit_and names place es marks) (bit_and_says constants m types cells (readings es))
      (ap (λ f. f s) (fold-roll-Expr Part (reading_form system (elsewhere system)) (BitAndForm place es marks))
      ∙ ap (λ u. reads u (chained bv_and (values (map part_of es) s))) (type_read es) ∙ ap (λ vs. reads (type_first (readings es)) (chained bv_and vs)) (values_read es))

  product_known : (place : Place) (ps : List Shown) (marks : List Place) → Known system s constants m types cells names (Product place (shown ps) marks)
  unfolding reading_by roll-Expr denote.Hole.Carrier.roll
  product_known place ps marks =
      let es = shown ps in
      parts_known (Product place es marks) (chain Multiply) (reads (type_first (readings es)) (chained product (values_in (readings es)))) ps (flat_product names place es marks) (product_says constants m types cells (readings es))
      (ap (λ f. f s) (fold-roll-Expr Part (reading_form system (elsewhere system)) (ProductForm place es marks))
      ∙ ap (λ u. reads u (chained product (values (map part_of es) s))) (type_read es) ∙ ap (λ vs. reads (type_first (readings es)) (chained product vs)) (values_read es))

  concat_known : (place : Place) (ps : List Shown) (marks : List Place) → Known system s constants m types cells names (Concat place (shown ps) marks)
  unfolding reading_by roll-Expr denote.Hole.Carrier.roll
  concat_known place ps marks =
      let es = shown ps in
      parts_known (Concat place es marks) (chain Joined) (reads (Bv (widths (readings es))) (chained concatenated (values_in (readings es)))) ps (flat_concat names place es marks) (concat_says constants m types cells (readings es))
      (ap (λ f. f s) (fold-roll-Expr Part (reading_form system (elsewhere system)) (ConcatForm place es marks))
      ∙ ap (λ k. reads (Bv k) (chained concatenated (values (map part_of es) s))) (widths_read es) ∙ ap (λ vs. reads (Bv (widths (readings es))) (chained concatenated vs)) (values_read es))

  sum_known : (place : Place) (ps : List Shown) (signs : List SumSign) → Known system s constants m types cells names (Sum place (shown ps) signs)
  unfolding reading_by roll-Expr denote.Hole.Carrier.roll
  sum_known place ps signs =
      let es = shown ps in
      parts_known (Sum place es signs) (sum signs) (reads (type_first (readings es)) (summed signs (values_in (readings es)))) ps (flat_sum names place es signs) (sum_says constants m types cells signs (readings es))
      (ap (λ f. f s) (fold-roll-Expr Part (reading_form system (elsewhere system)) (SumForm place es signs))
      ∙ ap (λ u. reads u (summed signs (values (map part_of es) s))) (type_read es) ∙ ap (λ vs. reads (type_first (readings es)) (summed signs vs)) (values_read es))

  unary_known : (place : Place) (operator : UnaryOperator) (p : Shown) → Known system s constants m types cells names (Unary place operator p.0)
  unfolding reading_by roll-Expr denote.Hole.Carrier.roll
  unary_known place operator p t h =
      let x = then_some (unary_of operator) (flat_of names p.0) t (sym (flat_unary names place operator p.0) ∙ h) in
      let r = reading system s p.0 in
      says_as constants m types cells (reads r.type (unary operator r.value)) (reading system s (Unary place operator p.0)) t
      (ap (λ f. f s) (fold-roll-Expr Part (reading_form system (elsewhere system)) (UnaryForm place operator p.0)))
      (unary_says constants m types cells operator r x.0 t (p.1 x.0 x.1) x.2)

  compare_known : (place : Place) (how : Comparison) (mark : Place) (p q : Shown) → Known system s constants m types cells names (Compare place how mark p.0 q.0)
  unfolding reading_by roll-Expr denote.Hole.Carrier.roll
  compare_known place how mark p q t h =
      let x = then_some (λ a. option_and_then (λ b. comparison how a b) (flat_of names q.0)) (flat_of names p.0) t (sym (flat_compare names place how mark p.0 q.0) ∙ h) in
      let y = then_some (λ b. comparison how x.0 b) (flat_of names q.0) t x.2 in
      let r = reading system s p.0 in
      let o = reading system s q.0 in
      says_as constants m types cells (reads_truth (compared how r.type r.value o.value)) (reading system s (Compare place how mark p.0 q.0)) t
      (ap (λ f. f s) (fold-roll-Expr Part (reading_form system (elsewhere system)) (CompareForm place how mark p.0 q.0)))
      (comparison_says constants m types cells how r o x.0 y.0 t (p.1 x.0 x.1) (q.1 y.0 y.1) y.2)

  -- conditionals
  abbrev branches : Place → List (Branch Shown) → Shown → List (Branch Expr)
  branches place bs z = branches_of (map-Expr Shown Expr (λ p. p.0) (IfForm place bs z))

  abbrev branch_parts : Place → List (Branch Expr) → Expr → List (Branch Part)
  branch_parts place bs z = branches_of (map-Expr Expr Part part_of (IfForm place bs z))

  arms_told : (place : Place) (bs : List (Branch Shown)) (z : Shown) (arms : List TypedArm) (rest t : TypedExpression) → all_of (map (arm_of (flat_of names)) (branches place bs z)) ≡ Some arms → Says constants m types cells (reading system s z.0) rest
      → joined_arms arms rest ≡ Some t → Says constants m types cells (chosen (branch_parts place (branches place bs z) z.0) (part_of z.0) s) t
  unfolding joined_arms
  arms_told place [] z arms rest t all h e =
      let k : Some rest ≡ Some t = ap (λ xs. joined_arms xs rest) (some_is [] arms all) ∙ e in
      subst (Says constants m types cells (reading system s z.0)) (some_is rest t k) h
  arms_told place (b ∷ bs) z arms rest t all h e =
      let others = all_of (map (arm_of (flat_of names)) (branches place bs z)) in
      let x = then_some (λ a. option_map (λ xs. a ∷ xs) others) (option_and_then (λ c. option_map (λ v. arm c v) (flat_of names b.value.0)) (flat_of names b.condition.0)) arms all in
      let y = map_some (λ xs. x.0 ∷ xs) others arms x.2 in
      let c = then_some (λ c. option_map (λ v. arm c v) (flat_of names b.value.0)) (flat_of names b.condition.0) x.0 x.1 in
      let v = map_some (λ v. arm c.0 v) (flat_of names b.value.0) x.0 c.2 in
      let w = then_some (choice x.0.condition x.0.value) (joined_arms y.0 rest) t (ap (λ xs. joined_arms xs rest) y.2 ∙ e) in
      choice_says constants m types cells (reading system s b.condition.0) (reading system s b.value.0) (chosen (branch_parts place (branches place bs z) z.0) (part_of z.0) s) c.0 v.0 w.0 t
      (b.condition.1 c.0 c.1) (b.value.1 v.0 v.1) (arms_told place bs z y.0 rest w.0 y.1 h w.1)
      (ap (λ (a : TypedArm). choice a.condition a.value w.0) v.2 ∙ w.2)

  if_known : (place : Place) (bs : List (Branch Shown)) (z : Shown) → Known system s constants m types cells names (If place (branches place bs z) z.0)
  unfolding reading_by roll-Expr denote.Hole.Carrier.roll
  if_known place bs z t h =
      let es = branches place bs z in
      let x = then_some (λ rest. option_and_then (λ arms. joined_arms arms rest) (all_of (map (arm_of (flat_of names)) es))) (flat_of names z.0) t (sym (flat_if names place es z.0) ∙ h) in
      let y = then_some (λ arms. joined_arms arms x.0) (all_of (map (arm_of (flat_of names)) es)) t x.2 in
      says_as constants m types cells (chosen (branch_parts place es z.0) (part_of z.0) s) (reading system s (If place es z.0)) t
      (ap (λ f. f s) (fold-roll-Expr Part (reading_form system (elsewhere system)) (IfForm place es z.0)))
      (arms_told place bs z y.0 x.0 t y.1 (z.1 x.0 x.1) y.2)

  -- primaries with selections
  abbrev selected_parts : Place → Primary Expr → List (Selection Expr) → List (Selection Part)
  selected_parts place primary ss = selections_of (map-Expr Expr Part part_of (SelectedForm place primary ss))

  select_told : (place : Place) (primary : Primary Expr) (ss : List (Selection Expr)) (r : Reading) (t u : TypedExpression) → Says constants m types cells r t → select_all_of t ss ≡ Some u
      → Says constants m types cells (select_all s r (selected_parts place primary ss)) u
  unfolding select_all select_all_of
  select_told place primary [] r t u h e = subst (Says constants m types cells r) (some_is t u e) h
  select_told place primary (Field q i ∷ ss) r t u h e =
      let x = then_some (λ v. select_all_of v ss) (select_of {E = Expr} t (Field q i)) u e in
      select_told place primary ss (field_reading r i.name) x.0 u (field_says constants m types cells r t x.0 i.name h x.1) x.2
  select_told place primary (Extract q a b ∷ ss) r t u h e =
      let x = then_some (λ v. select_all_of v ss) (select_of {E = Expr} t (Extract q a b)) u e in
      select_told place primary ss (reads (Bv (a - b + 1)) (extracted a b r.value)) x.0 u (range_says constants m types cells r t x.0 a b h x.1) x.2
  select_told place primary (Copy q k ∷ ss) r t u h e = let none : None ≡ Some u = e in cc
  select_told place primary (Element q i ∷ ss) r t u h e = let none : None ≡ Some u = e in cc
  select_told place primary (Update q i v ∷ ss) r t u h e = let none : None ≡ Some u = e in cc

  reached_here : (place : Place) (primary : Primary Expr) (x : ℕ) (primed : Truth) (ss : List (Selection Expr)) (t u : TypedExpression) → instance_at system s x ≡ None → select_all_of t ss ≡ Some u
      → reached system s x primed (selected_parts place primary ss) ≡ arrives s x primed (selected_parts place primary ss)
  unfolding reached select_all_of
  reached_here place primary x primed [] t u alone e = refl
  reached_here place primary x primed (Field q i ∷ ss) t u alone e =
      let rest = selected_parts place primary ss in
      ap (λ o. if_instance o (reached system (at_path s (s.path ++ x ∷ [])) i.name primed rest) (arrives s x primed (Field q i ∷ rest))) alone
  reached_here place primary x primed (Extract q a b ∷ ss) t u alone e = refl
  reached_here place primary x primed (Copy q k ∷ ss) t u alone e = let none : None ≡ Some u = e in cc
  reached_here place primary x primed (Element q i ∷ ss) t u alone e = refl
  reached_here place primary x primed (Update q i v ∷ ss) t u alone e = refl

  truth_known : (place : Place) (b : Truth) (ss : List (Selection Expr)) → Known system s constants m types cells names (Selected place (TruthWord b) ss)
  unfolding reading_by roll-Expr denote.Hole.Carrier.roll
  truth_known place b ss t h =
      let x = then_some (λ u. select_all_of u ss) (Some (truth_literal b)) t (sym (flat_selected names place (TruthWord b) ss) ∙ h) in
      says_as constants m types cells (select_all s (reads_truth b) (selected_parts place (TruthWord b) ss)) (reading system s (Selected place (TruthWord b) ss)) t
      (ap (λ f. f s) (fold-roll-Expr Part (reading_form system (elsewhere system)) (SelectedForm place (TruthWord b) ss)))
      (select_told place (TruthWord b) ss (reads_truth b) x.0 t (subst (Says constants m types cells (reads_truth b)) (some_is (truth_literal b) x.0 x.1) (truth_says constants m types cells b)) x.2)

  number_known : (place : Place) (k : ℕ) (ss : List (Selection Expr)) → Known system s constants m types cells names (Selected place (Number k) ss)
  unfolding reading_by roll-Expr denote.Hole.Carrier.roll
  number_known place k ss t h =
      let x = then_some (λ u. select_all_of u ss) (number_literal k) t (sym (flat_selected names place (Number k) ss) ∙ h) in
      says_as constants m types cells (select_all s (reads Int (whole (pos k))) (selected_parts place (Number k) ss)) (reading system s (Selected place (Number k) ss)) t
      (ap (λ f. f s) (fold-roll-Expr Part (reading_form system (elsewhere system)) (SelectedForm place (Number k) ss)))
      (select_told place (Number k) ss (reads Int (whole (pos k))) x.0 t (number_says constants m types cells k x.0 x.1) x.2)

  bits_known : (place : Place) (k w : ℕ) (ss : List (Selection Expr)) → Known system s constants m types cells names (Selected place (BitsLiteral k w) ss)
  unfolding reading_by roll-Expr denote.Hole.Carrier.roll
  bits_known place k w ss t h =
      let x = then_some (λ u. select_all_of u ss) (bits_literal k w) t (sym (flat_selected names place (BitsLiteral k w) ss) ∙ h) in
      says_as constants m types cells (select_all s (reads (Bv w) (word w k)) (selected_parts place (BitsLiteral k w) ss)) (reading system s (Selected place (BitsLiteral k w) ss)) t
      (ap (λ f. f s) (fold-roll-Expr Part (reading_form system (elsewhere system)) (SelectedForm place (BitsLiteral k w) ss)))
      (select_told place (BitsLiteral k w) ss (reads (Bv w) (word w k)) x.0 t (bits_says constants m types cells k w x.0 x.1) x.2)

  name_known : (place : Place) (x : ℕ) (primed : Truth) (ss : List (Selection Expr)) → Known system s constants m types cells names (Selected place (Name x primed) ss)
  unfolding reading_by roll-Expr denote.Hole.Carrier.roll
  name_known place x primed ss t h =
      let y = then_some (λ u. select_all_of u ss) (named names x primed) t (sym (flat_selected names place (Name x primed) ss) ∙ h) in
      let known = meant x primed y.0 y.1 in
      let r = name system (elsewhere system) s x primed in
      says_as constants m types cells (select_all s r (selected_parts place (Name x primed) ss)) (reading system s (Selected place (Name x primed) ss)) t
      (ap (λ f. f s) (fold-roll-Expr Part (reading_form system (elsewhere system)) (SelectedForm place (Name x primed) ss))
      ∙ ap (reached_reading system (elsewhere system) s) (reached_here place (Name x primed) x primed ss y.0 t known.alone y.2))
      (select_told place (Name x primed) ss r y.0 t known.says y.2)

  two_told : (function : BitFunction) (rs : List Reading) (ts : List TypedExpression) (t : TypedExpression) → AllTell constants m types cells rs ts → on_two function ts ≡ Some t → Says constants m types cells (on_bits_reading function rs) t
  two_told function rs [] t h e = cc
  two_told function rs (b ∷ []) t h e = cc
  two_told function [] (b ∷ a ∷ []) t h e = absurd h
  two_told function (q ∷ []) (b ∷ a ∷ []) t h e = absurd h.1
  two_told function (q ∷ r ∷ []) (b ∷ a ∷ []) t h e = on_bits_says constants m types cells function q r b a t h.0 h.1.0 e
  two_told function (q ∷ r ∷ (o ∷ rs)) (b ∷ a ∷ []) t h e = absurd h.1.1
  two_told function rs (b ∷ a ∷ (c ∷ ts)) t h e = cc

  on_bits_known : (place : Place) (function : BitFunction) (ps : List Shown) (ss : List (Selection Expr)) → Known system s constants m types cells names (Selected place (OnBits function (shown ps)) ss)
  unfolding reading_by roll-Expr denote.Hole.Carrier.roll
  on_bits_known place function ps ss t h =
      let es = shown ps in
      let primary : Primary Expr = OnBits function es in
      let parts = all_of (map (flat_of names) es) in
      let x = then_some (λ u. select_all_of u ss) (option_and_then (on_two function) parts) t (sym (flat_selected names place primary ss) ∙ h) in
      let y = then_some (on_two function) parts x.0 x.1 in
      let r = on_bits_reading function (readings es) in
      says_as constants m types cells (select_all s r (selected_parts place primary ss)) (reading system s (Selected place primary ss)) t
      (ap (λ f. f s) (fold-roll-Expr Part (reading_form system (elsewhere system)) (SelectedForm place primary ss))
      ∙ ap (λ rs. select_all s (on_bits_reading function rs) (selected_parts place primary ss)) (parts_read es))
      (select_told place primary ss r x.0 t (two_told function (readings es) y.0 x.0 (all_told ps y.0 y.1) y.2) x.2)

  grouped_known : (place : Place) (p : Shown) (ss : List (Selection Expr)) → Known system s constants m types cells names (Selected place (Grouped p.0) ss)
  unfolding reading_by roll-Expr denote.Hole.Carrier.roll
  grouped_known place p ss t h =
      let primary : Primary Expr = Grouped p.0 in
      let x = then_some (λ u. select_all_of u ss) (flat_of names p.0) t (sym (flat_selected names place primary ss) ∙ h) in
      says_as constants m types cells (select_all s (reading system s p.0) (selected_parts place primary ss)) (reading system s (Selected place primary ss)) t
      (ap (λ f. f s) (fold-roll-Expr Part (reading_form system (elsewhere system)) (SelectedForm place primary ss)))
      (select_told place primary ss (reading system s p.0) x.0 t (p.1 x.0 x.1) x.2)

  -- an application and a value of before have none
  applied_known : (place : Place) (x : ℕ) (es : List Expr) (ss : List (Selection Expr)) → Known system s constants m types cells names (Selected place (Applied x es) ss)
  applied_known place x es ss t h = let e : None ≡ Some t = sym (flat_selected names place (Applied x es) ss) ∙ h in cc

  old_known : (place : Place) (i : Identifier) (ss : List (Selection Expr)) → Known system s constants m types cells names (Selected place (Old i) ss)
  old_known place i ss t h = let e : None ≡ Some t = sym (flat_selected names place (Old i) ss) ∙ h in cc

  layer : (y : Expr-F Shown) → Known system s constants m types cells names (roll-Expr (map-Expr Shown Expr (λ p. p.0) y))
  unfolding roll-Expr denote.Hole.Carrier.roll
  layer (IfForm place bs z) = if_known place bs z
  layer (IffForm place ps marks) = iff_known place ps marks
  layer (ImpliesForm place ps marks) = implies_known place ps marks
  layer (OrForm place ps marks) = or_known place ps marks
  layer (AndForm place ps marks) = and_known place ps marks
  layer (CompareForm place how mark p q) = compare_known place how mark p q
  layer (BitOrForm place ps marks) = bit_or_known place ps marks
  layer (BitXorForm place ps marks) = bit_xor_known place ps marks
  layer (BitAndForm place ps marks) = bit_and_known place ps marks
  layer (ConcatForm place ps marks) = concat_known place ps marks
  layer (SumForm place ps signs) = sum_known place ps signs
  layer (ProductForm place ps marks) = product_known place ps marks
  layer (UnaryForm place operator p) = unary_known place operator p
  layer (SelectedForm place (TruthWord b) ss) = truth_known place b _
  layer (SelectedForm place (Number k) ss) = number_known place k _
  layer (SelectedForm place (BitsLiteral k w) ss) = bits_known place k w _
  layer (SelectedForm place (Name x primed) ss) = name_known place x primed _
  layer (SelectedForm place (OnBits function ps) ss) = on_bits_known place function ps _
  layer (SelectedForm place (Grouped p) ss) = grouped_known place p _
  layer (SelectedForm place (Applied x ps) ss) = applied_known place x _ _
  layer (SelectedForm place (Old i) ss) = old_known place i _

  known : (e : Expr) → Known system s constants m types cells names e
  known = ind-Expr (Known system s constants m types cells names) (λ x y is. subst (λ z. Known system s constants m types cells names (roll-Expr z)) is (layer y))

pub flat_says : FlatLaw
flat_says system s constants m types cells names e t meant h = known system s constants m types cells names meant e t h
