-- The shape of each form of expression.
use Rattle.std.proofs.Common.{◌≡◌, ℕ, ◌+◌, ◌<◌, ◌≤◌, Bool, List, [], ◌∷◌, ◌++◌, map, refl, ap, ◌∙◌, sym, subst, arith, append_assoc, Bor}
use Rattle.std.specs.List.{flat_map}
use Rattle.uc_lexer.specs.declared.place.Place.{Place}
use Rattle.uc_syntax.specs.declared.place.Identifier.{Identifier}
use Rattle.uc_syntax.specs.declared.expression.Expr.{Expr}
use Rattle.uc_syntax.specs.declared.expression.Expr.TheOpen.{Expr-F}
use Rattle.uc_syntax.specs.declared.expression.Expr.TheOpen.Expr-F.{If as IfForm, Iff as IffForm, Implies as ImpliesForm, Or as OrForm, And as AndForm, Compare as CompareForm, BitOr as BitOrForm, BitXor as BitXorForm, BitAnd as BitAndForm, Concat as ConcatForm, Sum as SumForm, Product as ProductForm, Unary as UnaryForm, Selected as SelectedForm}
use Rattle.uc_syntax.specs.declared.expression.Expr.TheViews.{roll-Expr, If, Iff, Implies, Or, And, Compare, BitOr, BitXor, BitAnd, Concat, Sum, Product, Unary, Selected}
use Rattle.uc_syntax.specs.declared.expression.Expr.TheFolds.{fold-Expr, fold-roll-Expr, map-Expr}
use Rattle.uc_syntax.specs.declared.expression.Branch.{Branch}
use Rattle.uc_syntax.specs.declared.expression.Primary.{Primary}
use Rattle.uc_syntax.specs.declared.expression.Primary.TheVariants.{Truth, Number, BitsLiteral, Name, Apply, OnBits, Old, Grouped}
use Rattle.uc_syntax.specs.declared.expression.Selection.{Selection}
use Rattle.uc_syntax.specs.declared.expression.Selection.TheVariants.{Field, Copy, Element, Update, Extract}
use Rattle.uc_syntax.specs.declared.expression.Comparison.{Comparison}
use Rattle.uc_syntax.specs.declared.expression.UnaryOperator.{UnaryOperator}
use Rattle.uc_syntax.specs.declared.expression.SumSign.{SumSign}
use Rattle.uc_syntax.proofs.Added.{append_nil}
use Rattle.uc_values.specs.declared.ty.Ty.{Ty}
use Rattle.uc_values.specs.declared.ty.Ty.TheVariants.{Bv as bits_type}
use Rattle.uc_values.specs.declared.value.Value.{Value}
use Rattle.uc_meaning.specs.declared.scope.Scope.{Scope}
use Rattle.uc_meaning.specs.declared.overflow.Wide.{Wide}
use Rattle.uc_meaning.specs.Lookup.{System}
use Rattle.uc_meaning.specs.Operators.{any_holds, all_hold, implied, equivalent, chained, product, summed, concatenated, unary, compared}
use Rattle.uc_meaning.specs.Expressions.{Part, Reading, reads, reads_truth, reading_form, reading_by, reading_through, name, selected, applied, applied_reading, on_bits_reading, reached, select_all, at_entry}
use Rattle.uc_meaning.specs.Overflow.{Traced, traced_form, met_by, met_through, name_met, applied_met, operations_of_sum, operations_of_product, unary_operations, selections_met, selected_met}
use Rattle.uc_meaning.proofs.Equations.{map-map}
use Rattle.uc_values.specs.Operators.{bv_or, bv_xor, bv_and}
use Rattle.uc_meaning.specs.declared.shape.Chain.{Chain}
use Rattle.uc_meaning.specs.declared.shape.Chain.TheVariants.{Iff as iff, Implies as implies, Or as or, And as and, BitOr as bit_or, BitXor as bit_xor, BitAnd as bit_and, Concat as concat, Sum as sum, Product as times}
use Rattle.uc_meaning.specs.Levels.{reading_at, type_at, value_at, met_at, chosen_at, chosen_met_at, select_all_at, selections_met_at, head_reading, head_rest, head_met}
use Rattle.uc_meaning.specs.Shapes.{IsChain, IsChosen, IsCompared, IsApplied, IsSelected, chain_reading, chain_operations, first_of, widths, total, size, size_form, sizes, branch_size, selection_size, selections_size, selection_weight, primary_size, primary_weight}
use Rattle.uc_meaning.proofs.Joined.{part, traced, traced_is, values_are, first_is, widths_are, value_is, traced_are, all_are, chosen_is, chosen_meets, selected_is, selections_meet, reached_is, inside, selections_of, branches_of, primary_of}

abbrev forms : ℕ → System → Expr-F Part → Part
forms n system = reading_form system (reading_through n system)

abbrev meets : ℕ → System → Expr-F Traced → Traced
meets n system = traced_form system (reading_through n system) (met_through n system)

-- a chain whose operands are all there is to it
module _ (place : Place) (es : List Expr) (ms : List Place) where
  pub chain_iff : IsChain (Iff place es ms) iff es
  unfolding reading_by met_by size roll-Expr denote.Hole.Carrier.roll
  chain_iff = record {
    reading = λ n system s. ap (λ f. f s) (fold-roll-Expr Part (forms n system) (IffForm place es ms)) ∙ ap (λ vs. reads_truth (equivalent vs)) (values_are n system s es);
    met = λ n system s. ap (λ t. t.met s) (fold-roll-Expr Traced (meets n system) (IffForm place es ms)) ∙ all_are n system s es ∙ sym (append_nil (flat_map (met_at n system s) es));
    smaller = omega (arith, fold-roll-Expr ℕ size_form (IffForm place es ms));
  }

  pub chain_implies : IsChain (Implies place es ms) implies es
  unfolding reading_by met_by size roll-Expr denote.Hole.Carrier.roll
  chain_implies = record {
    reading = λ n system s. ap (λ f. f s) (fold-roll-Expr Part (forms n system) (ImpliesForm place es ms)) ∙ ap (λ vs. reads_truth (implied vs)) (values_are n system s es);
    met = λ n system s. ap (λ t. t.met s) (fold-roll-Expr Traced (meets n system) (ImpliesForm place es ms)) ∙ all_are n system s es ∙ sym (append_nil (flat_map (met_at n system s) es));
    smaller = omega (arith, fold-roll-Expr ℕ size_form (ImpliesForm place es ms));
  }

  pub chain_or : IsChain (Or place es ms) or es
  unfolding reading_by met_by size roll-Expr denote.Hole.Carrier.roll
  chain_or = record {
    reading = λ n system s. ap (λ f. f s) (fold-roll-Expr Part (forms n system) (OrForm place es ms)) ∙ ap (λ vs. reads_truth (any_holds vs)) (values_are n system s es);
    met = λ n system s. ap (λ t. t.met s) (fold-roll-Expr Traced (meets n system) (OrForm place es ms)) ∙ all_are n system s es ∙ sym (append_nil (flat_map (met_at n system s) es));
    smaller = omega (arith, fold-roll-Expr ℕ size_form (OrForm place es ms));
  }

  pub chain_and : IsChain (And place es ms) and es
  unfolding reading_by met_by size roll-Expr denote.Hole.Carrier.roll
  chain_and = record {
    reading = λ n system s. ap (λ f. f s) (fold-roll-Expr Part (forms n system) (AndForm place es ms)) ∙ ap (λ vs. reads_truth (all_hold vs)) (values_are n system s es);
    met = λ n system s. ap (λ t. t.met s) (fold-roll-Expr Traced (meets n system) (AndForm place es ms)) ∙ all_are n system s es ∙ sym (append_nil (flat_map (met_at n system s) es));
    smaller = omega (arith, fold-roll-Expr ℕ size_form (AndForm place es ms));
  }

  pub chain_bit_or : IsChain (BitOr place es ms) bit_or es
  unfolding reading_by met_by size roll-Expr denote.Hole.Carrier.roll
  chain_bit_or = record {
    reading = λ n system s. ap (λ f. f s) (fold-roll-Expr Part (forms n system) (BitOrForm place es ms))
        ∙ (λ k. reads (first_is n system s es k) (chained bv_or (values_are n system s es k)));
    met = λ n system s. ap (λ t. t.met s) (fold-roll-Expr Traced (meets n system) (BitOrForm place es ms)) ∙ all_are n system s es ∙ sym (append_nil (flat_map (met_at n system s) es));
    smaller = omega (arith, fold-roll-Expr ℕ size_form (BitOrForm place es ms));
  }

  pub chain_bit_xor : IsChain (BitXor place es ms) bit_xor es
  unfolding reading_by met_by size roll-Expr denote.Hole.Carrier.roll
  chain_bit_xor = record {
    reading = λ n system s. ap (λ f. f s) (fold-roll-Expr Part (forms n system) (BitXorForm place es ms))
        ∙ (λ k. reads (first_is n system s es k) (chained bv_xor (values_are n system s es k)));
    met = λ n system s. ap (λ t. t.met s) (fold-roll-Expr Traced (meets n system) (BitXorForm place es ms)) ∙ all_are n system s es ∙ sym (append_nil (flat_map (met_at n system s) es));
    smaller = omega (arith, fold-roll-Expr ℕ size_form (BitXorForm place es ms));
  }

  pub chain_bit_and : IsChain (BitAnd place es ms) bit_and es
  unfolding reading_by met_by size roll-Expr denote.Hole.Carrier.roll
  chain_bit_and = record {
    reading = λ n system s. ap (λ f. f s) (fold-roll-Expr Part (forms n system) (BitAndForm place es ms))
        ∙ (λ k. reads (first_is n system s es k) (chained bv_and (values_are n system s es k)));
    met = λ n system s. ap (λ t. t.met s) (fold-roll-Expr Traced (meets n system) (BitAndForm place es ms)) ∙ all_are n system s es ∙ sym (append_nil (flat_map (met_at n system s) es));
    smaller = omega (arith, fold-roll-Expr ℕ size_form (BitAndForm place es ms));
  }

  pub chain_concat : IsChain (Concat place es ms) concat es
  unfolding reading_by met_by size roll-Expr denote.Hole.Carrier.roll
  chain_concat = record {
    reading = λ n system s. ap (λ f. f s) (fold-roll-Expr Part (forms n system) (ConcatForm place es ms))
        ∙ (λ k. reads (bits_type (widths_are n system s es k)) (chained concatenated (values_are n system s es k)));
    met = λ n system s. ap (λ t. t.met s) (fold-roll-Expr Traced (meets n system) (ConcatForm place es ms)) ∙ all_are n system s es ∙ sym (append_nil (flat_map (met_at n system s) es));
    smaller = omega (arith, fold-roll-Expr ℕ size_form (ConcatForm place es ms));
  }

  pub chain_product : IsChain (Product place es ms) times es
  unfolding reading_by met_by size roll-Expr denote.Hole.Carrier.roll
  chain_product = record {
    reading = λ n system s. ap (λ f. f s) (fold-roll-Expr Part (forms n system) (ProductForm place es ms))
        ∙ (λ k. reads (first_is n system s es k) (chained product (values_are n system s es k)));
    met = λ n system s. ap (λ t. t.met s) (fold-roll-Expr Traced (meets n system) (ProductForm place es ms)) ∙ (λ k. all_are n system s es k ++ operations_of_product (traced_are n system s es k));
    smaller = omega (arith, fold-roll-Expr ℕ size_form (ProductForm place es ms));
  }

pub chain_sum : (place : Place) (es : List Expr) (signs : Bor (List SumSign)) (ss : List SumSign) → signs.now ≡ ss → IsChain (Sum place es ss) (sum signs) es
unfolding reading_by met_by size roll-Expr denote.Hole.Carrier.roll
chain_sum place es signs ss is = record {
  reading = λ n system s. ap (λ f. f s) (fold-roll-Expr Part (forms n system) (SumForm place es ss))
      ∙ (λ k. reads (first_is n system s es k) (summed (sym is k) (values_are n system s es k)));
  met = λ n system s. ap (λ t. t.met s) (fold-roll-Expr Traced (meets n system) (SumForm place es ss)) ∙ (λ k. all_are n system s es k ++ operations_of_sum (sym is k) (traced_are n system s es k));
  smaller = omega (arith, fold-roll-Expr ℕ size_form (SumForm place es ss));
}

pub shape_compare : (place : Place) (how : Comparison) (mark : Place) (a b : Expr) → IsCompared (Compare place how mark a b) how a b
unfolding reading_by met_by size roll-Expr denote.Hole.Carrier.roll
shape_compare place how mark a b = record {
  reading = λ n system s. ap (λ f. f s) (fold-roll-Expr Part (forms n system) (CompareForm place how mark a b));
  met = λ n system s. ap (λ t. t.met s) (fold-roll-Expr Traced (meets n system) (CompareForm place how mark a b));
  smaller = omega (arith, fold-roll-Expr ℕ size_form (CompareForm place how mark a b));
}

pub shape_unary : (place : Place) (operator : UnaryOperator) (a : Expr) → IsApplied (Unary place operator a) operator a
unfolding reading_by met_by size roll-Expr denote.Hole.Carrier.roll
shape_unary place operator a = record {
  reading = λ n system s. ap (λ f. f s) (fold-roll-Expr Part (forms n system) (UnaryForm place operator a));
  met = λ n system s. ap (λ t. t.met s) (fold-roll-Expr Traced (meets n system) (UnaryForm place operator a))
      ∙ ap (λ v. met_at n system s a ++ unary_operations operator v) (value_is n system s a);
  smaller = omega (arith, fold-roll-Expr ℕ size_form (UnaryForm place operator a));
}

branch_sizes : (place : Place) (bs : List (Branch Expr)) (z : Expr) →
    total (map (λ b. b.condition + b.value) (branches_of (map-Expr Expr ℕ size (IfForm place bs z)))) ≡ total (map branch_size bs)
unfolding total
branch_sizes place [] z = refl
branch_sizes place (b ∷ bs) z = ap (λ k. branch_size b + k) (branch_sizes place bs z)

pub shape_if : (place : Place) (bs : List (Branch Expr)) (otherwise : Expr) → IsChosen (If place bs otherwise) bs otherwise
unfolding reading_by met_by size roll-Expr denote.Hole.Carrier.roll
shape_if place bs otherwise = record {
  reading = λ n system s. ap (λ f. f s) (fold-roll-Expr Part (forms n system) (IfForm place bs otherwise)) ∙ chosen_is n system s place bs otherwise otherwise;
  met = λ n system s. ap (λ t. t.met s) (fold-roll-Expr Traced (meets n system) (IfForm place bs otherwise)) ∙ chosen_meets n system s place bs otherwise otherwise;
  smaller = omega (arith, fold-roll-Expr ℕ size_form (IfForm place bs otherwise), branch_sizes place bs otherwise);
}

selection_sizes : (place : Place) (primary : Primary Expr) (xs : List (Selection Expr)) →
    total (map selection_weight (inside size place primary xs)) ≡ selections_size xs
unfolding total
selection_sizes place primary [] = refl
selection_sizes place primary (Field q y ∷ xs) = ap (λ n. 0 + n) (selection_sizes place primary xs)
selection_sizes place primary (Copy q k ∷ xs) = ap (λ n. 0 + n) (selection_sizes place primary xs)
selection_sizes place primary (Element q i ∷ xs) = ap (λ k. size i + k) (selection_sizes place primary xs)
selection_sizes place primary (Update q i v ∷ xs) = ap (λ k. (size i + size v) + k) (selection_sizes place primary xs)
selection_sizes place primary (Extract q h l ∷ xs) = ap (λ n. 0 + n) (selection_sizes place primary xs)

primary_sizes : (place : Place) (primary : Primary Expr) (xs : List (Selection Expr)) →
    primary_weight (primary_of (map-Expr Expr ℕ size (SelectedForm place primary xs))) ≡ primary_size primary
primary_sizes place (Truth b) xs = refl
primary_sizes place (Number k) xs = refl
primary_sizes place (BitsLiteral k w) xs = refl
primary_sizes place (Name x primed) xs = refl
primary_sizes place (Apply f es) xs = refl
primary_sizes place (OnBits f es) xs = refl
primary_sizes place (Old x) xs = refl
primary_sizes place (Grouped e) xs = refl

module _ (n : ℕ) (system : System) (s : Scope) (place : Place) where
  abbrev els : Scope → Expr → Reading
  els = reading_through n system

  selected_reads : (primary : Primary Expr) (xs : List (Selection Expr)) →
      selected system els (primary_of (map-Expr Expr Part (part n system s) (SelectedForm place primary xs))) (inside (part n system s) place primary xs) s
      ≡ select_all_at n system s (head_reading n system s primary xs) (head_rest system s primary xs)
  selected_reads (Truth b) xs = selected_is n system s place (Truth b) _ xs
  selected_reads (Number k) xs = selected_is n system s place (Number k) _ xs
  selected_reads (BitsLiteral k w) xs = selected_is n system s place (BitsLiteral k w) _ xs
  selected_reads (Name x primed) xs =
      ap (λ r. select_all s (name system els r.scope r.name r.primed) r.rest) (reached_is (part n system s) place (Name x primed) system s x primed xs)
      ∙ selected_is n system s place (Name x primed) _ (reached system s x primed xs).rest
  selected_reads (Apply f es) xs =
      ap (λ vs. select_all s (applied_reading els vs (applied system s f vs)) (inside (part n system s) place (Apply f es) xs)) (values_are n system s es)
      ∙ selected_is n system s place (Apply f es) _ xs
  selected_reads (OnBits f es) xs =
      ap (λ rs. select_all s (on_bits_reading f rs) (inside (part n system s) place (OnBits f es) xs)) (map-map (λ p. p s) (part n system s) es)
      ∙ selected_is n system s place (OnBits f es) _ xs
  selected_reads (Old x) xs = selected_is n system s place (Old x) _ xs
  selected_reads (Grouped e) xs = selected_is n system s place (Grouped e) _ xs

  abbrev others : Scope → Expr → List Wide
  others = met_through n system

  selected_meets : (primary : Primary Expr) (xs : List (Selection Expr)) →
      selected_met system others (primary_of (map-Expr Expr Traced (traced n system s) (SelectedForm place primary xs))) (inside (traced n system s) place primary xs) s
      ≡ head_met n system s primary xs ++ selections_met_at n system s (head_rest system s primary xs)
  unfolding met_by
  selected_meets (Truth b) xs = selections_meet n system s place (Truth b) xs
  selected_meets (Number k) xs = selections_meet n system s place (Number k) xs
  selected_meets (BitsLiteral k w) xs = selections_meet n system s place (BitsLiteral k w) xs
  selected_meets (Name x primed) xs =
      ap (λ r. name_met system others r.scope r.name r.primed ++ selections_met s r.rest) (reached_is (traced n system s) place (Name x primed) system s x primed xs)
      ∙ ap (λ ws. head_met n system s (Name x primed) xs ++ ws) (selections_meet n system s place (Name x primed) (reached system s x primed xs).rest)
  selected_meets (Apply f es) xs =
      (λ k. all_are n system s es k ++ (applied_met others (applied system s f (traced_are n system s es k)) ++ selections_meet n system s place (Apply f es) xs k))
      ∙ sym (append_assoc (flat_map (met_at n system s) es) (applied_met others (applied system s f (map (value_at n system s) es))) (selections_met_at n system s xs))
  selected_meets (OnBits f es) xs = (λ k. all_are n system s es k ++ selections_meet n system s place (OnBits f es) xs k)
  selected_meets (Old x) xs = ap (λ ws. head_met n system s (Old x) xs ++ ws) (selections_meet n system s place (Old x) xs)
  selected_meets (Grouped e) xs = ap (λ ws. met_at n system s e ++ ws) (selections_meet n system s place (Grouped e) xs)

pub shape_selected : (place : Place) (primary : Primary Expr) (xs : List (Selection Expr)) → IsSelected (Selected place primary xs) primary xs
unfolding reading_by met_by size roll-Expr denote.Hole.Carrier.roll
shape_selected place primary xs = record {
  reading = λ n system s. ap (λ f. f s) (fold-roll-Expr Part (forms n system) (SelectedForm place primary xs)) ∙ selected_reads n system s place primary xs;
  met = λ n system s. ap (λ t. t.met s) (fold-roll-Expr Traced (meets n system) (SelectedForm place primary xs)) ∙ selected_meets n system s place primary xs;
  smaller = omega (arith, fold-roll-Expr ℕ size_form (SelectedForm place primary xs), primary_sizes place primary xs, selection_sizes place primary xs);
}

-- The shape of an expression, where it is read by its form.
pub as_chain : (e f : Expr) (c : Chain) (es fs : List Expr) → e ≡ f → es ≡ fs → IsChain f c fs → IsChain e c es
as_chain e f c es fs same parts is = subst (λ x. IsChain x c es) (sym same) (subst (IsChain f c) (sym parts) is)

pub as_chosen : (e f : Expr) (bs cs : List (Branch Expr)) (y z : Expr) → e ≡ f → bs ≡ cs → y ≡ z → IsChosen f cs z → IsChosen e bs y
as_chosen e f bs cs y z same parts last is =
    subst (λ x. IsChosen x bs y) (sym same) (subst (λ ds. IsChosen f ds y) (sym parts) (subst (IsChosen f cs) (sym last) is))

pub as_compared : (e f : Expr) (how : Comparison) (a b c d : Expr) → e ≡ f → a ≡ c → b ≡ d → IsCompared f how c d → IsCompared e how a b
as_compared e f how a b c d same left right is =
    subst (λ x. IsCompared x how a b) (sym same) (subst (λ x. IsCompared f how x b) (sym left) (subst (IsCompared f how c) (sym right) is))

pub as_applied : (e f : Expr) (operator : UnaryOperator) (a b : Expr) → e ≡ f → a ≡ b → IsApplied f operator b → IsApplied e operator a
as_applied e f operator a b same operand is = subst (λ x. IsApplied x operator a) (sym same) (subst (IsApplied f operator) (sym operand) is)

pub as_selected : (e f : Expr) (primary : Primary Expr) (xs ys : List (Selection Expr)) → e ≡ f → xs ≡ ys → IsSelected f primary ys → IsSelected e primary xs
as_selected e f primary xs ys same parts is = subst (λ x. IsSelected x primary xs) (sym same) (subst (IsSelected f primary) (sym parts) is)
