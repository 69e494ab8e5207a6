-- What each form of an expression is judged to be, by its parts.
use Rattle.std.proofs.Common.{◌≡◌, ℕ, Bool, List, [], ◌∷◌, ◌++◌, map, refl, ap, ◌∙◌}
use Rattle.uc_lexer.specs.declared.place.Place.{Place}
use Rattle.uc_syntax.specs.declared.expression.Expr.{Expr}
use Rattle.uc_syntax.specs.declared.expression.Branch.{Branch}
use Rattle.uc_syntax.specs.declared.expression.Comparison.{Comparison}
use Rattle.uc_syntax.specs.declared.expression.SumSign.{SumSign}
use Rattle.uc_syntax.specs.declared.expression.UnaryOperator.{UnaryOperator}
use Rattle.uc_syntax.specs.declared.expression.Expr.TheOpen.{Expr-F}
use Rattle.uc_syntax.specs.declared.expression.Expr.TheOpen.Expr-F.{If as IfForm, Iff as IffForm, Implies as ImpliesForm, Or as OrForm, And as AndForm, Compare as CompareForm, BitOr as BitOrForm, BitXor as BitXorForm, BitAnd as BitAndForm, Concat as ConcatForm, Sum as SumForm, Product as ProductForm, Unary as UnaryForm}
use Rattle.uc_syntax.specs.declared.expression.Expr.TheViews.{roll-Expr, If, Iff, Implies, Or, And, Compare, BitOr, BitXor, BitAnd, Concat, Sum, Product, Unary}
use Rattle.uc_syntax.specs.declared.expression.Expr.TheFolds.{fold-roll-Expr, map-Expr}
use Rattle.uc_rules.specs.declared.rows.Chain.TheVariants.{Boolean, Number, Bits, Concat as Widths}
use Rattle.uc_rules.specs.Rows.{comparison}
use Rattle.uc_rules.specs.Expressions.{Context, Judged, Part, chain_from_right, chain_judged, chained, faults_of, if_judged, judged, judged_all, judged_form, judges, own, product_judged, product_own, types_of, unary_judged}
use Rattle.uc_expression_rules.specs.Parts.{branch_parts}
use Rattle.uc_expression_rules.specs.Judging.{parts_judged, product_found}

pub all_parts : (c : Context) (es : List Expr) → judged_all (map judged es) c ≡ parts_judged c es
all_parts c [] = refl
all_parts c (e ∷ es) = ap (λ js. judged e c ∷ js) (all_parts c es)

plains_are : (c : Context) (es : List Expr) → map (λ (p : Judged). p.plain) (parts_judged c es) ≡ map (λ e. (judged e c).plain) es
plains_are c [] = refl
plains_are c (e ∷ es) = ap (λ bs. (judged e c).plain ∷ bs) (plains_are c es)

branches_of : {X : Type 0} → Expr-F X → List (Branch X)
branches_of (IfForm p bs otherwise) = bs
branches_of other = []

module _ (c : Context) (place : Place) where
  abbrev if_layer : List (Branch Expr) → Expr → Expr-F Part
  if_layer bs otherwise = map-Expr Expr Part judged (IfForm place bs otherwise)

  branches_are : (bs : List (Branch Expr)) (otherwise : Expr) → branches_of (if_layer bs otherwise) ≡ map branch_parts bs
  unfolding branches_of
  branches_are [] otherwise = refl
  branches_are (b ∷ bs) otherwise = ap (λ xs. branch_parts b ∷ xs) (branches_are bs otherwise)

  pub judged_if : (bs : List (Branch Expr)) (otherwise : Expr) → judged (If place bs otherwise) c ≡ if_judged place (map branch_parts bs) (judged otherwise c) c
  unfolding judged roll-Expr denote.Hole.Carrier.roll branches_of
  judged_if bs otherwise =
      ap (λ (p : Part). p c) (fold-roll-Expr Part judged_form (IfForm place bs otherwise))
      ∙ ap (λ xs. if_judged place xs (judged otherwise c) c) (branches_are bs otherwise)

  pub judged_iff : (es : List Expr) (ms : List Place) → judged (Iff place es ms) c ≡ chain_judged Boolean place (parts_judged c es) ms
  unfolding judged roll-Expr denote.Hole.Carrier.roll
  judged_iff es ms = ap (λ (p : Part). p c) (fold-roll-Expr Part judged_form (IffForm place es ms)) ∙ ap (λ js. chain_judged Boolean place js ms) (all_parts c es)

  pub judged_implies : (es : List Expr) (ms : List Place) → judged (Implies place es ms) c ≡ chain_from_right Boolean place (parts_judged c es) ms
  unfolding judged roll-Expr denote.Hole.Carrier.roll
  judged_implies es ms = ap (λ (p : Part). p c) (fold-roll-Expr Part judged_form (ImpliesForm place es ms)) ∙ ap (λ js. chain_from_right Boolean place js ms) (all_parts c es)

  pub judged_or : (es : List Expr) (ms : List Place) → judged (Or place es ms) c ≡ chain_judged Boolean place (parts_judged c es) ms
  unfolding judged roll-Expr denote.Hole.Carrier.roll
  judged_or es ms = ap (λ (p : Part). p c) (fold-roll-Expr Part judged_form (OrForm place es ms)) ∙ ap (λ js. chain_judged Boolean place js ms) (all_parts c es)

  pub judged_and : (es : List Expr) (ms : List Place) → judged (And place es ms) c ≡ chain_judged Boolean place (parts_judged c es) ms
  unfolding judged roll-Expr denote.Hole.Carrier.roll
  judged_and es ms = ap (λ (p : Part). p c) (fold-roll-Expr Part judged_form (AndForm place es ms)) ∙ ap (λ js. chain_judged Boolean place js ms) (all_parts c es)

  pub judged_bit_or : (es : List Expr) (ms : List Place) → judged (BitOr place es ms) c ≡ chain_judged Bits place (parts_judged c es) ms
  unfolding judged roll-Expr denote.Hole.Carrier.roll
  judged_bit_or es ms = ap (λ (p : Part). p c) (fold-roll-Expr Part judged_form (BitOrForm place es ms)) ∙ ap (λ js. chain_judged Bits place js ms) (all_parts c es)

  pub judged_bit_xor : (es : List Expr) (ms : List Place) → judged (BitXor place es ms) c ≡ chain_judged Bits place (parts_judged c es) ms
  unfolding judged roll-Expr denote.Hole.Carrier.roll
  judged_bit_xor es ms = ap (λ (p : Part). p c) (fold-roll-Expr Part judged_form (BitXorForm place es ms)) ∙ ap (λ js. chain_judged Bits place js ms) (all_parts c es)

  pub judged_bit_and : (es : List Expr) (ms : List Place) → judged (BitAnd place es ms) c ≡ chain_judged Bits place (parts_judged c es) ms
  unfolding judged roll-Expr denote.Hole.Carrier.roll
  judged_bit_and es ms = ap (λ (p : Part). p c) (fold-roll-Expr Part judged_form (BitAndForm place es ms)) ∙ ap (λ js. chain_judged Bits place js ms) (all_parts c es)

  pub judged_concat : (es : List Expr) (ms : List Place) → judged (Concat place es ms) c ≡ chain_judged Widths place (parts_judged c es) ms
  unfolding judged roll-Expr denote.Hole.Carrier.roll
  judged_concat es ms = ap (λ (p : Part). p c) (fold-roll-Expr Part judged_form (ConcatForm place es ms)) ∙ ap (λ js. chain_judged Widths place js ms) (all_parts c es)

  pub judged_sum : (es : List Expr) (ms : List SumSign) → judged (Sum place es ms) c ≡ chain_judged Number place (parts_judged c es) (map (λ s. s.place) ms)
  unfolding judged roll-Expr denote.Hole.Carrier.roll
  judged_sum es ms = ap (λ (p : Part). p c) (fold-roll-Expr Part judged_form (SumForm place es ms)) ∙ ap (λ js. chain_judged Number place js (map (λ s. s.place) ms)) (all_parts c es)

  pub judged_product : (es : List Expr) (ms : List Place) → judged (Product place es ms) c ≡ judges place (faults_of (parts_judged c es)) (product_found c es ms)
  unfolding judged roll-Expr denote.Hole.Carrier.roll
  judged_product es ms =
      ap (λ (p : Part). p c) (fold-roll-Expr Part judged_form (ProductForm place es ms))
      ∙ ap (λ js. product_judged place js ms) (all_parts c es)
      ∙ ap (λ ps. judges place (faults_of (parts_judged c es)) (product_own ms (types_of (parts_judged c es)) ps)) (plains_are c es)

  pub judged_compare : (how : Comparison) (mark : Place) (a b : Expr) →
      judged (Compare place how mark a b) c ≡ judges place ((judged a c).faults ++ (judged b c).faults) (own mark (comparison how (judged a c).type (judged b c).type))
  unfolding judged roll-Expr denote.Hole.Carrier.roll
  judged_compare how mark a b = ap (λ (p : Part). p c) (fold-roll-Expr Part judged_form (CompareForm place how mark a b))

  pub judged_unary : (operator : UnaryOperator) (e : Expr) → judged (Unary place operator e) c ≡ unary_judged place operator (judged e c)
  unfolding judged roll-Expr denote.Hole.Carrier.roll
  judged_unary operator e = ap (λ (p : Part). p c) (fold-roll-Expr Part judged_form (UnaryForm place operator e))
