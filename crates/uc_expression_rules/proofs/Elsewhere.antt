-- What is said of the forms that are no primary.
use Rattle.std.proofs.Common.{rules, ◌≡◌, ℕ, Bool, true, false, List, Option, Some, None, refl, ap, ◌∙◌, sym}
use Rattle.uc_lexer.specs.declared.place.Place.{Place}
use Rattle.uc_syntax.specs.declared.expression.Expr.{Expr}
use Rattle.uc_syntax.specs.declared.expression.Primary.{Primary}
use Rattle.uc_syntax.specs.declared.expression.Selection.{Selection}
use Rattle.uc_syntax.specs.declared.expression.UnaryOperator.{UnaryOperator}
use Rattle.uc_syntax.specs.declared.expression.Expr.TheOpen.{Expr-F}
use Rattle.uc_syntax.specs.declared.expression.Expr.TheOpen.Expr-F.{If as IfForm, Iff as IffForm, Implies as ImpliesForm, Or as OrForm, And as AndForm, Compare as CompareForm, BitOr as BitOrForm, BitXor as BitXorForm, BitAnd as BitAndForm, Concat as ConcatForm, Sum as SumForm, Product as ProductForm, Unary as UnaryForm, Selected as SelectedForm}
use Rattle.uc_syntax.specs.declared.expression.Expr.TheViews.{roll-Expr, out-Expr, Unary, Selected, the_lemmas}
use Rattle.uc_values.specs.declared.ty.Ty.{Ty}
use Rattle.uc_rules.specs.declared.fault.Fault.{Fault}
use Rattle.uc_rules.specs.Expressions.{Context, Judged, judged}
use Rattle.uc_expression_rules.proofs.Forms.{judged_and, judged_bit_and, judged_bit_or, judged_bit_xor, judged_compare, judged_concat, judged_if, judged_iff, judged_implies, judged_or, judged_product, judged_sum, judged_unary}

rolled : (e : Expr) → roll-Expr (out-Expr e) ≡ e
rolled e = search (rules, the_lemmas)

-- a form that has no number and no name, and is not plain
abbrev bare : Place → List Fault → Option Ty → Judged
bare place fs t = record { place = place; faults = fs; type = t; plain = false; number = None; name = None }

module _ {A : Type 0} (c : Context) (f : Judged → A) (a : A) (h : (place : Place) (fs : List Fault) (t : Option Ty) → a ≡ f (bare place fs t)) where
  layer : (x : Expr-F Expr) → ((place : Place) (operator : UnaryOperator) (e : Expr) → roll-Expr x ≡ Unary place operator e → a ≡ f (judged (roll-Expr x) c)) →
      ((place : Place) (primary : Primary Expr) (selections : List (Selection Expr)) → roll-Expr x ≡ Selected place primary selections → ⊥) → a ≡ f (judged (roll-Expr x) c)
  unfolding roll-Expr denote.Hole.Carrier.roll
  layer (IfForm p bs e) u never = h p _ _ ∙ ap f (sym (judged_if c p bs e))
  layer (IffForm p es ms) u never = h p _ _ ∙ ap f (sym (judged_iff c p es ms))
  layer (ImpliesForm p es ms) u never = h p _ _ ∙ ap f (sym (judged_implies c p es ms))
  layer (OrForm p es ms) u never = h p _ _ ∙ ap f (sym (judged_or c p es ms))
  layer (AndForm p es ms) u never = h p _ _ ∙ ap f (sym (judged_and c p es ms))
  layer (CompareForm p how mark a b) u never = h p _ _ ∙ ap f (sym (judged_compare c p how mark a b))
  layer (BitOrForm p es ms) u never = h p _ _ ∙ ap f (sym (judged_bit_or c p es ms))
  layer (BitXorForm p es ms) u never = h p _ _ ∙ ap f (sym (judged_bit_xor c p es ms))
  layer (BitAndForm p es ms) u never = h p _ _ ∙ ap f (sym (judged_bit_and c p es ms))
  layer (ConcatForm p es ms) u never = h p _ _ ∙ ap f (sym (judged_concat c p es ms))
  layer (SumForm p es ms) u never = h p _ _ ∙ ap f (sym (judged_sum c p es ms))
  layer (ProductForm p es ms) u never = h p _ _ ∙ ap f (sym (judged_product c p es ms))
  layer (UnaryForm p operator e) u never = u p operator e refl
  layer (SelectedForm p primary ss) u never = absurd (never p primary ss refl)

  elsewhere : (e : Expr) → ((place : Place) (operator : UnaryOperator) (x : Expr) → e ≡ Unary place operator x → a ≡ f (judged e c)) →
      ((place : Place) (primary : Primary Expr) (selections : List (Selection Expr)) → e ≡ Selected place primary selections → ⊥) → a ≡ f (judged e c)
  elsewhere e u never =
      layer (out-Expr e) (λ p o x is. u p o x (sym (rolled e) ∙ is) ∙ ap (λ y. f (judged y c)) (sym (rolled e))) (λ p q ss is. never p q ss (sym (rolled e) ∙ is))
      ∙ ap (λ y. f (judged y c)) (rolled e)

pub number_elsewhere : (c : Context) (e : Expr) → ((place : Place) (primary : Primary Expr) (selections : List (Selection Expr)) → e ≡ Selected place primary selections → ⊥) → None ≡ (judged e c).number
number_elsewhere c e never =
    elsewhere c (λ j. j.number) None (λ p fs t. refl) e (λ p o x is. ap (λ j. j.number) (sym (judged_unary c p o x)) ∙ ap (λ y. (judged y c).number) (sym is)) never

pub name_elsewhere : (c : Context) (e : Expr) → ((place : Place) (primary : Primary Expr) (selections : List (Selection Expr)) → e ≡ Selected place primary selections → ⊥) → None ≡ (judged e c).name
name_elsewhere c e never =
    elsewhere c (λ j. j.name) None (λ p fs t. refl) e (λ p o x is. ap (λ j. j.name) (sym (judged_unary c p o x)) ∙ ap (λ y. (judged y c).name) (sym is)) never

pub plain_elsewhere : (c : Context) (e : Expr) → ((place : Place) (operator : UnaryOperator) (x : Expr) → e ≡ Unary place operator x → ⊥) →
    ((place : Place) (primary : Primary Expr) (selections : List (Selection Expr)) → e ≡ Selected place primary selections → ⊥) → false ≡ (judged e c).plain
plain_elsewhere c e sign never = elsewhere c (λ j. j.plain) false (λ p fs t. refl) e (λ p o x is. absurd (sign p o x is)) never
