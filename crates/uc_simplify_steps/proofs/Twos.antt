-- Rules for two parts.
use Rattle.std.specs.Prelude.{◌≡◌, ℕ, ℤ, pos, negsuc, ◌<◌, Bool, true, false, not, ◌&&◌, nat_eq, nat_lt, nat_le, int_lt, int_le, IsTrue, List, [], ◌∷◌, length, Some}
use Rattle.std.proofs.Common.{refl, sym, ap, ◌∙◌, arith, subst}
use Rattle.std.proofs.lemmas.Bool.Decides.{nat_tests}
use Rattle.std.proofs.lemmas.List.Elements.{All-nil, All-cons}
use Rattle.uc_values.specs.Types.{is_valid}
use Rattle.uc_values.specs.Values.{fits, truth_of, number_of, bits_of, same_scalar, same_truth}
use Rattle.uc_values.specs.Sameness.{same}
use Rattle.uc_values.specs.Operators.{signed_of}
use Rattle.uc_values.specs.declared.ty.Ty.{Ty}
use Rattle.uc_values.specs.declared.ty.Ty.TheVariants.{Bool as Boolean, Int as Integer, Bv as Bits, Enum as Label}
use Rattle.uc_values.specs.declared.value.Value.{Value}
use Rattle.uc_values.specs.declared.value.Value.TheVariants.{Bool as Holds}
use Rattle.uc_values.proofs.Shapes.{valid-Bool}
use Rattle.uc_values.proofs.Fitting.{Truth-fits}
use Rattle.uc_values.proofs.Agreement.{sameness-Bool, sameness-Int, sameness-Bv, sameness-Enum}
use Rattle.uc_ops.specs.declared.model.Model.{Model}
use Rattle.uc_ops.specs.declared.op.Op.{Op}
use Rattle.uc_ops.specs.declared.op.Op.TheVariants.{Const, Not, Eq as Equal, Le, Slt, Sle, Ult, Ule}
use Rattle.uc_ops.specs.declared.node.Node.{Node}
use Rattle.uc_ops.specs.Typing.{is_constant, type_of, type_at, types_at}
use Rattle.uc_ops.specs.Meaning.{apply}
use Rattle.uc_terms.specs.Tables.{WellTyped}
use Rattle.uc_terms.specs.Values.{value, values_at}
use Rattle.uc_terms.specs.Subterms.{IsBelow, itself}
use Rattle.uc_terms.proofs.Fitting.{value-fits}
use Rattle.uc_terms.proofs.Grown.{type-valid}
use Rattle.uc_simplify_steps.specs.declared.step.Step.{Step}
use Rattle.uc_simplify_steps.specs.declared.step.Step.TheVariants.{Other}
use Rattle.uc_simplify_steps.specs.Steps.{IsKnown, IsRight, Replaces, IsConstant, IsTruth, of_equals}
use Rattle.uc_simplify_steps.proofs.Steps.{constant_replaces, plain_replaces}
use Rattle.uc_simplify_steps.proofs.Booleans.{boolean_value}
use Rattle.uc_simplify_steps.proofs.Alike.{same-itself}

-- a truth stands for an operation that gives it
pub truth_replaces : (nodes : List Node) (op : Op) (parts : List ℕ) (b : Bool) (step : Step) → type_of op (types_at nodes parts) ≡ Boolean → ((m : Model) → apply m op (types_at nodes parts) (values_at m nodes parts) ≡ Holds b)
    → step ≡ Other (Const Boolean (Holds b)) [] → IsRight nodes op parts step
truth_replaces nodes op parts b step e same s =
    subst (IsRight nodes op parts) (sym s) (constant_replaces nodes op parts [] Boolean (Holds b) (sym e) valid-Bool refl (Truth-fits b) same refl)

-- constants are the same where they are the same scalar
pub same-constant : (ty : Ty) (v w : Value) → IsTrue (is_constant ty) → same ty v w ≡ same_scalar v w
same-constant Boolean v w h = ap (λ s. s.same v w) sameness-Bool
same-constant Integer v w h = ap (λ s. s.same v w) sameness-Int
same-constant (Bits width) v w h = ap (λ s. s.same v w) (sameness-Bv width)
same-constant (Label number labels) v w h = ap (λ s. s.same v w) (sameness-Enum number labels)
same-constant other v w h = cc

int_le-itself : (z : ℤ) → int_le z z ≡ true
int_le-itself (pos n) = grind (arith, nat_tests)
int_le-itself (negsuc n) = grind (arith, nat_tests)

int_lt-itself : (z : ℤ) → int_lt z z ≡ false
int_lt-itself (pos n) = grind (arith, nat_tests)
int_lt-itself (negsuc n) = grind (arith, nat_tests)

nat_le-itself : (n : ℕ) → nat_le n n ≡ true
nat_le-itself n = grind (arith, nat_tests)

nat_lt-itself : (n : ℕ) → nat_lt n n ≡ false
nat_lt-itself n = grind (arith, nat_tests)

itself_compared : (op : Op) (b : Bool) (m : Model) (ty : Ty) (v : Value) → of_equals op ≡ Some b → IsTrue (is_valid ty) → IsTrue (fits ty v) → apply m op (ty ∷ ty ∷ []) (v ∷ v ∷ []) ≡ Holds b
itself_compared Equal b m ty v e h f = let s : true ≡ b = cc in ap Holds (same-itself ty v h f ∙ s)
itself_compared Le b m ty v e h f = let s : true ≡ b = cc in ap Holds (int_le-itself (number_of v) ∙ s)
itself_compared Sle b m ty v e h f = let s : true ≡ b = cc in ap Holds (int_le-itself (signed_of v) ∙ s)
itself_compared Ule b m ty v e h f = let s : true ≡ b = cc in ap Holds (nat_le-itself (bits_of v) ∙ s)
itself_compared Slt b m ty v e h f = let s : false ≡ b = cc in ap Holds (int_lt-itself (signed_of v) ∙ s)
itself_compared Ult b m ty v e h f = let s : false ≡ b = cc in ap Holds (nat_lt-itself (bits_of v) ∙ s)
itself_compared other b m ty v e h f = cc

comparison_type : (op : Op) (b : Bool) (types : List Ty) → of_equals op ≡ Some b → type_of op types ≡ Boolean
comparison_type Equal b types e = refl
comparison_type Le b types e = refl
comparison_type Sle b types e = refl
comparison_type Ule b types e = refl
comparison_type Slt b types e = refl
comparison_type Ult b types e = refl
comparison_type other b types e = cc

pub itself_right : (nodes : List Node) (op : Op) (a c : ℕ) (b : Bool) (step : Step) → WellTyped nodes → a < length nodes → a ≡ c → of_equals op ≡ Some b → step ≡ Other (Const Boolean (Holds b)) [] → IsRight nodes op (a ∷ c ∷ []) step
itself_right nodes op a c b step w h e o s =
    subst (λ x. IsRight nodes op (a ∷ x ∷ []) step) e
    (truth_replaces nodes op (a ∷ a ∷ []) b step (comparison_type op b (types_at nodes (a ∷ a ∷ [])) o) (λ m. itself_compared op b m (type_at nodes a) (value m nodes a) o (type-valid nodes a w h) (value-fits m nodes a w h)) s)

pub constants_right : (nodes : List Node) (a b : ℕ) (v w : Value) (t : Bool) (step : Step) → IsConstant nodes a v → IsConstant nodes b w → t ≡ same_scalar v w → step ≡ Other (Const Boolean (Holds t)) [] → IsRight nodes Equal (a ∷ b ∷ []) step
constants_right nodes a b v w t step x y e s =
    truth_replaces nodes Equal (a ∷ b ∷ []) t step refl
    (λ m. (λ i. Holds (same (type_at nodes a) (x.same m i) (y.same m i))) ∙ ap Holds (same-constant (type_at nodes a) v w x.constant ∙ sym e)) s

same_to_true : (b : Bool) → Holds b ≡ Holds (same_truth b true)
same_to_true true = refl
same_to_true false = refl

same_to_false : (b : Bool) → Holds (not b) ≡ Holds (same_truth b false)
same_to_false true = refl
same_to_false false = refl

equal_holds : (nodes : List Node) (m : Model) (a b : ℕ) (t u : Bool) → type_at nodes a ≡ Boolean → value m nodes a ≡ Holds t → value m nodes b ≡ Holds u → Holds (same_truth t u) ≡ Holds (same (type_at nodes a) (value m nodes a) (value m nodes b))
equal_holds nodes m a b t u e x y =
    ap Holds (sym (same-constant Boolean (Holds t) (Holds u) refl)) ∙ (λ i. Holds (same (sym e i) (sym x i) (sym y i)))

pub true_known : (nodes : List Node) (a b : ℕ) → WellTyped nodes → a < length nodes → type_at nodes a ≡ Boolean → IsTruth nodes b true → IsKnown nodes a Equal (a ∷ b ∷ [])
true_known nodes a b w h e t = record {
  there = h;
  same = λ m. let r = boolean_value m nodes a w h e in r.1 ∙ same_to_true r.0 ∙ equal_holds nodes m a b r.0 true e r.1 (t m);
  ty = e;
  below = record { root = a; listed = (0, omega arith, refl); below = itself };
}

pub false_replaces : (nodes : List Node) (a b : ℕ) (own : List ℕ) → WellTyped nodes → a < length nodes → type_at nodes a ≡ Boolean → IsTruth nodes b false → own ≡ a ∷ [] → Replaces nodes Not own Equal (a ∷ b ∷ [])
false_replaces nodes a b own w h e t q =
    subst (λ ps. Replaces nodes Not ps Equal (a ∷ b ∷ [])) (sym q)
    (plain_replaces nodes Not Equal (a ∷ []) (a ∷ b ∷ []) tt (All-cons (λ p. p < length nodes) a [] h (All-nil (λ p. p < length nodes)))
    (λ i. e i ∷ [])
    (λ m. let r = boolean_value m nodes a w h e in ap (λ v. Holds (not (truth_of v))) r.1 ∙ same_to_false r.0 ∙ equal_holds nodes m a b r.0 false e r.1 (t m))
    refl
    (All-cons (IsBelow nodes (a ∷ b ∷ [])) a [] (record { root = a; listed = (0, omega arith, refl); below = itself }) (All-nil (IsBelow nodes (a ∷ b ∷ [])))))
