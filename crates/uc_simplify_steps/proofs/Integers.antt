-- Rules for sums and multiples of integers.
use Rattle.std.specs.Prelude.{◌≡◌, ◌⊎◌, ℕ, ℤ, pos, neg_ℤ, ◌+ℤ◌, ◌*ℤ◌, ◌<◌, IsTrue, List, [], ◌∷◌, length, All}
use Rattle.std.proofs.Common.{refl, sym, ap, ◌∙◌, arith, subst, inl, inr}
use Rattle.std.proofs.lemmas.Int.{ints}
use Rattle.std.proofs.lemmas.List.Elements.{All-nil, All-cons, All-head, All-tail}
use Rattle.std.proofs.Math.IntN.{*ℤ_comm}
use Rattle.uc_linear.proofs.Dividing.{swap_factors}
use Rattle.uc_values.specs.Values.{fits, number_of}
use Rattle.uc_values.specs.declared.ty.Ty.{Ty}
use Rattle.uc_values.specs.declared.ty.Ty.TheVariants.{Int as Integer}
use Rattle.uc_values.specs.declared.value.Value.{Value}
use Rattle.uc_values.specs.declared.value.Value.TheVariants.{Int}
use Rattle.uc_values.proofs.Shapes.{valid-Int}
use Rattle.uc_values.proofs.Fitting.{Int-fits, IsInteger, IsInteger-fits}
use Rattle.uc_ops.specs.declared.model.Model.{Model}
use Rattle.uc_ops.specs.declared.op.Op.{Op}
use Rattle.uc_ops.specs.declared.op.Op.TheVariants.{Const, Add, Scale}
use Rattle.uc_ops.specs.declared.node.Node.{Node}
use Rattle.uc_ops.specs.Typing.{Suits, type_of, type_at, types_at}
use Rattle.uc_ops.specs.Meaning.{apply}
use Rattle.uc_terms.specs.Tables.{WellTyped}
use Rattle.uc_terms.specs.Values.{value, values_at}
use Rattle.uc_terms.specs.Subterms.{IsSubterm, IsBelow, itself}
use Rattle.uc_terms.proofs.Fitting.{value-fits}
use Rattle.uc_simplify_steps.specs.declared.step.Step.{Step}
use Rattle.uc_simplify_steps.specs.declared.step.Step.TheVariants.{Other}
use Rattle.uc_simplify_steps.specs.Steps.{IsKnown, IsRight, Replaces, IsConstant, IsApplied}
use Rattle.uc_simplify_steps.specs.Sums.{IsNumber, AreOpposite}
use Rattle.uc_simplify_steps.proofs.Steps.{constant_replaces, plain_replaces}

-- an integer stands for an operation that always gives it
integer_right : (nodes : List Node) (op : Op) (parts : List ℕ) (z : ℤ) (step : Step) → type_of op (types_at nodes parts) ≡ Integer → ((m : Model) → apply m op (types_at nodes parts) (values_at m nodes parts) ≡ Int z)
    → step ≡ Other (Const Integer (Int z)) [] → IsRight nodes op parts step
integer_right nodes op parts z step e same s =
    subst (IsRight nodes op parts) (sym s) (constant_replaces nodes op parts [] Integer (Int z) (sym e) valid-Int refl (Int-fits z) same refl)

integer_value : (m : Model) (nodes : List Node) (t : ℕ) → WellTyped nodes → t < length nodes → type_at nodes t ≡ Integer → value m nodes t ≡ Int (number_of (value m nodes t))
integer_value m nodes t w h e =
    let r = IsInteger-fits (value m nodes t) (subst (λ ty. IsTrue (fits ty (value m nodes t))) e (value-fits m nodes t w h)) in
    r.is ∙ ap (λ v. Int (number_of v)) (sym r.is)

one_type : (s : Ty) → s ∷ [] ≡ Integer ∷ [] → s ≡ Integer
one_type s e = cc

once : (z : ℤ) → pos 1 *ℤ z ≡ z
once z = omega (arith, ints)

never : (z : ℤ) → pos 0 *ℤ z ≡ pos 0
never z = omega (arith, ints)

pub once_known : (nodes : List Node) (factor : ℤ) (a : ℕ) → WellTyped nodes → a < length nodes → Suits (Scale factor) (type_at nodes a ∷ []) → factor ≡ pos 1 → IsKnown nodes a (Scale factor) (a ∷ [])
once_known nodes factor a w h s e =
    let t = one_type (type_at nodes a) s in
    record {
      there = h;
      same = λ m. integer_value m nodes a w h t ∙ ap Int (sym (ap (λ k. k *ℤ number_of (value m nodes a)) e ∙ once (number_of (value m nodes a))));
      ty = t;
      below = record { root = a; listed = (0, omega arith, refl); below = itself };
    }

pub never_right : (nodes : List Node) (factor z : ℤ) (a : ℕ) (step : Step) → factor ≡ pos 0 → z ≡ pos 0 → step ≡ Other (Const Integer (Int z)) [] → IsRight nodes (Scale factor) (a ∷ []) step
never_right nodes factor z a step e n s =
    integer_right nodes (Scale factor) (a ∷ []) z step refl (λ m. ap Int (ap (λ k. k *ℤ number_of (value m nodes a)) e ∙ never (number_of (value m nodes a)) ∙ sym n)) s

product_assoc : (a b z : ℤ) → (a *ℤ b) *ℤ z ≡ a *ℤ (b *ℤ z)
product_assoc a b z = ap (λ x. x *ℤ z) (*ℤ_comm a b) ∙ swap_factors b a z ∙ *ℤ_comm (b *ℤ z) a

pub scaled_replaces : (nodes : List Node) (factor other whole : ℤ) (a p : ℕ) (inner : Op) (own : List ℕ) → inner ≡ Scale other → IsApplied nodes a inner (p ∷ []) → whole ≡ factor *ℤ other → own ≡ p ∷ [] → Replaces nodes (Scale whole) own (Scale factor) (a ∷ [])
scaled_replaces nodes factor other whole a p inner own n x e q =
    let y = subst (λ o. IsApplied nodes a o (p ∷ [])) n x in
    subst (λ ps. Replaces nodes (Scale whole) ps (Scale factor) (a ∷ [])) (sym q)
    (plain_replaces nodes (Scale whole) (Scale factor) (p ∷ []) (a ∷ []) tt y.there y.suits
    (λ m. ap Int (ap (λ k. k *ℤ number_of (value m nodes p)) e ∙ product_assoc factor other (number_of (value m nodes p)) ∙ ap (λ v. factor *ℤ number_of v) (sym (y.same m))))
    refl
    (All-cons (IsBelow nodes (a ∷ [])) p [] (record { root = a; listed = (0, omega arith, refl); below = All-head (IsSubterm nodes a) p [] y.below }) (All-nil (IsBelow nodes (a ∷ [])))))

first_integer : (s : Ty) (types : List Ty) → All (λ t. t ≡ Integer) (s ∷ types) → s ≡ Integer
first_integer s types h = All-head (λ t. t ≡ Integer) s types h

second_integer : (s t : Ty) → All (λ u. u ≡ Integer) (s ∷ t ∷ []) → t ≡ Integer
second_integer s t h = All-head (λ u. u ≡ Integer) t [] (All-tail (λ u. u ≡ Integer) s (t ∷ []) h)

alone : (z : ℤ) → z +ℤ pos 0 ≡ z
alone z = omega (arith, ints)

pub alone_known : (nodes : List Node) (a : ℕ) → WellTyped nodes → a < length nodes → Suits Add (type_at nodes a ∷ []) → IsKnown nodes a Add (a ∷ [])
alone_known nodes a w h s =
    let t = first_integer (type_at nodes a) [] s.1 in
    record {
      there = h;
      same = λ m. integer_value m nodes a w h t ∙ ap Int (sym (alone (number_of (value m nodes a))));
      ty = t;
      below = record { root = a; listed = (0, omega arith, refl); below = itself };
    }

pub number_found : (nodes : List Node) (t : ℕ) (v : Value) (z : ℤ) → IsConstant nodes t v → v ≡ Int z → IsNumber nodes t z
number_found nodes t v z c e m = c.same m ∙ e

with_none : (x y : ℤ) → y ≡ pos 0 → x +ℤ (y +ℤ pos 0) ≡ x
with_none x y e = omega (arith, ints, e)

none_with : (x y : ℤ) → x ≡ pos 0 → x +ℤ (y +ℤ pos 0) ≡ y
none_with x y e = omega (arith, ints, e)

pub first_known : (nodes : List Node) (a b : ℕ) (z : ℤ) → WellTyped nodes → a < length nodes → Suits Add (type_at nodes a ∷ type_at nodes b ∷ []) → IsNumber nodes b z → z ≡ pos 0 → IsKnown nodes a Add (a ∷ b ∷ [])
first_known nodes a b z w h s n e =
    let t = first_integer (type_at nodes a) (type_at nodes b ∷ []) s.1 in
    record {
      there = h;
      same = λ m. integer_value m nodes a w h t ∙ ap Int (sym (with_none (number_of (value m nodes a)) (number_of (value m nodes b)) (ap number_of (n m) ∙ e)));
      ty = t;
      below = record { root = a; listed = (0, omega arith, refl); below = itself };
    }

pub second_known : (nodes : List Node) (a b : ℕ) (z : ℤ) → WellTyped nodes → b < length nodes → Suits Add (type_at nodes a ∷ type_at nodes b ∷ []) → IsNumber nodes a z → z ≡ pos 0 → IsKnown nodes b Add (a ∷ b ∷ [])
second_known nodes a b z w h s n e =
    let t = second_integer (type_at nodes a) (type_at nodes b) s.1 in
    record {
      there = h;
      same = λ m. integer_value m nodes b w h t ∙ ap Int (sym (none_with (number_of (value m nodes a)) (number_of (value m nodes b)) (ap number_of (n m) ∙ e)));
      ty = t;
      below = record { root = b; listed = (1, omega arith, refl); below = itself };
    }

added : (x y z k l : ℤ) → x ≡ k → y ≡ l → z ≡ k +ℤ l → x +ℤ (y +ℤ pos 0) ≡ z
added x y z k l e f g = omega (arith, ints, e, f, g)

pub numbers_right : (nodes : List Node) (a b : ℕ) (k l z : ℤ) (step : Step) → IsNumber nodes a k → IsNumber nodes b l → z ≡ k +ℤ l → step ≡ Other (Const Integer (Int z)) [] → IsRight nodes Add (a ∷ b ∷ []) step
numbers_right nodes a b k l z step x y e s =
    integer_right nodes Add (a ∷ b ∷ []) z step refl (λ m. ap Int (added (number_of (value m nodes a)) (number_of (value m nodes b)) z k l (ap number_of (x m)) (ap number_of (y m)) e)) s

pub opposite_found : (nodes : List Node) (a b p : ℕ) (factor : ℤ) (inner : Op) → inner ≡ Scale factor → IsApplied nodes b inner (p ∷ []) → p ≡ a → factor ≡ neg_ℤ (pos 1) → AreOpposite nodes a b
opposite_found nodes a b p factor inner n x e f m =
    ap number_of ((subst (λ o. IsApplied nodes b o (p ∷ [])) n x).same m) ∙ (λ i. f i *ℤ number_of (value m nodes (e i)))

gone : (x y : ℤ) → y ≡ neg_ℤ (pos 1) *ℤ x → x +ℤ (y +ℤ pos 0) ≡ pos 0
gone x y e = omega (arith, ints, e)

gone_turned : (x y : ℤ) → x ≡ neg_ℤ (pos 1) *ℤ y → x +ℤ (y +ℤ pos 0) ≡ pos 0
gone_turned x y e = omega (arith, ints, e)

pub opposite_right : (nodes : List Node) (a b : ℕ) (z : ℤ) (step : Step) → AreOpposite nodes a b ⊎ AreOpposite nodes b a → z ≡ pos 0 → step ≡ Other (Const Integer (Int z)) [] → IsRight nodes Add (a ∷ b ∷ []) step
opposite_right nodes a b z step (inl o) n s =
    integer_right nodes Add (a ∷ b ∷ []) z step refl (λ m. ap Int (gone (number_of (value m nodes a)) (number_of (value m nodes b)) (o m) ∙ sym n)) s
opposite_right nodes a b z step (inr o) n s =
    integer_right nodes Add (a ∷ b ∷ []) z step refl (λ m. ap Int (gone_turned (number_of (value m nodes a)) (number_of (value m nodes b)) (o m) ∙ sym n)) s
