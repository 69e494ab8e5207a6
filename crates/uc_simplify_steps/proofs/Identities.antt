-- Rules for two bit-vectors.
use Rattle.std.specs.Prelude.{◌≡◌, ℕ, ◌+◌, ◌*◌, ◌-◌, ◌/◌, ◌<◌, ◌≤◌, ◌^◌, ◌%◌, Bool, true, false, cond, bit_and, bit_or, bit_xor, IsTrue, List, [], ◌∷◌, length}
use Rattle.std.proofs.Common.{refl, sym, ap, ◌∙◌, arith, subst, eqb-true, add-zero, div-one}
use Rattle.std.specs.Int.Bits.{or_zero_r, xor_zero_r, and_zero_r, and_self, xor_self, or_add_and}
use Rattle.std.proofs.Math.Nat.{mod-eq_of_lt, mul-one, mod_self, add_comm, mul_comm, add-mul-mod_self_right}
use Rattle.std.proofs.lemmas.Nat.{and_mask, and_comm, or_comm, xor_comm, pow_pos}
use Rattle.std.proofs.lemmas.List.Elements.{All-nil, All-cons}
use Rattle.uc_values.specs.Values.{fits}
use Rattle.uc_values.specs.Types.{is_valid}
use Rattle.uc_values.specs.Operators.{is_low, added, subtracted, multiplied, complemented, shifted_left, shifted_right, shifted_right_signed, on_two_bits}
use Rattle.uc_values.specs.declared.ty.Ty.{Ty}
use Rattle.uc_values.specs.declared.ty.Ty.TheVariants.{Bv as Bits}
use Rattle.uc_values.specs.declared.value.Value.{Value}
use Rattle.uc_values.specs.declared.value.Value.TheVariants.{Bool as Holds, Bv}
use Rattle.uc_values.proofs.Fitting.{IsBits, IsBits-fits, fits-IsBits}
use Rattle.uc_values.proofs.Words.{shifted-out, shifted_left-out}
use Rattle.uc_values.proofs.Scalars.{same_scalar-sym}
use Rattle.uc_ops.specs.declared.model.Model.{Model}
use Rattle.uc_ops.specs.declared.op.Op.{Op}
use Rattle.uc_ops.specs.declared.op.Op.TheVariants.{Const, Eq as Equal, BvAdd, BvSub, BvMul, BvAnd, BvOr, BvXor, Shl, Lshr, Ashr}
use Rattle.uc_ops.specs.declared.node.Node.{Node}
use Rattle.uc_ops.specs.Typing.{Suits, Pair_of_bits, is_constant, type_of, type_at, types_at}
use Rattle.uc_ops.specs.Meaning.{apply}
use Rattle.uc_terms.specs.Tables.{WellTyped}
use Rattle.uc_terms.specs.Values.{value, values_at}
use Rattle.uc_terms.specs.Subterms.{IsBelow, itself}
use Rattle.uc_terms.proofs.Fitting.{value-fits}
use Rattle.uc_terms.proofs.Grown.{type-valid}
use Rattle.uc_simplify_steps.specs.declared.step.Step.{Step}
use Rattle.uc_simplify_steps.specs.declared.step.Step.TheVariants.{Other}
use Rattle.uc_simplify_steps.specs.Steps.{IsKnown, IsRight, Replaces, IsConstant, is_neutral, is_absorbing, fills_with_zero, is_idempotent, cancels, is_commutative}
use Rattle.uc_simplify_steps.proofs.Steps.{IsPlain, constant_replaces, plain_replaces}
use Rattle.uc_simplify_steps.proofs.Twos.{same-constant}
use Rattle.uc_simplify_steps.proofs.Folds.{two_there}

-- a 0 added before the lowest bits are taken
subtracted_zero : (width n : ℕ) → n < 2 ^ width → subtracted width n 0 ≡ n
subtracted_zero width n h =
    ap (λ x. x % 2 ^ width) (let e : n + (2 ^ width - 0) ≡ n + 1 * 2 ^ width = omega arith in e) ∙ add-mul-mod_self_right n 1 (2 ^ width) ∙ mod-eq_of_lt h

either_way : (b : Bool) (x y z : ℕ) → x ≡ z → y ≡ z → cond b x y ≡ z
either_way true x y z e f = e
either_way false x y z e f = f

turned_twice : (width n : ℕ) → n < 2 ^ width → 2 ^ width - 1 - (2 ^ width - 1 - n) ≡ n
turned_twice width n h = omega (arith, h)

unshifted : (width n : ℕ) → n < 2 ^ width → shifted_right_signed width n 0 ≡ n
unshifted width n h =
    either_way (is_low width n) (n / 2 ^ 0) (2 ^ width - 1 - (2 ^ width - 1 - n) / 2 ^ 0) n (div-one n)
    (ap (λ x. 2 ^ width - 1 - x) (div-one (2 ^ width - 1 - n)) ∙ turned_twice width n h)

and_ones : (width n : ℕ) → n < 2 ^ width → bit_and n (complemented width 0) ≡ n
and_ones width n h = ap (bit_and n) (let e : complemented width 0 ≡ 2 ^ width - 1 = omega arith in e) ∙ and_mask n width ∙ mod-eq_of_lt h

or_ones : (width n : ℕ) → n < 2 ^ width → bit_or n (complemented width 0) ≡ complemented width 0
or_ones width n h =
    let both = or_add_and n (complemented width 0) in
    let one = and_ones width n h in
    omega (arith, both, one)

or_self : (n : ℕ) → bit_or n n ≡ n
or_self n = let both = or_add_and n n in let one = and_self n in omega (arith, both, one)

neutral_value : (op : Op) (m : Model) (types : List Ty) (width n own k : ℕ) → is_neutral op width k ≡ true → n < 2 ^ width → Bv width n ≡ apply m op types (Bv width n ∷ Bv own k ∷ [])
neutral_value BvAdd m types width n own k e h = let z = eqb-true k 0 e in sym (ap (λ x. Bv width (added width n x)) z ∙ ap (λ x. Bv width (x % 2 ^ width)) (add-zero n) ∙ ap (Bv width) (mod-eq_of_lt h))
neutral_value BvSub m types width n own k e h = let z = eqb-true k 0 e in sym (ap (λ x. Bv width (subtracted width n x)) z ∙ ap (Bv width) (subtracted_zero width n h))
neutral_value BvOr m types width n own k e h = let z = eqb-true k 0 e in sym (ap (λ x. Bv width (bit_or n x)) z ∙ ap (Bv width) (or_zero_r n))
neutral_value BvXor m types width n own k e h = let z = eqb-true k 0 e in sym (ap (λ x. Bv width (bit_xor n x)) z ∙ ap (Bv width) (xor_zero_r n))
neutral_value Shl m types width n own k e h = let z = eqb-true k 0 e in sym (ap (λ x. Bv width (shifted_left width n x)) z ∙ ap (λ x. Bv width (x % 2 ^ width)) (mul-one n) ∙ ap (Bv width) (mod-eq_of_lt h))
neutral_value Lshr m types width n own k e h = let z = eqb-true k 0 e in sym (ap (λ x. Bv width (shifted_right n x)) z ∙ ap (Bv width) (div-one n))
neutral_value Ashr m types width n own k e h = let z = eqb-true k 0 e in sym (ap (λ x. Bv width (shifted_right_signed width n x)) z ∙ ap (Bv width) (unshifted width n h))
neutral_value BvMul m types width n own k e h = let z = eqb-true k 1 e in sym (ap (λ x. Bv width (multiplied width n x)) z ∙ ap (λ x. Bv width (x % 2 ^ width)) (mul-one n) ∙ ap (Bv width) (mod-eq_of_lt h))
neutral_value BvAnd m types width n own k e h = let z = eqb-true k (complemented width 0) e in sym (ap (λ x. Bv width (bit_and n x)) z ∙ ap (Bv width) (and_ones width n h))
neutral_value other m types width n own k e h = cc

times_none : (width n : ℕ) → multiplied width n 0 ≡ 0
times_none width n = ap (λ x. x % 2 ^ width) (let e : n * 0 ≡ 0 = omega arith in e) ∙ mod-eq_of_lt (pow_pos width)

absorbing_value : (op : Op) (m : Model) (types : List Ty) (width n k : ℕ) → is_absorbing op width k ≡ true → n < 2 ^ width → Bv width k ≡ apply m op types (Bv width n ∷ Bv width k ∷ [])
absorbing_value BvMul m types width n k e h =
    let z = eqb-true k 0 e in
    ap (Bv width) (z ∙ sym (ap (λ x. multiplied width n x) z ∙ times_none width n))
absorbing_value BvAnd m types width n k e h = let z = eqb-true k 0 e in ap (Bv width) (z ∙ sym (ap (λ x. bit_and n x) z ∙ and_zero_r n))
absorbing_value BvOr m types width n k e h = let z = eqb-true k (complemented width 0) e in ap (Bv width) (z ∙ sym (ap (λ x. bit_or n x) z ∙ or_ones width n h))
absorbing_value other m types width n k e h = cc

-- the operation has two bit-vectors of one width, and gives one of that width
pub record OnBits (op : Op) (s t : Ty) : Type 0 where
  pub width : ℕ
  pub first : s ≡ Bits width
  pub second : t ≡ Bits width
  pub gives : type_of op (s ∷ t ∷ []) ≡ s

pair_first : (s t : Ty) (width : ℕ) → s ∷ t ∷ [] ≡ Bits width ∷ Bits width ∷ [] → s ≡ Bits width
pair_first s t width e = cc

pair_second : (s t : Ty) (width : ℕ) → s ∷ t ∷ [] ≡ Bits width ∷ Bits width ∷ [] → t ≡ Bits width
pair_second s t width e = cc

on_bits : (op : Op) (s t : Ty) → type_of op (s ∷ t ∷ []) ≡ s → Pair_of_bits (s ∷ t ∷ []) → OnBits op s t
on_bits op s t g h = record { width = h.0; first = pair_first s t h.0 h.1; second = pair_second s t h.0 h.1; gives = g }

neutral_types : (op : Op) (s t : Ty) (width k : ℕ) → is_neutral op width k ≡ true → Suits op (s ∷ t ∷ []) → OnBits op s t
neutral_types BvAdd s t width k e h = on_bits BvAdd s t refl h
neutral_types BvSub s t width k e h = on_bits BvSub s t refl h
neutral_types BvOr s t width k e h = on_bits BvOr s t refl h
neutral_types BvXor s t width k e h = on_bits BvXor s t refl h
neutral_types Shl s t width k e h = on_bits Shl s t refl h
neutral_types Lshr s t width k e h = on_bits Lshr s t refl h
neutral_types Ashr s t width k e h = on_bits Ashr s t refl h
neutral_types BvMul s t width k e h = on_bits BvMul s t refl h
neutral_types BvAnd s t width k e h = on_bits BvAnd s t refl h
neutral_types other s t width k e h = cc

absorbing_types : (op : Op) (s t : Ty) (width k : ℕ) → is_absorbing op width k ≡ true → Suits op (s ∷ t ∷ []) → OnBits op s t
absorbing_types BvMul s t width k e h = on_bits BvMul s t refl h
absorbing_types BvAnd s t width k e h = on_bits BvAnd s t refl h
absorbing_types BvOr s t width k e h = on_bits BvOr s t refl h
absorbing_types other s t width k e h = cc

same_width : (w k own n : ℕ) → Bv own k ≡ Bv w n → own ≡ w
same_width w k own n e = cc

-- the value of a term of a bit-vector type
pub bits_value : (m : Model) (nodes : List Node) (t width : ℕ) → WellTyped nodes → t < length nodes → type_at nodes t ≡ Bits width → IsBits width (value m nodes t)
bits_value m nodes t width w h e = IsBits-fits width (value m nodes t) (subst (λ ty. IsTrue (fits ty (value m nodes t))) e (value-fits m nodes t w h))

-- a constant of a bit-vector type is of its width
constant_width : (nodes : List Node) (t width own k : ℕ) (v : Value) → IsConstant nodes t v → v ≡ Bv own k → type_at nodes t ≡ Bits width → own ≡ width
constant_width nodes t width own k v c e ty =
    let r = IsBits-fits width v (subst (λ s. IsTrue (fits s v)) ty c.fit) in
    same_width width k own r.number (sym e ∙ r.is)

width_same : (v w : ℕ) → Bits v ≡ Bits w → v ≡ w
width_same v w e = cc

pub neutral_known : (nodes : List Node) (op : Op) (a b width own k : ℕ) (v : Value) → WellTyped nodes → a < length nodes → Suits op (types_at nodes (a ∷ b ∷ [])) → type_at nodes b ≡ Bits width → IsConstant nodes b v → v ≡ Bv own k → is_neutral op width k ≡ true
    → IsKnown nodes a op (a ∷ b ∷ [])
neutral_known nodes op a b width own k v w h s ty c e n =
    let t = neutral_types op (type_at nodes a) (type_at nodes b) width k n s in
    let same = width_same width t.width (sym ty ∙ t.second) in
    record {
      there = h;
      same = λ m.
          let r = bits_value m nodes a t.width w h t.first in
          r.is ∙ neutral_value op m (types_at nodes (a ∷ b ∷ [])) t.width r.number own k (subst (λ x. is_neutral op x k ≡ true) same n) r.small ∙ (λ i. apply m op (types_at nodes (a ∷ b ∷ [])) (sym r.is i ∷ sym (c.same m ∙ e) i ∷ []));
      ty = sym t.gives;
      below = record { root = a; listed = (0, omega arith, refl); below = itself };
    }

pub absorbing_known : (nodes : List Node) (op : Op) (a b width own k : ℕ) (v : Value) → WellTyped nodes → a < length nodes → b < length nodes → Suits op (types_at nodes (a ∷ b ∷ [])) → type_at nodes b ≡ Bits width → IsConstant nodes b v → v ≡ Bv own k
    → is_absorbing op width k ≡ true → IsKnown nodes b op (a ∷ b ∷ [])
absorbing_known nodes op a b width own k v w h g s ty c e n =
    let t = absorbing_types op (type_at nodes a) (type_at nodes b) width k n s in
    let same = width_same width t.width (sym ty ∙ t.second) in
    let here = subst (λ x. v ≡ Bv x k) (constant_width nodes b t.width own k v c e t.second) e in
    record {
      there = g;
      same = λ m.
          let r = bits_value m nodes a t.width w h t.first in
          c.same m ∙ here ∙ absorbing_value op m (types_at nodes (a ∷ b ∷ [])) t.width r.number k (subst (λ x. is_absorbing op x k ≡ true) same n) r.small
          ∙ (λ i. apply m op (types_at nodes (a ∷ b ∷ [])) (sym r.is i ∷ sym (c.same m ∙ here) i ∷ []));
      ty = t.second ∙ sym t.first ∙ sym t.gives;
      below = record { root = b; listed = (1, omega arith, refl); below = itself };
    }

-- the bits 0 of the width of a term suit as a constant
zero_suits : (nodes : List Node) (t width : ℕ) → WellTyped nodes → t < length nodes → type_at nodes t ≡ Bits width → Suits (Const (Bits width) (Bv width 0)) []
zero_suits nodes t width w h e = (refl, subst (λ s. IsTrue (is_valid s)) e (type-valid nodes t w h), refl, fits-IsBits width 0 (pow_pos width))

-- and stand for an operation that always gives them
zero_right : (nodes : List Node) (op : Op) (parts : List ℕ) (width : ℕ) (step : Step) → Suits (Const (Bits width) (Bv width 0)) [] → type_of op (types_at nodes parts) ≡ Bits width
    → ((m : Model) → apply m op (types_at nodes parts) (values_at m nodes parts) ≡ Bv width 0) → step ≡ Other (Const (Bits width) (Bv width 0)) [] → IsRight nodes op parts step
zero_right nodes op parts width step s e same is =
    subst (IsRight nodes op parts) (sym is) (constant_replaces nodes op parts [] (Bits width) (Bv width 0) (sym e) s.1 s.2 s.3 same refl)

out_value : (op : Op) (m : Model) (types : List Ty) (width n own k : ℕ) → fills_with_zero op ≡ true → n < 2 ^ width → width ≤ k → apply m op types (Bv width n ∷ Bv own k ∷ []) ≡ Bv width 0
out_value Shl m types width n own k e h g = ap (Bv width) (shifted_left-out width n k g)
out_value Lshr m types width n own k e h g = ap (Bv width) (shifted-out n width k h g)
out_value other m types width n own k e h g = cc

out_types : (op : Op) (s t : Ty) → fills_with_zero op ≡ true → Suits op (s ∷ t ∷ []) → OnBits op s t
out_types Shl s t e h = on_bits Shl s t refl h
out_types Lshr s t e h = on_bits Lshr s t refl h
out_types other s t e h = cc

pub out_right : (nodes : List Node) (op : Op) (a b width own k : ℕ) (v : Value) (step : Step) → WellTyped nodes → a < length nodes → Suits op (types_at nodes (a ∷ b ∷ [])) → type_at nodes a ≡ Bits width → IsConstant nodes b v → v ≡ Bv own k
    → fills_with_zero op ≡ true → width ≤ k → step ≡ Other (Const (Bits width) (Bv width 0)) [] → IsRight nodes op (a ∷ b ∷ []) step
out_right nodes op a b width own k v step w h s e c is f g made =
    let t = out_types op (type_at nodes a) (type_at nodes b) f s in
    zero_right nodes op (a ∷ b ∷ []) width step (zero_suits nodes a width w h e) (t.gives ∙ e)
    (λ m.
    let r = bits_value m nodes a width w h e in
    (λ i. apply m op (types_at nodes (a ∷ b ∷ [])) (r.is i ∷ (c.same m ∙ is) i ∷ [])) ∙ out_value op m (types_at nodes (a ∷ b ∷ [])) width r.number own k f r.small g)
    made

idempotent_value : (op : Op) (m : Model) (types : List Ty) (width n : ℕ) → is_idempotent op ≡ true → Bv width n ≡ apply m op types (Bv width n ∷ Bv width n ∷ [])
idempotent_value BvAnd m types width n e = sym (ap (Bv width) (and_self n))
idempotent_value BvOr m types width n e = sym (ap (Bv width) (or_self n))
idempotent_value other m types width n e = cc

idempotent_types : (op : Op) (s t : Ty) → is_idempotent op ≡ true → Suits op (s ∷ t ∷ []) → OnBits op s t
idempotent_types BvAnd s t e h = on_bits BvAnd s t refl h
idempotent_types BvOr s t e h = on_bits BvOr s t refl h
idempotent_types other s t e h = cc

pub idempotent_known : (nodes : List Node) (op : Op) (a b : ℕ) → WellTyped nodes → a < length nodes → a ≡ b → Suits op (types_at nodes (a ∷ b ∷ [])) → is_idempotent op ≡ true → IsKnown nodes a op (a ∷ b ∷ [])
idempotent_known nodes op a b w h e s f =
    let t = idempotent_types op (type_at nodes a) (type_at nodes b) f s in
    record {
      there = h;
      same = λ m.
          let r = bits_value m nodes a t.width w h t.first in
          r.is ∙ idempotent_value op m (types_at nodes (a ∷ b ∷ [])) t.width r.number f ∙ (λ i. apply m op (types_at nodes (a ∷ b ∷ [])) (sym r.is i ∷ (sym r.is ∙ ap (value m nodes) e) i ∷ []));
      ty = sym t.gives;
      below = record { root = a; listed = (0, omega arith, refl); below = itself };
    }

cancelled : (width n : ℕ) → n < 2 ^ width → subtracted width n n ≡ 0
cancelled width n h = let e : n + (2 ^ width - n) ≡ 2 ^ width = omega (arith, h) in ap (λ x. x % 2 ^ width) e ∙ mod_self (2 ^ width)

cancels_value : (op : Op) (m : Model) (types : List Ty) (width n : ℕ) → cancels op ≡ true → n < 2 ^ width → apply m op types (Bv width n ∷ Bv width n ∷ []) ≡ Bv width 0
cancels_value BvSub m types width n e h = ap (Bv width) (cancelled width n h)
cancels_value BvXor m types width n e h = ap (Bv width) (xor_self n)
cancels_value other m types width n e h = cc

cancels_types : (op : Op) (s t : Ty) → cancels op ≡ true → Suits op (s ∷ t ∷ []) → OnBits op s t
cancels_types BvSub s t e h = on_bits BvSub s t refl h
cancels_types BvXor s t e h = on_bits BvXor s t refl h
cancels_types other s t e h = cc

pub cancels_right : (nodes : List Node) (op : Op) (a b width : ℕ) (step : Step) → WellTyped nodes → a < length nodes → a ≡ b → Suits op (types_at nodes (a ∷ b ∷ [])) → cancels op ≡ true → type_at nodes a ≡ Bits width
    → step ≡ Other (Const (Bits width) (Bv width 0)) [] → IsRight nodes op (a ∷ b ∷ []) step
cancels_right nodes op a b width step w h e s f ty made =
    let t = cancels_types op (type_at nodes a) (type_at nodes b) f s in
    zero_right nodes op (a ∷ b ∷ []) width step (zero_suits nodes a width w h ty) (t.gives ∙ ty)
    (λ m.
    let r = bits_value m nodes a width w h ty in
    (λ i. apply m op (types_at nodes (a ∷ b ∷ [])) (r.is i ∷ (ap (value m nodes) (sym e) ∙ r.is) i ∷ [])) ∙ cancels_value op m (types_at nodes (a ∷ b ∷ [])) width r.number f r.small)
    made

-- an operation whose parts may change places
record Turns (op : Op) (s t : Ty) : Type 0 where
  same_type : s ≡ t
  suits : Suits op (t ∷ s ∷ [])
  gives : type_of op (t ∷ s ∷ []) ≡ type_of op (s ∷ t ∷ [])
  plain : IsPlain op
  same : (m : Model) (v w : Value) → IsTrue (is_constant s) → IsTrue (fits s v) → IsTrue (fits t w) → apply m op (t ∷ s ∷ []) (w ∷ v ∷ []) ≡ apply m op (s ∷ t ∷ []) (v ∷ w ∷ [])

pair_turned : (s t : Ty) (width : ℕ) → s ∷ t ∷ [] ≡ Bits width ∷ Bits width ∷ [] → t ∷ s ∷ [] ≡ Bits width ∷ Bits width ∷ []
pair_turned s t width e = cc

two_same : (s t u : Ty) → s ∷ t ∷ [] ≡ u ∷ u ∷ [] → s ≡ t
two_same s t u e = cc

two_turned : (s t u : Ty) → s ∷ t ∷ [] ≡ u ∷ u ∷ [] → t ∷ s ∷ [] ≡ u ∷ u ∷ []
two_turned s t u e = cc

bits_turned : (f : ℕ → ℕ → ℕ → ℕ) (s t : Ty) (width : ℕ) (v w : Value) → ((a b : ℕ) → f width b a ≡ f width a b) → s ≡ Bits width → t ≡ Bits width → IsTrue (fits s v) → IsTrue (fits t w) → on_two_bits f w v ≡ on_two_bits f v w
bits_turned f s t width v w h e g x y =
    let p = IsBits-fits width v (subst (λ u. IsTrue (fits u v)) e x) in
    let q = IsBits-fits width w (subst (λ u. IsTrue (fits u w)) g y) in
    (λ i. on_two_bits f (q.is i) (p.is i)) ∙ ap (Bv width) (h p.number q.number) ∙ (λ i. on_two_bits f (sym p.is i) (sym q.is i))

turns_bits : (op : Op) (f : ℕ → ℕ → ℕ → ℕ) (s t : Ty) → IsPlain op → Pair_of_bits (s ∷ t ∷ []) → ((types : List Ty) → Pair_of_bits types → Suits op types) → ((a b : Ty) → type_of op (a ∷ b ∷ []) ≡ a)
    → ((m : Model) (types : List Ty) (v w : Value) → apply m op types (v ∷ w ∷ []) ≡ on_two_bits f v w) → ((width a b : ℕ) → f width b a ≡ f width a b) → Turns op s t
turns_bits op f s t p h suits gives is same = record {
  same_type = two_same s t (Bits h.0) h.1;
  suits = suits (t ∷ s ∷ []) (h.0, pair_turned s t h.0 h.1);
  gives = gives t s ∙ sym (two_same s t (Bits h.0) h.1) ∙ sym (gives s t);
  plain = p;
  same = λ m v w c x y. is m (t ∷ s ∷ []) w v ∙ bits_turned f s t h.0 v w (same h.0) (pair_first s t h.0 h.1) (pair_second s t h.0 h.1) x y ∙ sym (is m (s ∷ t ∷ []) v w);
}

turns : (op : Op) (s t : Ty) → is_commutative op ≡ true → Suits op (s ∷ t ∷ []) → Turns op s t
turns Equal s t e h = record {
  same_type = two_same s t h.0 h.1;
  suits = (h.0, two_turned s t h.0 h.1);
  gives = refl;
  plain = tt;
  same = λ m v w c x y.
      let c2 = subst (λ u. IsTrue (is_constant u)) (two_same s t h.0 h.1) c in
      ap Holds (same-constant t w v c2 ∙ same_scalar-sym w v ∙ sym (same-constant s v w c));
}
turns BvAdd s t e h = turns_bits BvAdd added s t tt h (λ types p. p) (λ a b. refl) (λ m types v w. refl) (λ width a b. ap (λ x. x % 2 ^ width) (add_comm b a))
turns BvMul s t e h = turns_bits BvMul multiplied s t tt h (λ types p. p) (λ a b. refl) (λ m types v w. refl) (λ width a b. ap (λ x. x % 2 ^ width) (mul_comm b a))
turns BvAnd s t e h = turns_bits BvAnd (λ width a b. bit_and a b) s t tt h (λ types p. p) (λ a b. refl) (λ m types v w. refl) (λ width a b. and_comm b a)
turns BvOr s t e h = turns_bits BvOr (λ width a b. bit_or a b) s t tt h (λ types p. p) (λ a b. refl) (λ m types v w. refl) (λ width a b. or_comm b a)
turns BvXor s t e h = turns_bits BvXor (λ width a b. bit_xor a b) s t tt h (λ types p. p) (λ a b. refl) (λ m types v w. refl) (λ width a b. xor_comm b a)
turns other s t e h = cc

pub turned_pair : (nodes : List Node) (op next : Op) (a b : ℕ) (own : List ℕ) → WellTyped nodes → a < length nodes → b < length nodes → Suits op (types_at nodes (a ∷ b ∷ [])) → is_commutative op ≡ true → IsTrue (is_constant (type_at nodes a))
    → next ≡ op → own ≡ b ∷ a ∷ [] → Replaces nodes next own op (a ∷ b ∷ [])
turned_pair nodes op next a b own w h g s c k n q =
    let t = turns op (type_at nodes a) (type_at nodes b) c s in
    subst (λ ps. Replaces nodes next ps op (a ∷ b ∷ [])) (sym q)
    (subst (λ o. Replaces nodes o (b ∷ a ∷ []) op (a ∷ b ∷ [])) (sym n)
    (plain_replaces nodes op op (b ∷ a ∷ []) (a ∷ b ∷ []) t.plain (two_there nodes b a g h) t.suits
    (λ m. t.same m (value m nodes a) (value m nodes b) k (value-fits m nodes a w h) (value-fits m nodes b w g))
    t.gives
    (All-cons (IsBelow nodes (a ∷ b ∷ [])) b (a ∷ []) (record { root = b; listed = (1, omega arith, refl); below = itself })
    (All-cons (IsBelow nodes (a ∷ b ∷ [])) a [] (record { root = a; listed = (0, omega arith, refl); below = itself }) (All-nil (IsBelow nodes (a ∷ b ∷ [])))))))
