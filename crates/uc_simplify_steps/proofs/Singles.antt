-- Rules for one bit-vector.
use Rattle.std.specs.Prelude.{◌≡◌, ℕ, ◌+◌, ◌-◌, ◌*◌, ◌<◌, ◌≤◌, ◌^◌, Bool, true, ◌&&◌, nat_le, IsTrue, List, [], ◌∷◌, length, All}
use Rattle.std.proofs.Common.{refl, sym, ap, ◌∙◌, arith, subst, eqb-true, inl, inr}
use Rattle.std.proofs.lemmas.Bool.{false≢true}
use Rattle.std.proofs.lemmas.Bool.Decides.{leb_tells}
use Rattle.std.proofs.lemmas.List.Elements.{All-nil, All-cons, All-head, All-tail}
use Rattle.uc_values.specs.Types.{is_valid}
use Rattle.uc_values.specs.Operators.{extracted, sign_extended, complemented, negated}
use Rattle.uc_values.specs.declared.ty.Ty.{Ty}
use Rattle.uc_values.specs.declared.ty.Ty.TheVariants.{Bv as Bits}
use Rattle.uc_values.specs.declared.value.Value.{Value}
use Rattle.uc_values.specs.declared.value.Value.TheVariants.{Bv}
use Rattle.uc_values.proofs.Shapes.{and_true, valid-Bv}
use Rattle.uc_values.proofs.Fitting.{IsBits, fits-IsBits}
use Rattle.std.proofs.lemmas.Nat.{pow_pos}
use Rattle.uc_ops.specs.declared.model.Model.{Model}
use Rattle.uc_ops.specs.declared.op.Op.{Op}
use Rattle.uc_ops.specs.declared.op.Op.TheVariants.{Const, BvNeg, BvNot, Concat, Extract, ZeroExt, SignExt}
use Rattle.uc_ops.specs.declared.node.Node.{Node}
use Rattle.uc_ops.specs.Typing.{Suits, Valid, type_of, type_at, types_at}
use Rattle.uc_ops.specs.Meaning.{apply}
use Rattle.uc_ops.proofs.Typed.{type_of-valid}
use Rattle.uc_terms.specs.Tables.{WellTyped}
use Rattle.uc_terms.specs.Values.{value, values_at}
use Rattle.uc_terms.specs.Subterms.{IsSubterm, IsBelow, itself}
use Rattle.uc_terms.proofs.Grown.{type-valid, types-valid}
use Rattle.uc_simplify_steps.specs.declared.step.Step.{Step}
use Rattle.uc_simplify_steps.specs.declared.step.Step.TheVariants.{Other}
use Rattle.uc_simplify_steps.specs.Steps.{IsKnown, IsRight, Replaces, IsApplied}
use Rattle.uc_simplify_steps.specs.Combining.{Undoes, complements, negations, Combines, cut_twice, cut_of_zeros, cut_of_signs, zeros_twice, signs_twice, keeps_all}
use Rattle.uc_simplify_steps.proofs.Steps.{IsPlain, constant_replaces, plain_replaces}
use Rattle.uc_simplify_steps.proofs.Identities.{bits_value}
use Rattle.uc_simplify_steps.proofs.Cutting.{cut_twice_number, cut_low, cut_high, cut_signs, cut_zeros, cut_all, signs_none, turned_back, negated_back, signs_twice_number}

one_width : (v w : ℕ) → Bits w ∷ [] ≡ Bits v ∷ [] → v ≡ w
one_width v w e = cc

first_of_one : (s t : Ty) → s ∷ [] ≡ t ∷ [] → s ≡ t
first_of_one s t e = cc

first_of_two : (s t u v : Ty) → s ∷ t ∷ [] ≡ u ∷ v ∷ [] → s ≡ u
first_of_two s t u v e = cc

second_of_two : (s t u v : Ty) → s ∷ t ∷ [] ≡ u ∷ v ∷ [] → t ≡ v
second_of_two s t u v e = cc

-- a third operation gives what an operation gives on what an inner one gives on bits of the width
record IsJoint (op inner next : Op) (w : ℕ) : Type 0 where
  plain : IsPlain next
  suits : Suits next (Bits w ∷ [])
  gives : type_of next (Bits w ∷ []) ≡ type_of op (type_of inner (Bits w ∷ []) ∷ [])
  same : (m : Model) (types others ins : List Ty) (n : ℕ) → n < 2 ^ w → apply m next types (Bv w n ∷ []) ≡ apply m op others (apply m inner ins (Bv w n ∷ []) ∷ [])

joint : (op inner next : Op) (w : ℕ) → 1 ≤ w → Combines w op inner next → Suits inner (Bits w ∷ []) → Suits op (type_of inner (Bits w ∷ []) ∷ []) → IsJoint op inner next w
joint op inner next w o (cut_twice h l t b) s r =
    let v = one_width s.0 w s.1 in
    let u = one_width r.0 (t - b + 1) r.1 in
    let long : h + b - (l + b) + 1 ≡ h - l + 1 = omega (arith, r.2) in
    let inside : h < t - b + 1 = omega (arith, r.3, u) in
    record {
      plain = tt;
      suits = (w, refl, omega (arith, r.2), omega (arith, inside, s.2, s.3, v));
      gives = ap Bits long;
      same = λ m types others ins n small. (λ i. Bv (long i) (cut_twice_number n h l t b r.2 inside i));
    }
joint op inner next w o (cut_of_zeros h l more g) s r = record { plain = tt; suits = (w, refl, r.2, g); gives = refl; same = λ m types others ins n small. refl }
joint op inner next w o (cut_of_signs h l more g) s r =
    record { plain = tt; suits = (w, refl, r.2, g); gives = refl; same = λ m types others ins n small. ap (Bv (h - l + 1)) (sym (cut_signs w more n h l r.2 g)) }
joint op inner next w o (zeros_twice more own) s r =
    let u = one_width r.0 (w + own) r.1 in
    let long : w + (own + more) ≡ w + own + more = omega arith in
    record {
      plain = tt;
      suits = (w, refl, omega (arith, r.2, u));
      gives = ap Bits long;
      same = λ m types others ins n small. ap (λ k. Bv k n) long;
    }
joint op inner next w o (signs_twice more own) s r =
    let u = one_width r.0 (w + own) r.1 in
    let long : w + (own + more) ≡ w + own + more = omega arith in
    record {
      plain = tt;
      suits = (w, refl, omega (arith, r.2, u));
      gives = ap Bits long;
      same = λ m types others ins n small. (λ i. Bv (long i) (signs_twice_number w own more n o i));
    }

valid_width : (w : ℕ) → Valid (Bits w) → 1 ≤ w
valid_width w v = elim (leb_tells 1 w) [ inl x ↦ x.1 | inr x ↦ absurd (false≢true (sym x.0 ∙ (and_true (sym (valid-Bv w) ∙ v)).0)) ]

below_part : (nodes : List Node) (a p : ℕ) → IsSubterm nodes a p → IsBelow nodes (a ∷ []) p
below_part nodes a p s = record { root = a; listed = (0, omega arith, refl); below = s }

pub combined_replaces : (nodes : List Node) (op inner next : Op) (a p w : ℕ) (own : List ℕ) → WellTyped nodes → IsApplied nodes a inner (p ∷ []) → p < length nodes → type_at nodes p ≡ Bits w → Combines w op inner next
    → Suits op (type_at nodes a ∷ []) → own ≡ p ∷ [] → Replaces nodes next own op (a ∷ [])
combined_replaces nodes op inner next a p w own t i h e c s q =
    let in_suits : Suits inner (Bits w ∷ []) = subst (λ ty. Suits inner (ty ∷ [])) e i.suits in
    let typed : type_at nodes a ≡ type_of inner (Bits w ∷ []) = i.ty ∙ ap (λ ty. type_of inner (ty ∷ [])) e in
    let wide = valid_width w (subst Valid e (type-valid nodes p t h)) in
    let j = joint op inner next w wide c in_suits (subst (λ ty. Suits op (ty ∷ [])) typed s) in
    subst (λ ps. Replaces nodes next ps op (a ∷ [])) (sym q)
    (plain_replaces nodes next op (p ∷ []) (a ∷ []) j.plain i.there (subst (λ ty. Suits next (ty ∷ [])) (sym e) j.suits)
    (λ m.
    let r = bits_value m nodes p w t h e in
    (λ k. apply m next (types_at nodes (p ∷ [])) (r.is k ∷ [])) ∙ j.same m (types_at nodes (p ∷ [])) (types_at nodes (a ∷ [])) (types_at nodes (p ∷ [])) r.number r.small
    ∙ (λ k. apply m op (types_at nodes (a ∷ [])) (apply m inner (types_at nodes (p ∷ [])) (sym r.is k ∷ []) ∷ [])) ∙ ap (λ v. apply m op (types_at nodes (a ∷ [])) (v ∷ [])) (sym (i.same m)))
    (ap (λ ty. type_of next (ty ∷ [])) e ∙ j.gives ∙ ap (λ ty. type_of op (ty ∷ [])) (sym typed))
    (All-cons (IsBelow nodes (a ∷ [])) p [] (below_part nodes a p (All-head (IsSubterm nodes a) p [] i.below)) (All-nil (IsBelow nodes (a ∷ [])))))

-- an operation that undoes itself
undone_at : (nodes : List Node) (op : Op) (a p w : ℕ) → WellTyped nodes → IsApplied nodes a op (p ∷ []) → p < length nodes → type_at nodes p ≡ Bits w → type_of op (type_at nodes a ∷ []) ≡ type_at nodes a → type_of op (type_at nodes p ∷ []) ≡ type_at nodes p
    → ((m : Model) (types others : List Ty) (n : ℕ) → n < 2 ^ w → Bv w n ≡ apply m op types (apply m op others (Bv w n ∷ []) ∷ [])) → IsKnown nodes p op (a ∷ [])
undone_at nodes op a p w t i h e g k u = record {
  there = h;
  same = λ m.
      let r = bits_value m nodes p w t h e in
      r.is ∙ u m (types_at nodes (a ∷ [])) (types_at nodes (p ∷ [])) r.number r.small
      ∙ (λ j. apply m op (types_at nodes (a ∷ [])) (apply m op (types_at nodes (p ∷ [])) (sym r.is j ∷ []) ∷ [])) ∙ ap (λ v. apply m op (types_at nodes (a ∷ [])) (v ∷ [])) (sym (i.same m));
  ty = sym k ∙ sym i.ty ∙ sym g;
  below = below_part nodes a p (All-head (IsSubterm nodes a) p [] i.below);
}

pub undone_known : (nodes : List Node) (op inner : Op) (a p : ℕ) → WellTyped nodes → Undoes op inner → IsApplied nodes a inner (p ∷ []) → p < length nodes → IsKnown nodes p op (a ∷ [])
undone_known nodes op inner a p t complements i h =
    let e = first_of_one (type_at nodes p) (Bits i.suits.0) i.suits.1 in
    undone_at nodes BvNot a p i.suits.0 t i h e refl refl (λ m types others n small. ap (Bv i.suits.0) (sym (turned_back i.suits.0 n small)))
undone_known nodes op inner a p t negations i h =
    let e = first_of_one (type_at nodes p) (Bits i.suits.0) i.suits.1 in
    undone_at nodes BvNeg a p i.suits.0 t i h e refl refl (λ m types others n small. ap (Bv i.suits.0) (sym (negated_back i.suits.0 n small)))

-- an operation that leaves bits as they are
record KeepsBits (op : Op) (w : ℕ) : Type 0 where
  gives : type_of op (Bits w ∷ []) ≡ Bits w
  same : (m : Model) (types : List Ty) (n : ℕ) → n < 2 ^ w → Bv w n ≡ apply m op types (Bv w n ∷ [])

none_more : (w k : ℕ) → k ≡ 0 → w + k ≡ w
none_more w k e = omega (arith, e)

all_bits : (h l w : ℕ) → l ≡ 0 → h + 1 ≡ w → h - l + 1 ≡ w
all_bits h l w e f = omega (arith, e, f)

keeps_bits : (op : Op) (w : ℕ) → keeps_all op w ≡ true → KeepsBits op w
keeps_bits (Extract h l) w k =
    let b = and_true k in
    let low = eqb-true l 0 b.0 in
    let high = eqb-true (h + 1) w b.1 in
    let long = all_bits h l w low high in
    record {
      gives = ap Bits long;
      same = λ m types n small. (λ i. Bv (sym long i) (sym (ap (λ x. extracted h x n) low ∙ cut_all n h (subst (λ x. n < 2 ^ x) (sym high) small)) i));
    }
keeps_bits (ZeroExt more) w k = let long = none_more w more (eqb-true more 0 k) in record { gives = ap Bits long; same = λ m types n small. ap (λ x. Bv x n) (sym long) }
keeps_bits (SignExt more) w k =
    let none = eqb-true more 0 k in
    let long = none_more w more none in
    record { gives = ap Bits long; same = λ m types n small. (λ i. Bv (sym long i) (sym (ap (λ x. sign_extended w x n) none ∙ signs_none w n) i)) }
keeps_bits other w k = cc

pub whole_known : (nodes : List Node) (op : Op) (a w : ℕ) → WellTyped nodes → a < length nodes → type_at nodes a ≡ Bits w → keeps_all op w ≡ true → IsKnown nodes a op (a ∷ [])
whole_known nodes op a w t h e k =
    let b = keeps_bits op w k in
    record {
      there = h;
      same = λ m.
          let r = bits_value m nodes a w t h e in
          r.is ∙ b.same m (types_at nodes (a ∷ [])) r.number r.small ∙ (λ i. apply m op (types_at nodes (a ∷ [])) (sym r.is i ∷ []));
      ty = e ∙ sym b.gives ∙ ap (λ ty. type_of op (ty ∷ [])) (sym e);
      below = below_part nodes a a itself;
    }

-- an extraction from one part of a concatenation
record IsSplit (nodes : List Node) (a x y h l : ℕ) : Type 0 where
  left : ℕ
  right : ℕ
  left_type : type_at nodes x ≡ Bits left
  right_type : type_at nodes y ≡ Bits right
  left_there : x < length nodes
  right_there : y < length nodes
  order : l ≤ h
  top : h < left + right

split_at : (nodes : List Node) (a x y h l : ℕ) → IsApplied nodes a Concat (x ∷ y ∷ []) → Suits (Extract h l) (type_at nodes a ∷ []) → IsSplit nodes a x y h l
split_at nodes a x y h l i s =
    let p = first_of_two (type_at nodes x) (type_at nodes y) (Bits i.suits.0) (Bits i.suits.1) i.suits.2 in
    let q = second_of_two (type_at nodes x) (type_at nodes y) (Bits i.suits.0) (Bits i.suits.1) i.suits.2 in
    let typed : type_at nodes a ≡ Bits (i.suits.0 + i.suits.1) = i.ty ∙ (λ k. type_of Concat (p k ∷ q k ∷ [])) in
    let wide : s.0 ≡ i.suits.0 + i.suits.1 = one_width s.0 (i.suits.0 + i.suits.1) (ap (λ ty. ty ∷ []) (sym typed) ∙ s.1) in
    record {
      left = i.suits.0;
      right = i.suits.1;
      left_type = p;
      right_type = q;
      left_there = All-head (λ k. k < length nodes) x (y ∷ []) i.there;
      right_there = All-head (λ k. k < length nodes) y [] (All-tail (λ k. k < length nodes) x (y ∷ []) i.there);
      order = s.2;
      top = omega (arith, s.3, wide);
    }

type_width : (v w : ℕ) (ty : Ty) → ty ≡ Bits v → ty ≡ Bits w → v ≡ w
type_width v w ty e f = let g : Bits v ≡ Bits w = sym e ∙ f in cc

pub right_replaces : (nodes : List Node) (a x y w h l : ℕ) (own : List ℕ) → WellTyped nodes → IsApplied nodes a Concat (x ∷ y ∷ []) → Suits (Extract h l) (type_at nodes a ∷ []) → type_at nodes y ≡ Bits w → h < w → own ≡ y ∷ []
    → Replaces nodes (Extract h l) own (Extract h l) (a ∷ [])
right_replaces nodes a x y w h l own t i s e b q =
    let z = split_at nodes a x y h l i s in
    let same = type_width z.right w (type_at nodes y) z.right_type e in
    let inside : h < z.right = omega (arith, b, same) in
    subst (λ ps. Replaces nodes (Extract h l) ps (Extract h l) (a ∷ [])) (sym q)
    (plain_replaces nodes (Extract h l) (Extract h l) (y ∷ []) (a ∷ []) tt (All-cons (λ k. k < length nodes) y [] z.right_there (All-nil (λ k. k < length nodes)))
    (z.right, ap (λ ty. ty ∷ []) z.right_type, z.order, inside)
    (λ m.
    let u = bits_value m nodes x z.left t z.left_there z.left_type in
    let v = bits_value m nodes y z.right t z.right_there z.right_type in
    (λ k. apply m (Extract h l) (types_at nodes (y ∷ [])) (v.is k ∷ [])) ∙ ap (Bv (h - l + 1)) (sym (cut_low u.number z.right v.number h l z.order inside))
    ∙ (λ k. apply m (Extract h l) (types_at nodes (a ∷ [])) (apply m Concat (types_at nodes (x ∷ y ∷ [])) (sym u.is k ∷ sym v.is k ∷ []) ∷ [])) ∙ ap (λ v. apply m (Extract h l) (types_at nodes (a ∷ [])) (v ∷ [])) (sym (i.same m)))
    refl
    (All-cons (IsBelow nodes (a ∷ [])) y [] (below_part nodes a y (All-head (IsSubterm nodes a) y [] (All-tail (IsSubterm nodes a) x (y ∷ []) i.below))) (All-nil (IsBelow nodes (a ∷ [])))))

pub left_replaces : (nodes : List Node) (a x y w h l top bottom : ℕ) (own : List ℕ) → WellTyped nodes → IsApplied nodes a Concat (x ∷ y ∷ []) → Suits (Extract h l) (type_at nodes a ∷ []) → type_at nodes y ≡ Bits w → w ≤ l → top ≡ h - w → bottom ≡ l - w → own ≡ x ∷ []
    → Replaces nodes (Extract top bottom) own (Extract h l) (a ∷ [])
left_replaces nodes a x y w h l top bottom own t i s e b f g q =
    let z = split_at nodes a x y h l i s in
    let same = type_width z.right w (type_at nodes y) z.right_type e in
    let far : z.right ≤ l = omega (arith, b, same) in
    let upper : top ≡ h - z.right = omega (arith, f, same) in
    let lower : bottom ≡ l - z.right = omega (arith, g, same) in
    let long : top - bottom + 1 ≡ h - l + 1 = omega (arith, upper, lower, far, z.order) in
    subst (λ ps. Replaces nodes (Extract top bottom) ps (Extract h l) (a ∷ [])) (sym q)
    (plain_replaces nodes (Extract top bottom) (Extract h l) (x ∷ []) (a ∷ []) tt (All-cons (λ k. k < length nodes) x [] z.left_there (All-nil (λ k. k < length nodes)))
    (z.left, ap (λ ty. ty ∷ []) z.left_type, omega (arith, upper, lower, far, z.order), omega (arith, upper, far, z.order, z.top))
    (λ m.
    let u = bits_value m nodes x z.left t z.left_there z.left_type in
    let v = bits_value m nodes y z.right t z.right_there z.right_type in
    let number : extracted top bottom u.number ≡ extracted h l (u.number * 2 ^ z.right + v.number) =
    (λ k. extracted (upper k) (lower k) u.number) ∙ sym (cut_high u.number z.right v.number h l v.small far z.order) in
    (λ k. apply m (Extract top bottom) (types_at nodes (x ∷ [])) (u.is k ∷ [])) ∙ (λ k. Bv (long k) (number k))
    ∙ (λ k. apply m (Extract h l) (types_at nodes (a ∷ [])) (apply m Concat (types_at nodes (x ∷ y ∷ [])) (sym u.is k ∷ sym v.is k ∷ []) ∷ [])) ∙ ap (λ v. apply m (Extract h l) (types_at nodes (a ∷ [])) (v ∷ [])) (sym (i.same m)))
    (ap Bits long)
    (All-cons (IsBelow nodes (a ∷ [])) x [] (below_part nodes a x (All-head (IsSubterm nodes a) x (y ∷ []) i.below)) (All-nil (IsBelow nodes (a ∷ [])))))

-- an extraction from the zeros of an extension
pub zeros_right : (nodes : List Node) (a p w h l more count : ℕ) (inner : Op) (step : Step) → WellTyped nodes → a < length nodes → inner ≡ ZeroExt more → IsApplied nodes a inner (p ∷ []) → p < length nodes → type_at nodes p ≡ Bits w → w ≤ l
    → Suits (Extract h l) (type_at nodes a ∷ []) → count ≡ h - l + 1 → step ≡ Other (Const (Bits count) (Bv count 0)) [] → IsRight nodes (Extract h l) (a ∷ []) step
zeros_right nodes a p w h l more count inner step t g n x b e far s c made =
    let i = subst (λ o. IsApplied nodes a o (p ∷ [])) n x in
    let valid : Valid (Bits count) = subst (λ k. Valid (Bits k)) (sym c) (type_of-valid (Extract h l) (types_at nodes (a ∷ [])) s (types-valid nodes (a ∷ []) t (All-cons (λ k. k < length nodes) a [] g (All-nil (λ k. k < length nodes))))) in
    subst (IsRight nodes (Extract h l) (a ∷ [])) (sym made)
    (constant_replaces nodes (Extract h l) (a ∷ []) [] (Bits count) (Bv count 0) (ap Bits c) valid refl (fits-IsBits count 0 (pow_pos count))
    (λ m.
    let r = bits_value m nodes p w t b e in
    ap (λ v. apply m (Extract h l) (types_at nodes (a ∷ [])) (v ∷ [])) (i.same m) ∙ (λ k. apply m (Extract h l) (types_at nodes (a ∷ [])) (apply m (ZeroExt more) (types_at nodes (p ∷ [])) (r.is k ∷ []) ∷ []))
    ∙ (λ k. Bv (sym c k) (cut_zeros w r.number h l r.small far k)))
    refl)
