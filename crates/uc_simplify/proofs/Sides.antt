-- Comparisons of integers over their difference.
use Rattle.std.specs.Prelude.{◌≡◌, ◌⊎◌, ℕ, ℤ, pos, ◌+ℤ◌, ◌-ℤ◌, ◌*ℤ◌, ◌+◌, ◌<◌, ◌≤◌, Bool as Truth, true, false, int_le, IsTrue, List, [], ◌∷◌, ◌++◌, length, All, Contains, Option, Some, None, Result, Ok, Err, IfOk, IfSome}
use Rattle.std.specs.Ordering.{int_eq}
use Rattle.std.proofs.Common.{refl, sym, ap, ◌∙◌, arith, subst, inl, inr, take, get_or, zero, suc}
use Rattle.std.proofs.lemmas.Int.{ints}
use Rattle.std.proofs.Math.IntN.{zero-*ℤ}
use Rattle.uc_linear.proofs.Sums.{product-sum}
use Rattle.std.proofs.lemmas.Bool.Decides.{Decides-int_eq}
use Rattle.std.proofs.lemmas.List.{take_all}
use Rattle.std.proofs.lemmas.List.Elements.{All-nil, All-cons, All-weaker, All-contains}
use Rattle.uc_values.specs.Values.{fits, number_of}
use Rattle.uc_values.specs.Sameness.{Sameness}
use Rattle.uc_values.specs.declared.ty.Ty.{Ty}
use Rattle.uc_values.specs.declared.ty.Ty.TheVariants.{Bool as Boolean, Int as Integer}
use Rattle.uc_values.specs.declared.value.Value.TheVariants.{Bool as Holds, Int}
use Rattle.uc_values.proofs.Fitting.{IsInteger-fits}
use Rattle.uc_values.proofs.Agreement.{sameness-Int}
use Rattle.uc_linear.specs.Linear.{Pair, Linear, sum_at}
use Rattle.uc_ops.specs.declared.model.Model.{Model}
use Rattle.uc_ops.specs.declared.op.Op.{Op}
use Rattle.uc_ops.specs.declared.op.Op.TheVariants.{Eq as Equal, Le}
use Rattle.uc_ops.specs.declared.node.Node.{Node}
use Rattle.uc_ops.specs.Typing.{Suits, type_of, type_at, types_at}
use Rattle.uc_ops.specs.Meaning.{apply}
use Rattle.uc_terms.specs.Tables.{WellTyped}
use Rattle.uc_terms.specs.Values.{value, values_at}
use Rattle.uc_terms.proofs.Fitting.{value-fits}
use Rattle.uc_simplify.specs.Forms.{IsFormOf, number_at}
use Rattle.uc_simplify_steps.specs.Features.{Feature, Brings, OneBrings}
use Rattle.uc_simplify_steps.proofs.Steps.{IsPlain, plain-shows}
use Rattle.uc_simplify_steps.proofs.Alike.{equal_truths}
use Rattle.uc_simplify.specs.Simplified.{Grows, Rebuilds}
use Rattle.uc_simplify.specs.Integers.{AreIntegers, PairBrings, IsSumOf, SameVariables, AreSides, compares, compared}
use Rattle.uc_simplify.proofs.Standing.{Grows-length, value-same, type-same, brings-back}
use Rattle.uc_simplify.proofs.Compared.{pair_there}
use Rattle.uc_simplify.proofs.Gathered.{sum_at-append, sum_at-next, form_brings, form_integers}

-- integers compare as their differences do
at_most : (a b x y : ℤ) → a -ℤ b ≡ x -ℤ y → int_le a b ≡ true → int_le x y ≡ true
at_most a b x y e h = by (int_le x y) refl
  where
    by : (t : Truth) → int_le x y ≡ t → t ≡ true
    by true q = refl
    by false q = absurd (omega (arith, ints, e, h, q))

equal : (a b x y : ℤ) → a -ℤ b ≡ x -ℤ y → int_eq a b ≡ true → int_eq x y ≡ true
equal a b x y e h = let s : a ≡ b = (Decides-int_eq a b).0 h in (Decides-int_eq x y).1 (omega (arith, ints, e, s))

compared_same : (op : Op) (a b x y : ℤ) → compares op ≡ true → a -ℤ b ≡ x -ℤ y → compared op a b ≡ compared op x y
compared_same Le a b x y h e = equal_truths (int_le a b) (int_le x y) (at_most a b x y e) (at_most x y a b (sym e))
compared_same Equal a b x y h e = equal_truths (int_eq a b) (int_eq x y) (equal a b x y e) (equal x y a b (sym e))
compared_same other a b x y h e = cc

compared_value : (op : Op) (m : Model) (x y : ℤ) → compares op ≡ true → apply m op (Integer ∷ Integer ∷ []) (Int x ∷ Int y ∷ []) ≡ Holds (compared op x y)
compared_value Le m x y h = refl
compared_value Equal m x y h = ap (λ (s : Sameness). Holds (s.same (Int x) (Int y))) sameness-Int
compared_value other m x y h = cc

compared_type : (op : Op) (types : List Ty) → compares op ≡ true → type_of op types ≡ Boolean
compared_type Le types h = refl
compared_type Equal types h = refl
compared_type other types h = cc

compared_plain : (op : Op) → compares op ≡ true → IsPlain op
compared_plain Le h = tt
compared_plain Equal h = tt
compared_plain other h = cc

-- two terms of integers may be compared
pub compared_suits : (nodes : List Node) (op : Op) (a b : ℕ) → compares op ≡ true → type_at nodes a ≡ Integer → type_at nodes b ≡ Integer → Suits op (types_at nodes (a ∷ b ∷ []))
compared_suits nodes Le a b h e f = λ i. e i ∷ f i ∷ []
compared_suits nodes Equal a b h e f = (Integer, λ i. e i ∷ f i ∷ [])
compared_suits nodes other a b h e f = cc

integer_value : (m : Model) (nodes : List Node) (t : ℕ) → WellTyped nodes → t < length nodes → type_at nodes t ≡ Integer → value m nodes t ≡ Int (number_at m nodes t)
integer_value m nodes t w h e =
    let r = IsInteger-fits (value m nodes t) (subst (λ ty. IsTrue (fits ty (value m nodes t))) e (value-fits m nodes t w h)) in
    r.is ∙ ap (λ v. Int (number_of v)) (sym r.is)

equal_turned : (x y : ℤ) → int_eq x y ≡ true → int_eq y x ≡ true
equal_turned x y h = (Decides-int_eq y x).1 (sym ((Decides-int_eq x y).0 h))

turned_value : (nodes : List Node) (m : Model) (a b : ℕ) → WellTyped nodes → a < length nodes → b < length nodes → type_at nodes a ≡ Integer → type_at nodes b ≡ Integer
    → apply m Equal (types_at nodes (b ∷ a ∷ [])) (values_at m nodes (b ∷ a ∷ [])) ≡ apply m Equal (types_at nodes (a ∷ b ∷ [])) (values_at m nodes (a ∷ b ∷ []))
turned_value nodes m a b w h g e f =
    let x = number_at m nodes a in
    let y = number_at m nodes b in
    let va = integer_value m nodes a w h e in
    let vb = integer_value m nodes b w g f in
    (λ i. apply m Equal (f i ∷ e i ∷ []) (vb i ∷ va i ∷ []))
    ∙ compared_value Equal m y x refl
    ∙ ap Holds (equal_truths (int_eq y x) (int_eq x y) (equal_turned y x) (equal_turned x y))
    ∙ sym (compared_value Equal m x y refl)
    ∙ (λ i. apply m Equal (sym e i ∷ sym f i ∷ []) (sym va i ∷ sym vb i ∷ []))

turned_brings : (nodes : List Node) (a b : ℕ) (f : Feature) → OneBrings nodes (b ∷ a ∷ []) f → OneBrings nodes (a ∷ b ∷ []) f
turned_brings nodes a b f o = record { one = o.one; listed = other o.one o.listed; brings = o.brings }
  where
    other : (k : ℕ) → Contains (b ∷ a ∷ []) k → Contains (a ∷ b ∷ []) k
    other k (zero, h, e) = (1, omega arith, e)
    other k (suc zero, h, e) = (0, omega arith, e)
    other k (suc (suc j), h, e) = absurd (omega (arith, h))

turned_rebuilds : (new nodes : List Node) (r a b : ℕ) → WellTyped nodes → a < length nodes → b < length nodes → type_at nodes a ≡ Integer → type_at nodes b ≡ Integer → Rebuilds new r nodes Equal (b ∷ a ∷ []) → Rebuilds new r nodes Equal (a ∷ b ∷ [])
turned_rebuilds new nodes r a b w h g e f s = record {
  there = s.there;
  same = λ m. s.same m ∙ turned_value nodes m a b w h g e f;
  ty = s.ty;
  features = λ x z. elim (s.features x z) [
    | inl i ↦ inl (plain-shows Equal Equal (types_at nodes (b ∷ a ∷ [])) (types_at nodes (a ∷ b ∷ [])) Boolean Boolean x tt refl i)
    | inr o ↦ inr (turned_brings nodes a b x o)
  ];
}

-- an equality is that of its parts in the other order, where they are integers
pub turned_called : {E : Type 0} (new nodes : List Node) (a b : ℕ) (o : Result (Option ℕ) E) → WellTyped nodes → a < length nodes → b < length nodes → type_at nodes a ≡ Integer → type_at nodes b ≡ Integer → IfOk o (λ p. IfSome p (λ r. Rebuilds new r nodes Equal (b ∷ a ∷ [])))
    → IfOk o (λ p. IfSome p (λ r. Rebuilds new r nodes Equal (a ∷ b ∷ [])))
turned_called new nodes a b (Err x) w h g e f s = tt
turned_called new nodes a b (Ok None) w h g e f s = tt
turned_called new nodes a b (Ok (Some r)) w h g e f s = turned_rebuilds new nodes r a b w h g e f s

-- the pairs of a table are those of it when it has grown, and have the same sum
pub integers_on : (old now : List Node) (pairs : List Pair) → Grows old now → AreIntegers old pairs → AreIntegers now pairs
integers_on old now pairs g i =
    All-weaker (λ (p : Pair). (p.0 < length old) × (type_at old p.0 ≡ Integer)) (λ (p : Pair). (p.0 < length now) × (type_at now p.0 ≡ Integer)) (λ p h. (omega (arith, h.0, Grows-length old now g), type-same old now p.0 g h.0 ∙ h.1)) pairs i

sum_same : (old now : List Node) (m : Model) (pairs : List Pair) → Grows old now → ((p : Pair) → Contains pairs p → p.0 < length old) → sum_at (number_at m now) pairs ≡ sum_at (number_at m old) pairs
sum_same old now m [] g i = refl
sum_same old now m (p ∷ ps) g i =
    (λ j. p.1 *ℤ number_of (value-same old now m p.0 g (i p (0, omega arith, refl)) j) +ℤ sum_same old now m ps g (λ q c. i q (suc c.0, omega (arith, c.1), c.2)) j)

-- a sum of terms of a table that has grown is one of the terms of the table before
sum_earlier : (old now new : List Node) (r : ℕ) (constant : ℤ) (pairs : List Pair) → WellTyped old → Grows old now → AreIntegers old pairs → IsSumOf new r now constant pairs → IsSumOf new r old constant pairs
sum_earlier old now new r constant pairs w g i s =
    let there : (p : Pair) → Contains pairs p → p.0 < length old = λ p c. (All-contains (λ (p : Pair). (p.0 < length old) × (type_at old p.0 ≡ Integer)) pairs p i c).0 in
    record {
      there = s.there;
      same = λ m. s.same m ∙ ap (λ z. Int (constant +ℤ z)) (sum_same old now m pairs g there);
      ty = s.ty;
      features = λ f h. elim (s.features f h) [ inl e ↦ inl e | inr b ↦ inr (b.0, b.1, brings-back old now b.0.0 f w g (there b.0 b.1) b.2) ];
    }

-- and is one when the table of the sum grows
sum_later : (old a b : List Node) (r : ℕ) (constant : ℤ) (pairs : List Pair) → WellTyped a → Grows a b → IsSumOf a r old constant pairs → IsSumOf b r old constant pairs
sum_later old a b r constant pairs w g s = record {
  there = omega (arith, s.there, Grows-length a b g);
  same = λ m. value-same a b m r g s.there ∙ s.same m;
  ty = type-same a b r g s.there ∙ s.ty;
  features = λ f h. s.features f (brings-back a b r f w g s.there h);
}

pub sides_integers : (nodes : List Node) (side pairs : List Pair) → SameVariables side pairs → AreIntegers nodes pairs → AreIntegers nodes side
sides_integers nodes side pairs v i = each side v
  where
    each : (ps : List Pair) → SameVariables ps pairs → AreIntegers nodes ps
    each [] h = All-nil (λ (p : Pair). (p.0 < length nodes) × (type_at nodes p.0 ≡ Integer))
    each (p ∷ ps) h =
        let q = h p (0, omega arith, refl) in
        All-cons (λ (p : Pair). (p.0 < length nodes) × (type_at nodes p.0 ≡ Integer)) p ps
        (subst (λ k. (k < length nodes) × (type_at nodes k ≡ Integer)) q.2 (All-contains (λ (p : Pair). (p.0 < length nodes) × (type_at nodes p.0 ≡ Integer)) pairs q.0 i q.1))
        (each ps (λ r c. h r (suc c.0, omega (arith, c.1), c.2)))

side_brings : (nodes : List Node) (side pairs : List Pair) (f : Feature) → SameVariables side pairs → PairBrings nodes side f → PairBrings nodes pairs f
side_brings nodes side pairs f v (inl e) = inl e
side_brings nodes side pairs f v (inr b) = let q = v b.0 b.1 in inr (q.0, q.1, subst (λ k. Brings nodes k f) (sym q.2) b.2)

difference_is : (z c p first second l r : ℤ) → c +ℤ p ≡ z → first -ℤ second ≡ c → l -ℤ r ≡ p → z ≡ (first +ℤ l) -ℤ (second +ℤ r)
difference_is z c p first second l r e f g = omega (arith, ints, e, f, g)

-- a comparison of what is left and what is right stands for that of the terms
pub sides_rebuild : (old one two new : List Node) (op next : Op) (a b l r t : ℕ) (own : List ℕ) (form : Linear) (constant first second : ℤ) (pairs left right : List Pair) → WellTyped old → WellTyped one → a < length old → b < length old → type_at old a ≡ Integer → type_at old b ≡ Integer
    → compares op ≡ true → IsFormOf old (a ∷ b ∷ []) form (λ m. number_at m old a -ℤ number_at m old b) → constant ≡ form.constant → pairs ≡ form.pairs → first -ℤ second ≡ constant → AreSides left right pairs
    → Grows old one → Grows one two → IsSumOf one l old first left → IsSumOf two r one second right → next ≡ op → own ≡ l ∷ r ∷ [] → Rebuilds new t two next own → Rebuilds new t old op (a ∷ b ∷ [])
sides_rebuild old one two new op next a b l r t own form constant first second pairs left right w v h g ea eb c x ec ep es sides ga gb p q en eo s =
    let made = subst (λ o. Rebuilds new t two o (l ∷ r ∷ [])) en (subst (Rebuilds new t two next) eo s) in
    let integers = form_integers old (a ∷ b ∷ []) form (λ m. number_at m old a -ℤ number_at m old b) pairs ep x in
    let x1 = sum_later old one two l first left v gb p in
    let y1 = sum_earlier old one two r second right w ga (sides_integers old right pairs sides.right_variables integers) q in
    let brings : (f : Feature) → PairBrings old pairs f → OneBrings old (a ∷ b ∷ []) f = λ f z.
    form_brings old (a ∷ b ∷ []) form (λ m. number_at m old a -ℤ number_at m old b) f (omega arith) (pair_there old a b h g) (All-cons (λ p. type_at old p ≡ Integer) a (b ∷ []) ea (All-cons (λ p. type_at old p ≡ Integer) b [] eb (All-nil (λ p. type_at old p ≡ Integer)))) x
    (subst (λ ps. PairBrings old ps f) ep z) in
    record {
      there = made.there;
      same = λ m.
          let point = number_at m old in
          made.same m
          ∙ (λ i. apply m op (x1.ty i ∷ y1.ty i ∷ []) (x1.same m i ∷ y1.same m i ∷ []))
          ∙ compared_value op m (first +ℤ sum_at point left) (second +ℤ sum_at point right) c
          ∙ ap Holds (sym (compared_same op (point a) (point b) (first +ℤ sum_at point left) (second +ℤ sum_at point right) c
          (difference_is (point a -ℤ point b) constant (sum_at point pairs) first second (sum_at point left) (sum_at point right) ((λ i. ec i +ℤ sum_at point (ep i)) ∙ x.same m) es (sides.same point))))
          ∙ sym (compared_value op m (point a) (point b) c)
          ∙ (λ i. apply m op (sym ea i ∷ sym eb i ∷ []) (sym (integer_value m old a w h ea) i ∷ sym (integer_value m old b w g eb) i ∷ []));
      ty = made.ty ∙ compared_type op (types_at two (l ∷ r ∷ [])) c ∙ sym (compared_type op (types_at old (a ∷ b ∷ [])) c);
      features = λ f z. elim (made.features f z) [
        | inl i ↦ inl (plain-shows op op (types_at two (l ∷ r ∷ [])) (types_at old (a ∷ b ∷ [])) (type_of op (types_at two (l ∷ r ∷ []))) (type_of op (types_at old (a ∷ b ∷ []))) f (compared_plain op c)
            (compared_type op (types_at two (l ∷ r ∷ [])) c ∙ sym (compared_type op (types_at old (a ∷ b ∷ [])) c)) i)
        | inr o ↦ inr (brings f (elim (member o.one o.listed) [
          | inl e ↦ side_brings old left pairs f sides.left_variables (x1.features f (subst (λ k. Brings two k f) e o.brings))
          | inr e ↦ side_brings old right pairs f sides.right_variables (y1.features f (subst (λ k. Brings two k f) e o.brings))
        ]))
      ];
    }
  where
    member : (k : ℕ) → Contains (l ∷ r ∷ []) k → (k ≡ l) ⊎ (k ≡ r)
    member k (zero, h, e) = inl (sym e)
    member k (suc zero, h, e) = inr (sym e)
    member k (suc (suc j), h, e) = absurd (omega (arith, h))

-- a term keeps its type when its table grows
pub type_kept : (a b : List Node) (t : ℕ) → Grows a b → t < length a → type_at a t ≡ Integer → type_at b t ≡ Integer
type_kept a b t g h e = type-same a b t g h ∙ e

pub two_there : (a b : List Node) (l r : ℕ) → Grows a b → l < length a → r < length b → All (λ p. p < length b) (l ∷ r ∷ [])
two_there a b l r g h i = pair_there b l r (omega (arith, h, Grows-length a b g)) i

-- the pairs of each side, so far
pub record Split (left right pairs : List Pair) (place : ℕ) : Type 0 where
  pub same : (point : ℕ → ℤ) → sum_at point left -ℤ sum_at point right ≡ sum_at point (take place pairs)
  pub left_variables : SameVariables left pairs
  pub right_variables : SameVariables right pairs

pub Split-start : (pairs left right : List Pair) → left ≡ [] → right ≡ [] → Split left right pairs 0
Split-start pairs left right e f =
    subst (λ ps. Split ps right pairs 0) (sym e) (subst (λ ps. Split [] ps pairs 0) (sym f) (record { same = λ point. refl; left_variables = λ p c. absurd (omega (arith, c.1)); right_variables = λ p c. absurd (omega (arith, c.1)) }))

pair_or_before : (xs : List Pair) (x p : Pair) → Contains (xs ++ x ∷ []) p → Contains xs p ⊎ (p ≡ x)
pair_or_before [] x p (zero, h, e) = inr (sym e)
pair_or_before [] x p (suc k, h, e) = absurd (omega (arith, h))
pair_or_before (y ∷ xs) x p (zero, h, e) = inl (0, omega arith, e)
pair_or_before (y ∷ xs) x p (suc j, h, e) = elim (pair_or_before xs x p (j, omega (arith, h), e)) [ inl c ↦ inl (suc c.0, omega (arith, c.1), c.2) | inr q ↦ inr q ]

variables_more : (side after pairs : List Pair) (x y : Pair) → SameVariables side pairs → Contains pairs x → x.0 ≡ y.0 → after ≡ side ++ y ∷ [] → SameVariables after pairs
variables_more side after pairs x y v c e q p d =
    elim (pair_or_before side y p (subst (λ xs. Contains xs p) q d)) [ inl l ↦ v p l | inr s ↦ (x, c, e ∙ ap (λ (z : Pair). z.0) (sym s)) ]

left_more : (l r s x : ℤ) → l -ℤ r ≡ s → (l +ℤ (x +ℤ pos 0)) -ℤ r ≡ s +ℤ x
left_more l r s x e = omega (arith, ints, e)

right_more : (l r s x y : ℤ) → l -ℤ r ≡ s → y ≡ pos 0 -ℤ x → l -ℤ (r +ℤ (y +ℤ pos 0)) ≡ s +ℤ x
right_more l r s x y e f = omega (arith, ints, e, f)

opposite : (k z : ℤ) → (pos 0 -ℤ k) *ℤ z ≡ pos 0 -ℤ (k *ℤ z)
opposite k z =
    let none : (pos 0 -ℤ k) +ℤ k ≡ pos 0 = omega (arith, ints) in
    omega (arith, ints, product-sum (pos 0 -ℤ k) k z, ap (λ x. x *ℤ z) none, zero-*ℤ z)

pub Split-left : (left after right pairs : List Pair) (place : ℕ) (x y : Pair) → place < length pairs → x ≡ get_or pairs place x → y ≡ x → after ≡ left ++ y ∷ [] → Split left right pairs place → Split after right pairs (place + 1)
Split-left left after right pairs place x y h e f q s =
    let own : after ≡ left ++ x ∷ [] = q ∙ ap (λ z. left ++ z ∷ []) f in
    record {
      same = λ point.
          ap (λ ps. sum_at point ps -ℤ sum_at point right) own ∙ ap (λ z. z -ℤ sum_at point right) (sum_at-append point left (x ∷ []))
          ∙ left_more (sum_at point left) (sum_at point right) (sum_at point (take place pairs)) (x.1 *ℤ point x.0) (s.same point) ∙ sum_at-next point pairs place x h e;
      left_variables = variables_more left after pairs x x s.left_variables (place, h, sym e) refl own;
      right_variables = s.right_variables;
    }

pub Split-right : (left right after pairs : List Pair) (place : ℕ) (x y : Pair) → place < length pairs → x ≡ get_or pairs place x → y.0 ≡ x.0 → y.1 ≡ pos 0 -ℤ x.1 → after ≡ right ++ y ∷ [] → Split left right pairs place → Split left after pairs (place + 1)
Split-right left right after pairs place x y h e f g q s = record {
  same = λ point.
      ap (λ ps. sum_at point left -ℤ sum_at point ps) q ∙ ap (λ z. sum_at point left -ℤ z) (sum_at-append point right (y ∷ []))
      ∙ right_more (sum_at point left) (sum_at point right) (sum_at point (take place pairs)) (x.1 *ℤ point x.0) (y.1 *ℤ point y.0) (s.same point) ((λ i. g i *ℤ point (f i)) ∙ opposite x.1 (point x.0)) ∙ sum_at-next point pairs place x h e;
  left_variables = s.left_variables;
  right_variables = variables_more right after pairs x y s.right_variables (place, h, sym e) (sym f) q;
}

pub Split-end : (left right pairs : List Pair) (place : ℕ) → length pairs ≤ place → Split left right pairs place → AreSides left right pairs
Split-end left right pairs place h s = record {
  same = λ point. s.same point ∙ ap (sum_at point) (take_all place pairs h);
  left_variables = s.left_variables;
  right_variables = s.right_variables;
}
