-- Operations on integers in a linear normal form.
use Rattle.std.specs.Prelude.{◌≡◌, ◌≢◌, ◌⊎◌, ℕ, ℤ, pos, ◌+ℤ◌, ◌*ℤ◌, ◌+◌, ◌<◌, ◌≤◌, Bool as Truth, true, false, List, [], ◌∷◌, ◌++◌, length, map, All, Contains, Result, Ok, Err, IfOk}
use Rattle.std.proofs.Common.{refl, sym, ap, ◌∙◌, arith, rules, subst, inl, inr, take, get_or, zero, suc}
use Rattle.std.proofs.lemmas.Int.{ints}
use Rattle.std.proofs.lemmas.List.{take_all, take_more}
use Rattle.std.proofs.lemmas.List.Elements.{All-nil, All-cons, All-head, All-tail, All-append, All-weaker, All-map, All-contains}
use Rattle.uc_values.specs.Values.{number_of}
use Rattle.uc_values.specs.Sameness.{same}
use Rattle.uc_values.specs.declared.ty.Ty.{Ty}
use Rattle.uc_values.specs.declared.ty.Ty.TheVariants.{Int as Integer, rolls-Int}
use Rattle.uc_values.specs.declared.ty.Ty.TheFolds.{fold-roll-Ty}
use Rattle.uc_values.specs.declared.ty.Ty.TheViews.{the_lemmas}
use Rattle.uc_values.specs.declared.ty.Ty.TheOpen.Ty-F.{Int as integer_type}
use Rattle.uc_values.specs.declared.value.Value.{Value}
use Rattle.uc_values.specs.declared.value.Value.TheVariants.{Int}
use Rattle.uc_linear.specs.Linear.{Pair, Linear, sum_at}
use Rattle.uc_ops.specs.declared.model.Model.{Model}
use Rattle.uc_ops.specs.declared.op.Op.{Op}
use Rattle.uc_ops.specs.declared.op.Op.TheVariants.{Const, Add, Scale}
use Rattle.uc_ops.specs.declared.node.Node.{Node}
use Rattle.uc_ops.specs.Typing.{Suits, type_of, type_at, types_at}
use Rattle.uc_ops.specs.Meaning.{apply, total}
use Rattle.uc_ops.proofs.Lists.{at_place}
use Rattle.uc_terms.specs.Tables.{WellTyped}
use Rattle.uc_terms.specs.Values.{values_at}
use Rattle.uc_terms.specs.Subterms.{itself}
use Rattle.uc_terms.proofs.Grown.{type-node}
use Rattle.uc_simplify.specs.Forms.{IsFormOf, number_at, numbers_at}
use Rattle.uc_simplify.proofs.Forms.{numbers-append}
use Rattle.uc_simplify_steps.specs.Features.{Feature, symbol, function, integer, array, difference, integer_form, holds_integer, is_array, Shows, Brings, OneBrings}
use Rattle.uc_simplify_steps.proofs.Features.{brings-below}
use Rattle.uc_simplify_steps.proofs.Steps.{IsPlain}
use Rattle.uc_simplify.specs.Simplified.{Grows, Rebuilds}
use Rattle.uc_simplify.specs.Integers.{AreIntegers, PairBrings, IsInteger, IsTimes, IsSumOf, Adding}
use Rattle.uc_simplify.proofs.Standing.{Grows-none, Grows-trans, Grows-length, value-same, type-same, brings-back}
use Rattle.uc_simplify.proofs.Compared.{values_same}

no_array : is_array Integer ≡ false
no_array = search (rules, the_lemmas)

has_integer : holds_integer Integer ≡ true
has_integer = ap holds_integer (sym rolls-Int) ∙ fold-roll-Ty Truth integer_form integer_type

-- an operation without a name that gives an integer shows nothing else
integer_shows : (op : Op) (types : List Ty) (f : Feature) → IsPlain op → Shows op types Integer f → f ≡ integer
integer_shows op types (symbol number s) p h = absurd (subst IsPlain h p)
integer_shows op types (function number arguments s) p h = absurd (subst IsPlain h.0 p)
integer_shows op types integer p h = refl
integer_shows op types array p h = absurd (clash (sym no_array ∙ h))
  where
    clash : false ≡ true → ⊥
    clash e = cc
integer_shows op types difference p h = absurd (subst IsPlain h p)

listed_one : (v r : ℕ) → Contains (v ∷ []) r → r ≡ v
listed_one v r (zero, h, e) = sym e
listed_one v r (suc k, h, e) = absurd (omega (arith, h))

times_made : (new old : List Node) (r v : ℕ) (factor : ℤ) → Rebuilds new r old (Scale factor) (v ∷ []) → IsTimes new r old factor v
times_made new old r v factor s = record {
  there = s.there;
  same = s.same;
  ty = s.ty;
  features = λ f h. elim (s.features f h) [
    | inl i ↦ inl (integer_shows (Scale factor) (types_at old (v ∷ [])) f tt i)
    | inr o ↦ inr (subst (λ k. Brings old k f) (listed_one v o.one o.listed) o.brings)
  ];
}

-- the answer of a call is a multiple
pub times_called : {E : Type 0} (new old : List Node) (v : ℕ) (own : List ℕ) (factor : ℤ) (o : Result ℕ E) → own ≡ v ∷ [] → IfOk o (λ r. Rebuilds new r old (Scale factor) own) → IfOk o (λ r. IsTimes new r old factor v)
times_called new old v own factor (Err e) q s = tt
times_called new old v own factor (Ok r) q s = times_made new old r v factor (subst (Rebuilds new r old (Scale factor)) q s)

number_made : (new old : List Node) (r : ℕ) (z : ℤ) → Rebuilds new r old (Const Integer (Int z)) [] → IsInteger new r (λ m. z) (λ f. f ≡ integer)
number_made new old r z s = record {
  there = s.there;
  same = s.same;
  ty = s.ty;
  features = λ f h. elim (s.features f h) [ inl i ↦ integer_shows (Const Integer (Int z)) [] f tt i | inr o ↦ absurd (omega (arith, o.listed.1)) ];
}

-- the answer of a call is a constant
pub number_called : {E : Type 0} (new old : List Node) (own : List ℕ) (z : ℤ) (o : Result ℕ E) → own ≡ [] → IfOk o (λ r. Rebuilds new r old (Const Integer (Int z)) own) → IfOk o (λ r. IsInteger new r (λ m. z) (λ f. f ≡ integer))
number_called new old own z (Err e) q s = tt
number_called new old own z (Ok r) q s = number_made new old r z (subst (Rebuilds new r old (Const Integer (Int z))) q s)

-- a list of terms with one more
pub last_or_before : (xs : List ℕ) (r k : ℕ) → Contains (xs ++ r ∷ []) k → Contains xs k ⊎ (k ≡ r)
last_or_before [] r k c = inr (listed_one r k c)
last_or_before (x ∷ xs) r k (zero, h, e) = inl (0, omega arith, e)
last_or_before (x ∷ xs) r k (suc j, h, e) = elim (last_or_before xs r k (j, omega (arith, h), e)) [ inl c ↦ inl (suc c.0, omega (arith, c.1), c.2) | inr q ↦ inr q ]

alone : (z : ℤ) → z +ℤ pos 0 ≡ z
alone z = omega (arith, ints)

-- one integer more
pub Adding-push : (old now new : List Node) (parts after : List ℕ) (pairs : List Pair) (z w y : Model → ℤ) (r : ℕ) → Adding old now parts pairs z → WellTyped new → Grows now new → IsInteger new r w (PairBrings old pairs) → after ≡ parts ++ r ∷ [] → ((m : Model) → z m +ℤ w m ≡ y m)
    → Adding old new after pairs y
Adding-push old now new parts after pairs z w y r a v g i e s = record {
  grown = Grows-trans old now new a.grown g;
  well = v;
  there = subst (All (λ p. p < length new)) (sym e)
      (All-append (λ p. p < length new) parts (r ∷ []) (All-weaker (λ p. p < length now) (λ p. p < length new) (λ p l. omega (arith, l, Grows-length now new g)) parts a.there) (All-cons (λ p. p < length new) r [] i.there (All-nil (λ p. p < length new))));
  types = subst (All (λ p. type_at new p ≡ Integer)) (sym e) (All-append (λ p. type_at new p ≡ Integer) parts (r ∷ []) (types_on now new parts g a.there a.types) (All-cons (λ p. type_at new p ≡ Integer) r [] i.ty (All-nil (λ p. type_at new p ≡ Integer))));
  same = λ m.
      ap (numbers_at m new) e ∙ numbers-append m new parts (r ∷ []) ∙ (λ j. (ap (λ vs. numbers vs) (values_same now new m parts g a.there) ∙ a.same m) j +ℤ (alone (number_at m new r) ∙ ap number_of (i.same m)) j) ∙ s m;
  features = λ f o. elim (last_or_before parts r o.one (subst (λ xs. Contains xs o.one) e o.listed)) [
    | inl c ↦ a.features f (record { one = o.one; listed = c; brings = brings-back now new o.one f a.well g (All-contains (λ p. p < length now) parts o.one a.there c) o.brings })
    | inr q ↦ i.features f (subst (λ k. Brings new k f) q o.brings)
  ];
}
  where
    numbers : List Value → ℤ
    numbers vs = total (map number_of vs)

    types_on : (now new : List Node) (parts : List ℕ) → Grows now new → All (λ p. p < length now) parts → All (λ p. type_at now p ≡ Integer) parts → All (λ p. type_at new p ≡ Integer) parts
    types_on now new [] g h t = All-nil (λ p. type_at new p ≡ Integer)
    types_on now new (p ∷ ps) g h t =
        All-cons (λ p. type_at new p ≡ Integer) p ps (type-same now new p g (All-head (λ p. p < length now) p ps h) ∙ All-head (λ p. type_at now p ≡ Integer) p ps t)
        (types_on now new ps g (All-tail (λ p. p < length now) p ps h) (All-tail (λ p. type_at now p ≡ Integer) p ps t))

pub Adding-start : (old : List Node) (parts : List ℕ) (pairs : List Pair) → WellTyped old → parts ≡ [] → Adding old old parts pairs (λ m. sum_at (number_at m old) (take 0 pairs))
Adding-start old parts pairs w e = subst (λ ps. Adding old old ps pairs (λ m. sum_at (number_at m old) (take 0 pairs))) (sym e) (record {
  grown = Grows-none old;
  well = w;
  there = All-nil (λ p. p < length old);
  types = All-nil (λ p. type_at old p ≡ Integer);
  same = λ m. refl;
  features = λ f o. absurd (omega (arith, o.listed.1));
})

pub sum_at-append : (point : ℕ → ℤ) (xs ys : List Pair) → sum_at point (xs ++ ys) ≡ sum_at point xs +ℤ sum_at point ys
sum_at-append point [] ys = omega (arith, ints)
sum_at-append point (x ∷ xs) ys = omega (arith, ints, sum_at-append point xs ys)

pub sum_at-next : (point : ℕ → ℤ) (pairs : List Pair) (k : ℕ) (x : Pair) → k < length pairs → x ≡ get_or pairs k x → sum_at point (take k pairs) +ℤ x.1 *ℤ point x.0 ≡ sum_at point (take (k + 1) pairs)
sum_at-next point pairs k x h e =
    sym (ap (sum_at point) (take_more pairs k x h ∙ ap (λ y. take k pairs ++ y ∷ []) (sym e)) ∙ sum_at-append point (take k pairs) (x ∷ []) ∙ ap (λ z. sum_at point (take k pairs) +ℤ z) (alone (x.1 *ℤ point x.0)))

-- one multiple more
pub multiples_next : (old now new : List Node) (parts after : List ℕ) (pairs : List Pair) (k r : ℕ) (x : Pair) → WellTyped old → AreIntegers old pairs → k < length pairs → x ≡ get_or pairs k x → Adding old now parts pairs (λ m. sum_at (number_at m old) (take k pairs))
    → WellTyped new → Grows now new → IsTimes new r now x.1 x.0 → after ≡ parts ++ r ∷ [] → Adding old new after pairs (λ m. sum_at (number_at m old) (take (k + 1) pairs))
multiples_next old now new parts after pairs k r x w i h e a v g t q =
    let listed : Contains pairs x = (k, h, sym e) in
    let there = (All-contains (λ (p : Pair). (p.0 < length old) × (type_at old p.0 ≡ Integer)) pairs x i listed).0 in
    let numbers : (m : Model) → number_at m now x.0 ≡ number_at m old x.0 = λ m. ap number_of (value-same old now m x.0 a.grown there) in
    Adding-push old now new parts after pairs (λ m. sum_at (number_at m old) (take k pairs)) (λ m. x.1 *ℤ number_at m old x.0) (λ m. sum_at (number_at m old) (take (k + 1) pairs)) r a v g
    (record {
      there = t.there;
      same = λ m. t.same m ∙ ap (λ z. Int (x.1 *ℤ z)) (numbers m);
      ty = t.ty;
      features = λ f b. elim (t.features f b) [ inl j ↦ inl j | inr c ↦ inr (x, listed, brings-back old now x.0 f w a.grown there c) ];
    })
    q (λ m. sum_at-next (number_at m old) pairs k x h e)

pub multiples_end : (old now : List Node) (parts : List ℕ) (pairs : List Pair) (k : ℕ) → length pairs ≤ k → Adding old now parts pairs (λ m. sum_at (number_at m old) (take k pairs)) → Adding old now parts pairs (λ m. sum_at (number_at m old) pairs)
multiples_end old now parts pairs k h a = subst (λ ps. Adding old now parts pairs (λ m. sum_at (number_at m old) ps)) (take_all k pairs h) a

-- the variable of a pair, which is a term of integers of the table that has grown too
pub variable_there : (old now : List Node) (pairs : List Pair) (k : ℕ) (x : Pair) → Grows old now → AreIntegers old pairs → k < length pairs → x ≡ get_or pairs k x → (x.0 < length now) × (type_at now x.0 ≡ Integer)
variable_there old now pairs k x g i h e =
    let r = All-contains (λ (p : Pair). (p.0 < length old) × (type_at old p.0 ≡ Integer)) pairs x i (k, h, sym e) in
    (omega (arith, r.0, Grows-length old now g), type-same old now x.0 g r.0 ∙ r.1)

turned : (c z : ℤ) → z +ℤ c ≡ c +ℤ z
turned c z = omega (arith, ints)

nothing_more : (c z : ℤ) → c ≡ pos 0 → z ≡ c +ℤ z
nothing_more c z e = omega (arith, ints, e)

-- the sum without a constant, where that is 0
pub addends_same : (old now : List Node) (parts : List ℕ) (pairs : List Pair) (constant : ℤ) → constant ≡ pos 0 → Adding old now parts pairs (λ m. sum_at (number_at m old) pairs) → Adding old now parts pairs (λ m. constant +ℤ sum_at (number_at m old) pairs)
addends_same old now parts pairs constant e a = record {
  grown = a.grown;
  well = a.well;
  there = a.there;
  types = a.types;
  same = λ m. a.same m ∙ nothing_more constant (sum_at (number_at m old) pairs) e;
  features = a.features;
}

-- and with one
pub addends_more : (old now new : List Node) (parts after : List ℕ) (pairs : List Pair) (constant : ℤ) (r : ℕ) → Adding old now parts pairs (λ m. sum_at (number_at m old) pairs) → WellTyped new → Grows now new → IsInteger new r (λ m. constant) (λ f. f ≡ integer) → after ≡ parts ++ r ∷ []
    → Adding old new after pairs (λ m. constant +ℤ sum_at (number_at m old) pairs)
addends_more old now new parts after pairs constant r a v g i e =
    Adding-push old now new parts after pairs (λ m. sum_at (number_at m old) pairs) (λ m. constant) (λ m. constant +ℤ sum_at (number_at m old) pairs) r a v g
    (record { there = i.there; same = i.same; ty = i.ty; features = λ f b. inl (i.features f b) }) e (λ m. turned constant (sum_at (number_at m old) pairs))

pub adding_suits : (old now : List Node) (parts : List ℕ) (pairs : List Pair) (z : Model → ℤ) → 0 < length parts → Adding old now parts pairs z → Suits Add (types_at now parts)
adding_suits old now [] pairs z h a = absurd (omega (arith, h))
adding_suits old now (p ∷ parts) pairs z h a = (λ e. absurd (omega (arith, ap length e)), All-map (λ t. t ≡ Integer) (type_at now) (p ∷ parts) a.types)

-- the answer of a call is the sum
pub sum_called : {E : Type 0} (old now new : List Node) (parts own : List ℕ) (pairs : List Pair) (z : Model → ℤ) (o : Result ℕ E) → Adding old now parts pairs z → own ≡ parts → IfOk o (λ r. Rebuilds new r now Add own) → IfOk o (λ r. IsInteger new r z (PairBrings old pairs))
sum_called old now new parts own pairs z (Err e) a q s = tt
sum_called old now new parts own pairs z (Ok r) a q s =
    let t = subst (Rebuilds new r now Add) q s in
    record {
      there = t.there;
      same = λ m. t.same m ∙ ap Int (a.same m);
      ty = t.ty;
      features = λ f h. elim (t.features f h) [ inl i ↦ inl (integer_shows Add (types_at now parts) f tt i) | inr o ↦ a.features f o ];
    }

pub one_type : (s : Ty) → s ∷ [] ≡ Integer ∷ [] → s ≡ Integer
one_type s e = cc

pub some_parts : (nodes : List Node) (parts : List ℕ) → types_at nodes parts ≢ [] → 0 < length parts
some_parts nodes [] h = absurd (h refl)
some_parts nodes (p ∷ ps) h = omega arith

-- a term of integers brings the feature of integers
brings_integer : (nodes : List Node) (t : ℕ) → t < length nodes → type_at nodes t ≡ Integer → Brings nodes t integer
brings_integer nodes t h e =
    let r = at_place nodes t h in
    record { place = t; below = itself; bears = record { node = r.0; there = r.1; shows = ap holds_integer (sym (type-node nodes t r.0 r.1) ∙ e) ∙ has_integer } }

-- what the pairs of a form bring the terms bring of which it is the form
pub form_brings : (nodes : List Node) (parts : List ℕ) (form : Linear) (z : Model → ℤ) (f : Feature) → 0 < length parts → All (λ p. p < length nodes) parts → All (λ p. type_at nodes p ≡ Integer) parts → IsFormOf nodes parts form z → PairBrings nodes form.pairs f → OneBrings nodes parts f
form_brings nodes [] form z f h t i x b = absurd (omega (arith, h))
form_brings nodes (p ∷ parts) form z f h t i x (inl e) =
    record { one = p; listed = (0, omega arith, refl); brings = subst (Brings nodes p) (sym e) (brings_integer nodes p (All-head (λ p. p < length nodes) p parts t) (All-head (λ p. type_at nodes p ≡ Integer) p parts i)) }
form_brings nodes (p ∷ parts) form z f h t i x (inr b) =
    let a = x.within b.0 b.1 in
    record { one = a.below.root; listed = a.below.listed; brings = brings-below nodes a.below.root b.0.0 f a.below.below b.2 }

-- the sum that a form gives stands for an operation of which it is the form
pub form_rebuilds : (new old : List Node) (r : ℕ) (op : Op) (parts : List ℕ) (form : Linear) (constant : ℤ) (pairs : List Pair) (z : Model → ℤ) → 0 < length parts → All (λ p. p < length old) parts → All (λ p. type_at old p ≡ Integer) parts → type_of op (types_at old parts) ≡ Integer
    → ((m : Model) → Int (z m) ≡ apply m op (types_at old parts) (values_at m old parts)) → IsFormOf old parts form z → constant ≡ form.constant → pairs ≡ form.pairs → IsSumOf new r old constant pairs → Rebuilds new r old op parts
form_rebuilds new old r op parts form constant pairs z h t i ty same x c p s = record {
  there = s.there;
  same = λ m. s.same m ∙ (λ j. Int (c j +ℤ sum_at (number_at m old) (p j))) ∙ ap Int (x.same m) ∙ same m;
  ty = s.ty ∙ sym ty;
  features = λ f b. inr (form_brings old parts form z f h t i x (subst (λ ps. PairBrings old ps f) p (s.features f b)));
}

-- each variable of a form is a term of integers
pub form_integers : (nodes : List Node) (parts : List ℕ) (form : Linear) (z : Model → ℤ) (pairs : List Pair) → pairs ≡ form.pairs → IsFormOf nodes parts form z → AreIntegers nodes pairs
form_integers nodes parts form z pairs e x = subst (AreIntegers nodes) (sym e) (each form.pairs (λ p c. let a = x.within p c in (a.there, a.ty)))
  where
    each : (ps : List Pair) → ((p : Pair) → Contains ps p → (p.0 < length nodes) × (type_at nodes p.0 ≡ Integer)) → AreIntegers nodes ps
    each [] h = All-nil (λ (p : Pair). (p.0 < length nodes) × (type_at nodes p.0 ≡ Integer))
    each (p ∷ ps) h = All-cons (λ (p : Pair). (p.0 < length nodes) × (type_at nodes p.0 ≡ Integer)) p ps (h p (0, omega arith, refl)) (each ps (λ q c. h q (suc c.0, omega (arith, c.1), c.2)))
