-- Conjunctions and disjunctions, whose parts are gathered and put in order.
use Rattle.std.specs.Prelude.{◌≡◌, ◌≢◌, ◌⊎◌, ℕ, ◌+◌, ◌<◌, Bool, true, false, not, ◌&&◌, ◌||◌, nat_eq, List, [], ◌∷◌, ◌++◌, length, slice_index, All, Contains}
use Rattle.std.specs.List.{list_all, list_any}
use Rattle.std.specs.List.Sorted.{IsPermutation}
use Rattle.std.specs.List.Retain.{IsFiltered, DiffersFromLast}
use Rattle.std.proofs.lemmas.List.Filters.{dedup_is}
use Rattle.std.proofs.lemmas.List.Kept.{Contains-dedup_nat, Contains-from_dedup}
use Rattle.std.proofs.lemmas.List.Sorted.{Contains-permutation, IsPermutation-sym}
use Rattle.std.proofs.Common.{refl, sym, ap, ◌∙◌, arith, subst, inl, inr, append-nil, get_or, zero, suc}
use Rattle.std.proofs.lemmas.Bool.{false≢true, cases_lt}
use Rattle.std.proofs.lemmas.List.{get_or_default}
use Rattle.std.proofs.lemmas.List.Elements.{All-nil, All-cons, All-head, All-tail, All-contains, All-map, Contains-append_left, Contains-append_right, Contains-append_cases}
use Rattle.uc_values.specs.Values.{truth_of}
use Rattle.uc_values.specs.declared.ty.Ty.{Ty}
use Rattle.uc_values.specs.declared.ty.Ty.TheVariants.{Bool as Boolean}
use Rattle.uc_values.specs.declared.value.Value.TheVariants.{Bool as Holds}
use Rattle.uc_ops.specs.declared.model.Model.{Model}
use Rattle.uc_ops.specs.declared.op.Op.{Op}
use Rattle.uc_ops.specs.declared.op.Op.TheVariants.{Const}
use Rattle.uc_ops.specs.declared.node.Node.{Node}
use Rattle.uc_ops.specs.Typing.{Suits, type_of, type_at, types_at}
use Rattle.uc_ops.specs.Meaning.{apply}
use Rattle.uc_terms.specs.Values.{value, values_at}
use Rattle.uc_terms.specs.Subterms.{IsSubterm, IsBelow, itself}
use Rattle.uc_simplify_steps.specs.declared.step.Step.{Step}
use Rattle.uc_simplify_steps.specs.declared.step.Step.TheVariants.{Other}
use Rattle.uc_simplify_steps.specs.Steps.{IsRight, Replaces, IsTruth, IsNegation}
use Rattle.uc_simplify_steps.specs.Junctions.{junction, IsJunction, Gives, Covered, GoesOn, Gathers, SameMembers, HasComplements}
use Rattle.uc_simplify_steps.proofs.Steps.{IsPlain, plain_replaces}
use Rattle.uc_simplify_steps.proofs.Twos.{truth_replaces}

-- each of the values at the numbers has this truth
abbrev pub AllHave : Model → List Node → Bool → List ℕ → Type 0
AllHave m nodes b ts = (t : ℕ) → Contains ts t → truth_of (value m nodes t) ≡ b

listed_first : (t : ℕ) (ts : List ℕ) → Contains (t ∷ ts) t
listed_first t ts = (0, omega arith, refl)

listed_later : (t u : ℕ) (ts : List ℕ) → Contains ts u → Contains (t ∷ ts) u
listed_later t u ts c = (suc c.0, omega (arith, c.1), c.2)

listed_none : (u : ℕ) → Contains [] u → ⊥
listed_none u c = omega (arith, c.1)

listed_cases : (t u : ℕ) (ts : List ℕ) → Contains (t ∷ ts) u → (u ≡ t) ⊎ Contains ts u
listed_cases t u ts (zero, h, e) = inl (sym e)
listed_cases t u ts (suc k, h, e) = inr (k, omega (arith, h), e)

all_from : (m : Model) (nodes : List Node) (ts : List ℕ) → list_all truth_of (values_at m nodes ts) ≡ true → AllHave m nodes true ts
all_from m nodes [] h t c = absurd (listed_none t c)
all_from m nodes (u ∷ ts) h t c =
    let b = split (truth_of (value m nodes u)) (list_all truth_of (values_at m nodes ts)) h in
    elim (listed_cases u t ts c) [ inl e ↦ ap (λ x. truth_of (value m nodes x)) e ∙ b.0 | inr d ↦ all_from m nodes ts b.1 t d ]
  where
    split : (x y : Bool) → (x && y) ≡ true → (x ≡ true) × (y ≡ true)
    split true y h = (refl, h)
    split false y h = cc

all_to : (m : Model) (nodes : List Node) (ts : List ℕ) → AllHave m nodes true ts → list_all truth_of (values_at m nodes ts) ≡ true
all_to m nodes [] h = refl
all_to m nodes (u ∷ ts) h = ap (λ x. x && list_all truth_of (values_at m nodes ts)) (h u (listed_first u ts)) ∙ all_to m nodes ts (λ t c. h t (listed_later u t ts c))

any_from : (m : Model) (nodes : List Node) (ts : List ℕ) → list_any truth_of (values_at m nodes ts) ≡ false → AllHave m nodes false ts
any_from m nodes [] h t c = absurd (listed_none t c)
any_from m nodes (u ∷ ts) h t c =
    let b = split (truth_of (value m nodes u)) (list_any truth_of (values_at m nodes ts)) h in
    elim (listed_cases u t ts c) [ inl e ↦ ap (λ x. truth_of (value m nodes x)) e ∙ b.0 | inr d ↦ any_from m nodes ts b.1 t d ]
  where
    split : (x y : Bool) → (x || y) ≡ false → (x ≡ false) × (y ≡ false)
    split true y h = cc
    split false y h = (refl, h)

any_to : (m : Model) (nodes : List Node) (ts : List ℕ) → AllHave m nodes false ts → list_any truth_of (values_at m nodes ts) ≡ false
any_to m nodes [] h = refl
any_to m nodes (u ∷ ts) h = ap (λ x. x || list_any truth_of (values_at m nodes ts)) (h u (listed_first u ts)) ∙ any_to m nodes ts (λ t c. h t (listed_later u t ts c))

-- the truth that a junction gives
abbrev joined : Bool → Model → List Node → List ℕ → Bool
joined true m nodes ts = list_all truth_of (values_at m nodes ts)
joined false m nodes ts = list_any truth_of (values_at m nodes ts)

joined_value : (b : Bool) (m : Model) (nodes : List Node) (types : List Ty) (ts : List ℕ) → apply m (junction b) types (values_at m nodes ts) ≡ Holds (joined b m nodes ts)
joined_value true m nodes types ts = refl
joined_value false m nodes types ts = refl

joined_from : (b : Bool) (m : Model) (nodes : List Node) (ts : List ℕ) → joined b m nodes ts ≡ b → AllHave m nodes b ts
joined_from true m nodes ts h = all_from m nodes ts h
joined_from false m nodes ts h = any_from m nodes ts h

joined_to : (b : Bool) (m : Model) (nodes : List Node) (ts : List ℕ) → AllHave m nodes b ts → joined b m nodes ts ≡ b
joined_to true m nodes ts h = all_to m nodes ts h
joined_to false m nodes ts h = any_to m nodes ts h

joined_type : (b : Bool) (types : List Ty) → type_of (junction b) types ≡ Boolean
joined_type true types = refl
joined_type false types = refl

joined_suits : (b : Bool) (types : List Ty) → types ≢ [] → All (λ t. t ≡ Boolean) types → Suits (junction b) types
joined_suits true types n h = (n, h)
joined_suits false types n h = (n, h)

suits_joined : (b : Bool) (types : List Ty) → Suits (junction b) types → All (λ t. t ≡ Boolean) types
suits_joined true types h = h.1
suits_joined false types h = h.1

-- two truths that are b in the same cases
same_truths : (b x y : Bool) → (x ≡ b → y ≡ b) → (y ≡ b → x ≡ b) → x ≡ y
same_truths true true y f g = sym (f refl)
same_truths true false true f g = absurd (false≢true (g refl))
same_truths true false false f g = refl
same_truths false false y f g = sym (f refl)
same_truths false true false f g = absurd (false≢true (sym (g refl)))
same_truths false true true f g = refl

-- the value of a term that is the junction
own_value : (m : Model) (nodes : List Node) (b : Bool) (p : ℕ) (own : List ℕ) → IsJunction nodes b p own → truth_of (value m nodes p) ≡ joined b m nodes own
own_value m nodes b p own x = ap truth_of (x.same m ∙ joined_value b m nodes (types_at nodes own) own)

given_has : (m : Model) (nodes : List Node) (b : Bool) (p k : ℕ) → Gives nodes b p k → truth_of (value m nodes p) ≡ b → truth_of (value m nodes k) ≡ b
given_has m nodes b p k (inl e) h = ap (λ x. truth_of (value m nodes x)) e ∙ h
given_has m nodes b p k (inr g) h = joined_from b m nodes g.0 (sym (own_value m nodes b p g.0 g.1) ∙ h) k g.2

covered_has : (m : Model) (nodes : List Node) (b : Bool) (all : List ℕ) (p : ℕ) → Covered nodes b all p → AllHave m nodes b all → truth_of (value m nodes p) ≡ b
covered_has m nodes b all p (inl c) h = h p c
covered_has m nodes b all p (inr (inl t)) h = ap truth_of (t m)
covered_has m nodes b all p (inr (inr g)) h = own_value m nodes b p g.0 g.1 ∙ joined_to b m nodes g.0 (λ k c. h k (g.2 k c))

-- a member by its place
place_listed : (parts : List ℕ) (j : ℕ) → j < length parts → Contains parts (slice_index parts j)
place_listed parts j h = (j, h, get_or_default parts j (slice_index parts j) 0 h)

listed_place : (parts : List ℕ) (p : ℕ) → Contains parts p → (j : ℕ) × (j < length parts) × (slice_index parts j ≡ p)
listed_place parts p c = (c.0, c.1, get_or_default parts c.0 0 p c.1 ∙ c.2)

pub Gathers-start : (nodes : List Node) (b : Bool) (parts : List ℕ) → Gathers nodes b parts 0 []
Gathers-start nodes b parts = record { sound = λ k c. absurd (listed_none k c); covered = λ j h. absurd (omega (arith, h)) }

covered_more : (nodes : List Node) (b : Bool) (all more : List ℕ) (p : ℕ) → ((k : ℕ) → Contains all k → Contains more k) → Covered nodes b all p → Covered nodes b more p
covered_more nodes b all more p f (inl c) = inl (f p c)
covered_more nodes b all more p f (inr (inl t)) = inr (inl t)
covered_more nodes b all more p f (inr (inr g)) = inr (inr (g.0, g.1, λ k c. f k (g.2 k c)))

pub Gathers-next : (nodes : List Node) (b : Bool) (parts : List ℕ) (i p : ℕ) (old new : List ℕ) → i < length parts → p ≡ get_or parts i p → GoesOn nodes b p old new → Gathers nodes b parts i old → Gathers nodes b parts (i + 1) new
Gathers-next nodes b parts i p old new h e g x =
    let here : p ≡ slice_index parts i = e ∙ get_or_default parts i p 0 h in
    record {
      sound = λ k c. elim (Contains-append_cases old g.more k (subst (λ ks. Contains ks k) g.is c)) [
        | inl d ↦ let s = x.sound k d in (s.0, omega (arith, s.1), s.2)
        | inr d ↦ (i, omega arith, subst (λ q. Gives nodes b q k) here (g.sound k d))
      ];
      covered = λ j l. subst (λ ks. Covered nodes b ks (slice_index parts j)) (sym g.is) (elim (before j i l) [
        | inl d ↦ covered_more nodes b old (old ++ g.more) (slice_index parts j) (λ k c. Contains-append_left old g.more k c) (x.covered j d)
        | inr d ↦ covered_more nodes b g.more (old ++ g.more) (slice_index parts j) (λ k c. Contains-append_right old g.more k c) (subst (λ q. Covered nodes b g.more q) (here ∙ ap (slice_index parts) (sym d)) g.covered)
      ]);
    }
  where
    before : (j i : ℕ) → j < i + 1 → (j < i) ⊎ (j ≡ i)
    before j i l = elim (cases_lt j i) [ inl a ↦ inl a | inr a ↦ inr (omega (arith, l, a)) ]

pub Gathers-same : (nodes : List Node) (b : Bool) (parts : List ℕ) (n : ℕ) (all sorted : List ℕ) → SameMembers all sorted → Gathers nodes b parts n all → Gathers nodes b parts n sorted
Gathers-same nodes b parts n all sorted s x = record {
  sound = λ k c. x.sound k (s.back k c);
  covered = λ j l. covered_more nodes b all sorted (slice_index parts j) s.there (x.covered j l);
}

-- where a part is left out, is opened or is kept
pub GoesOn-none : (nodes : List Node) (b : Bool) (p : ℕ) (all : List ℕ) → IsTruth nodes p b → GoesOn nodes b p all all
GoesOn-none nodes b p all t = record { more = []; is = sym (append-nil all); sound = λ k c. absurd (listed_none k c); covered = inr (inl t) }

pub GoesOn-own : (nodes : List Node) (b : Bool) (p : ℕ) (all own new : List ℕ) → IsJunction nodes b p own → new ≡ all ++ own → GoesOn nodes b p all new
GoesOn-own nodes b p all own new x e = record { more = own; is = e; sound = λ k c. inr (own, x, c); covered = inr (inr (own, x, λ k c. c)) }

pub GoesOn-one : (nodes : List Node) (b : Bool) (p : ℕ) (all new : List ℕ) → new ≡ all ++ p ∷ [] → GoesOn nodes b p all new
GoesOn-one nodes b p all new e = record {
  more = p ∷ [];
  is = e;
  sound = λ k c. elim (listed_cases p k [] c) [ inl d ↦ inl d | inr d ↦ absurd (listed_none k d) ];
  covered = inl (listed_first p []);
}

-- what is gathered is there, is boolean and is below the parts
record IsGathered (nodes : List Node) (parts : List ℕ) (k : ℕ) : Type 0 where
  there : k < length nodes
  boolean : type_at nodes k ≡ Boolean
  below : IsBelow nodes parts k

type_listed : (nodes : List Node) (ts : List ℕ) (k : ℕ) → All (λ t. t ≡ Boolean) (types_at nodes ts) → Contains ts k → type_at nodes k ≡ Boolean
type_listed nodes ts k h c = All-contains (λ t. type_at nodes t ≡ Boolean) ts k (from ts h) c
  where
    from : (us : List ℕ) → All (λ t. t ≡ Boolean) (types_at nodes us) → All (λ t. type_at nodes t ≡ Boolean) us
    from [] h = All-nil (λ t. type_at nodes t ≡ Boolean)
    from (u ∷ us) h =
        All-cons (λ t. type_at nodes t ≡ Boolean) u us (All-head (λ t. t ≡ Boolean) (type_at nodes u) (types_at nodes us) h) (from us (All-tail (λ t. t ≡ Boolean) (type_at nodes u) (types_at nodes us) h))

gathered_one : (nodes : List Node) (b : Bool) (parts : List ℕ) (p k : ℕ) → All (λ q. q < length nodes) parts → All (λ t. t ≡ Boolean) (types_at nodes parts) → Contains parts p → Gives nodes b p k → IsGathered nodes parts k
gathered_one nodes b parts p k there types c (inl e) = subst (λ q. IsGathered nodes parts q) (sym e) (record {
  there = All-contains (λ q. q < length nodes) parts p there c;
  boolean = type_listed nodes parts p types c;
  below = record { root = p; listed = c; below = itself };
})
gathered_one nodes b parts p k there types c (inr g) = record {
  there = All-contains (λ q. q < length nodes) g.0 k g.1.there g.2;
  boolean = type_listed nodes g.0 k (suits_joined b (types_at nodes g.0) g.1.suits) g.2;
  below = record { root = p; listed = c; below = All-contains (IsSubterm nodes p) g.0 k g.1.below g.2 };
}

gathered_all : (nodes : List Node) (b : Bool) (parts all : List ℕ) → All (λ q. q < length nodes) parts → Suits (junction b) (types_at nodes parts) → Gathers nodes b parts (length parts) all → (k : ℕ) → Contains all k → IsGathered nodes parts k
gathered_all nodes b parts all there suits x k c =
    let s = x.sound k c in
    gathered_one nodes b parts (slice_index parts s.0) k there (suits_joined b (types_at nodes parts) suits) (place_listed parts s.0 s.1) s.2

all_listed : (P : ℕ → Type 0) (ts : List ℕ) → ((k : ℕ) → Contains ts k → P k) → All P ts
all_listed P ts f = λ k d l. f (get_or ts k d) (k, l, get_or_default ts k (get_or ts k d) d l)

pub gathered_there : (nodes : List Node) (b : Bool) (parts all sorted : List ℕ) → All (λ q. q < length nodes) parts → Suits (junction b) (types_at nodes parts) → Gathers nodes b parts (length parts) all → SameMembers all sorted
    → All (λ q. q < length nodes) sorted
gathered_there nodes b parts all sorted there suits x s = all_listed (λ q. q < length nodes) sorted (λ k c. (gathered_all nodes b parts all there suits x k (s.back k c)).there)

-- the junction of what was gathered has the value of the junction of the parts
gathered_same : (nodes : List Node) (m : Model) (b : Bool) (parts all : List ℕ) → Gathers nodes b parts (length parts) all → joined b m nodes all ≡ joined b m nodes parts
gathered_same nodes m b parts all x =
    same_truths b (joined b m nodes all) (joined b m nodes parts)
    (λ e. let h = joined_from b m nodes all e in joined_to b m nodes parts (λ p c. let r = listed_place parts p c in covered_has m nodes b all p (subst (λ q. Covered nodes b all q) r.2 (x.covered r.0 r.1)) h))
    (λ e. let h = joined_from b m nodes parts e in joined_to b m nodes all (λ k c. let s = x.sound k c in given_has m nodes b (slice_index parts s.0) k s.2 (h (slice_index parts s.0) (place_listed parts s.0 s.1))))

junction_plain : (b : Bool) → IsPlain (junction b)
junction_plain true = tt
junction_plain false = tt

nonempty_types : (nodes : List Node) (ts : List ℕ) → length ts ≢ 0 → types_at nodes ts ≢ []
nonempty_types nodes [] h e = h refl
nonempty_types nodes (t ∷ ts) h e = cc

pub gathered_replaces : (nodes : List Node) (b : Bool) (parts all sorted own : List ℕ) (op : Op) → All (λ q. q < length nodes) parts → Suits (junction b) (types_at nodes parts) → Gathers nodes b parts (length parts) all → SameMembers all sorted → length sorted ≢ 0
    → own ≡ sorted → op ≡ junction b → Replaces nodes op own (junction b) parts
gathered_replaces nodes b parts all sorted own op there suits x s n q o =
    let y = Gathers-same nodes b parts (length parts) all sorted s x in
    let each = gathered_all nodes b parts sorted there suits y in
    subst (λ ps. Replaces nodes op ps (junction b) parts) (sym q) (subst (λ f. Replaces nodes f sorted (junction b) parts) (sym o)
    (plain_replaces nodes (junction b) (junction b) sorted parts (junction_plain b)
    (all_listed (λ k. k < length nodes) sorted (λ k c. (each k c).there))
    (joined_suits b (types_at nodes sorted) (nonempty_types nodes sorted n) (All-map (λ t. t ≡ Boolean) (type_at nodes) sorted (all_listed (λ k. type_at nodes k ≡ Boolean) sorted (λ k c. (each k c).boolean))))
    (λ m. joined_value b m nodes (types_at nodes sorted) sorted ∙ ap Holds (gathered_same nodes m b parts sorted y) ∙ sym (joined_value b m nodes (types_at nodes parts) parts))
    (joined_type b (types_at nodes sorted) ∙ sym (joined_type b (types_at nodes parts)))
    (all_listed (IsBelow nodes parts) sorted (λ k c. (each k c).below))))

-- a junction of none
pub neutral_right : (nodes : List Node) (b : Bool) (parts all sorted : List ℕ) (step : Step) → Gathers nodes b parts (length parts) all → SameMembers all sorted → length sorted ≡ 0 → step ≡ Other (Const Boolean (Holds b)) [] → IsRight nodes (junction b) parts step
neutral_right nodes b parts all sorted step x s n made =
    let y = Gathers-same nodes b parts (length parts) all sorted s x in
    truth_replaces nodes (junction b) parts b step (joined_type b (types_at nodes parts))
    (λ m. joined_value b m nodes (types_at nodes parts) parts ∙ ap Holds (sym (gathered_same nodes m b parts sorted y) ∙ joined_to b m nodes sorted (λ t c. absurd (omega (arith, c.1, n)))))
    made

not_same : (b x : Bool) → x ≡ b → not x ≡ b → ⊥
not_same true true e f = false≢true f
not_same true false e f = false≢true e
not_same false true e f = false≢true (sym e)
not_same false false e f = false≢true (sym f)

other_truth : (b x : Bool) → (x ≡ b → ⊥) → x ≡ not b
other_truth true true h = absurd (h refl)
other_truth true false h = refl
other_truth false true h = refl
other_truth false false h = absurd (h refl)

-- a junction of a term and its negation
pub contradicted_right : (nodes : List Node) (b t : Bool) (parts all sorted : List ℕ) (step : Step) → Gathers nodes b parts (length parts) all → SameMembers all sorted → HasComplements nodes sorted → t ≡ not b → step ≡ Other (Const Boolean (Holds t)) []
    → IsRight nodes (junction b) parts step
contradicted_right nodes b t parts all sorted step x s h e made =
    let y = Gathers-same nodes b parts (length parts) all sorted s x in
    truth_replaces nodes (junction b) parts t step (joined_type b (types_at nodes parts))
    (λ m. joined_value b m nodes (types_at nodes parts) parts ∙ ap Holds (sym (gathered_same nodes m b parts sorted y) ∙ other_truth b (joined b m nodes sorted) (λ f.
    let have = joined_from b m nodes sorted f in
    not_same b (truth_of (value m nodes h.part)) (have h.part h.part_listed) (sym (ap truth_of (h.negation.same m)) ∙ have h.whole h.whole_listed)) ∙ sym e))
    made

-- a sort and the removal of what is there twice keep the members
pub sorted_members : (all sorted last : List ℕ) → IsPermutation all sorted → IsFiltered (DiffersFromLast nat_eq) [] sorted last → SameMembers all last
sorted_members all sorted last p f =
    let e = dedup_is nat_eq sorted last f in
    record {
      there = λ k c. subst (λ ks. Contains ks k) (sym e) (Contains-dedup_nat sorted k (Contains-permutation all sorted k p c));
      back = λ k c. Contains-permutation sorted all k (IsPermutation-sym all sorted p) (Contains-from_dedup nat_eq sorted k (subst (λ ks. Contains ks k) e c));
    }

pub complements_found : (nodes : List Node) (sorted : List ℕ) (i whole part : ℕ) → i < length sorted → whole ≡ get_or sorted i whole → IsNegation nodes whole part → Contains sorted part → HasComplements nodes sorted
complements_found nodes sorted i whole part h e n c = record { whole = whole; part = part; negation = n; whole_listed = (i, h, sym e); part_listed = c }
