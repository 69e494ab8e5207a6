-- Laws of counting up to limits.
use Rattle.std.proofs.Common.{◌≡◌, ℕ, suc, ◌+◌, ◌*◌, ◌-◌, ◌^◌, ◌<◌, ◌≤◌, Bool, true, false, List, [], ◌∷◌, ◌++◌, length, take, drop, map, get_or, refl, ap, ◌∙◌, sym, subst, arith}
use Rattle.std.specs.Prelude.{nat_lt, ◌||◌, min, Result, Ok, Err}
use Rattle.std.specs.Result.{IsErrAnd}
use Rattle.std.proofs.lemmas.Bool.Decides.{nat_tests}
use Rattle.std.proofs.lemmas.List.{take_all, take-append-drop}
use Rattle.uc_rules.proofs.Lists.{take_turn}
use Rattle.uc_order_rules.specs.Sizes.{Size, most_nodes, most_statements, plus, size, times, total}
use Rattle.uc_sizes.specs.declared.spent.Halt.{Halt}
use Rattle.uc_sizes.specs.declared.spent.Halt.TheVariants.{TooLarge, NoMemory}
use Rattle.uc_sizes.specs.Spending.{Outcome, Spends, exceeds}

pub plus_assoc : (a b c : Size) → plus (plus a b) c ≡ plus a (plus b c)
plus_assoc a b c = (λ k. size (grouped a.statements b.statements c.statements k) (grouped a.nodes b.nodes c.nodes k))
  where
    grouped : (x y z : ℕ) → (x + y) + z ≡ x + (y + z)
    grouped x y z = omega arith

pub plus_none : (a : Size) → plus a (size 0 0) ≡ a
plus_none a = (λ k. size (same a.statements k) (same a.nodes k))
  where
    same : (x : ℕ) → x + 0 ≡ x
    same x = omega arith

pub none_plus : (a : Size) → plus (size 0 0) a ≡ a
none_plus a = (λ k. size (same a.statements k) (same a.nodes k))
  where
    same : (x : ℕ) → 0 + x ≡ x
    same x = omega arith

lt_more : (m a b : ℕ) → nat_lt m a ≡ true → nat_lt m (a + b) ≡ true
lt_more m a b h = grind (arith, nat_tests)

or_right : (p q : Bool) → q ≡ true → (p || q) ≡ true
or_right true q h = refl
or_right false q h = h

pub or_lift : (p q p' q' : Bool) → (p ≡ true → p' ≡ true) → (q ≡ true → q' ≡ true) → (p || q) ≡ true → (p' || q') ≡ true
or_lift true q p' q' f g h = ap (λ x. x || q') (f refl)
or_lift false q p' q' f g h = or_right p' q' (g h)

pub exceeds_more : (a b : Size) → exceeds a ≡ true → exceeds (plus a b) ≡ true
exceeds_more a b h =
    or_lift (nat_lt most_statements a.statements) (nat_lt most_nodes a.nodes) (nat_lt most_statements (a.statements + b.statements)) (nat_lt most_nodes (a.nodes + b.nodes))
    (lt_more most_statements a.statements b.statements) (lt_more most_nodes a.nodes b.nodes) h

pub spends_none : (old : Size) (amount : Size) → amount ≡ size 0 0 → Spends old old (Ok tt) amount
unfolding Spends
spends_none old amount none within = (sym (plus_none old) ∙ ap (plus old) (sym none), within)

pub spends_same : (old new : Size) (r : Result (Unit {0}) Halt) (a b : Size) → Spends old new r a → b ≡ a → Spends old new r b
unfolding Spends
spends_same old new r a b h same = subst (λ x. Spends old new r x) (sym same) h

pub outcome_two : (old mid new a b : Size) (r : Result (Unit {0}) Halt) → mid ≡ plus old a → Outcome mid new r b → Outcome old new r (plus a b)
outcome_two old mid new a b (Ok u) first h = (h.0 ∙ ap (λ x. plus x b) first ∙ plus_assoc old a b, h.1)
outcome_two old mid new a b (Err TooLarge) first h = ap exceeds (sym (plus_assoc old a b) ∙ ap (λ x. plus x b) (sym first)) ∙ h
outcome_two old mid new a b (Err NoMemory) first h = tt

-- one amount after another
pub spends_two : (old mid new : Size) (u : Unit {0}) (r : Result (Unit {0}) Halt) (a b whole : Size) → Spends old mid (Ok u) a → Spends mid new r b → whole ≡ plus a b → Spends old new r whole
unfolding Spends
spends_two old mid new u r a b whole first second is within =
    let x : Outcome old mid (Ok u) a = first within in
    subst (λ w. Outcome old new r w) (sym is) (outcome_two old mid new a b r x.0 (second x.1))

outcome_stop : (old new new' a b : Size) (h : Halt) → Outcome old new (Err h) a → Outcome old new' (Err h) (plus a b)
outcome_stop old new new' a b TooLarge h = ap exceeds (sym (plus_assoc old a b)) ∙ exceeds_more (plus old a) b h
outcome_stop old new new' a b NoMemory h = tt

-- counting that ends has ended whatever else was to be counted
pub spends_stop : (old new new' : Size) (h : Halt) (a b whole : Size) → Spends old new (Err h) a → whole ≡ plus a b → Spends old new' (Err h) whole
unfolding Spends
spends_stop old new new' h a b whole first is within = subst (λ w. Outcome old new' (Err h) w) (sym is) (outcome_stop old new new' a b h (first within))

pub spends_memory : (old new whole : Size) → Spends old new (Err NoMemory) whole
unfolding Spends
spends_memory old new whole within = tt

-- Sums of parts.

unfoldable pub sizes_of : {X : Type 0} → (X → Size) → List X → Size
sizes_of f [] = size 0 0
sizes_of f (x ∷ xs) = plus (f x) (sizes_of f xs)

pub sizes_join : {X : Type 0} (f : X → Size) (xs ys : List X) → sizes_of f (xs ++ ys) ≡ plus (sizes_of f xs) (sizes_of f ys)
unfolding sizes_of
sizes_join f [] ys = sym (none_plus (sizes_of f ys))
sizes_join f (x ∷ xs) ys = ap (plus (f x)) (sizes_join f xs ys) ∙ sym (plus_assoc (f x) (sizes_of f xs) (sizes_of f ys))

pub sizes_one : {X : Type 0} (f : X → Size) (x : X) → sizes_of f (x ∷ []) ≡ f x
unfolding sizes_of
sizes_one f x = plus_none (f x)

pub sizes_nil : {X : Type 0} (f : X → Size) → sizes_of f [] ≡ size 0 0
unfolding sizes_of
sizes_nil f = refl

-- the first k parts were counted
pub record SpentUpTo {X : Type 0} (f : X → Size) (xs : List X) (old : Size) (k : ℕ) (now : Size) : Type 0 where
  pub is : Spends old now (Ok tt) (sizes_of f (take k xs))

pub spent_begin : {X : Type 0} (f : X → Size) (xs : List X) (old : Size) → SpentUpTo f xs old 0 old
spent_begin f xs old = record { is = spends_none old (sizes_of f []) (sizes_nil f) }

more_is : {X : Type 0} (f : X → Size) (xs : List X) (k : ℕ) (x d : X) → k < length xs → x ≡ get_or xs k d → sizes_of f (take (k + 1) xs) ≡ plus (sizes_of f (take k xs)) (f x)
more_is f xs k x d within at = ap (sizes_of f) (take_turn xs k x d within at) ∙ sizes_join f (take k xs) (x ∷ []) ∙ ap (plus (sizes_of f (take k xs))) (sizes_one f x)

pub spent_more : {X : Type 0} (f : X → Size) (xs : List X) (old now after : Size) (k : ℕ) (x d : X) (u : Unit {0}) → SpentUpTo f xs old k now → k < length xs → x ≡ get_or xs k d →
    Spends now after (Ok u) (f x) → SpentUpTo f xs old (k + 1) after
spent_more f xs old now after k x d u held within at next = record {
  is = spends_two old now after tt (Ok tt) (sizes_of f (take k xs)) (f x) (sizes_of f (take (k + 1) xs)) held.is next (more_is f xs k x d within at);
}

pub spent_end : {X : Type 0} (f : X → Size) (xs : List X) (old now : Size) (k : ℕ) → SpentUpTo f xs old k now → length xs ≤ k → Spends old now (Ok tt) (sizes_of f xs)
spent_end f xs old now k held past = spends_same old now (Ok tt) (sizes_of f (take k xs)) (sizes_of f xs) held.is (ap (sizes_of f) (sym (take_all k xs past)))

-- counting ends at the k-th part
pub spent_stop : {X : Type 0} (f : X → Size) (xs : List X) (old now after after' : Size) (k : ℕ) (x d : X) (h : Halt) → SpentUpTo f xs old k now → k < length xs → x ≡ get_or xs k d →
    Spends now after (Err h) (f x) → Spends old after' (Err h) (sizes_of f xs)
spent_stop f xs old now after after' k x d h held within at next =
    spends_stop old after after' h (sizes_of f (take (k + 1) xs)) (sizes_of f (drop (k + 1) xs)) (sizes_of f xs)
    (spends_two old now after tt (Err h) (sizes_of f (take k xs)) (f x) (sizes_of f (take (k + 1) xs)) held.is next (more_is f xs k x d within at))
    (ap (sizes_of f) (sym (take-append-drop (k + 1) xs)) ∙ sizes_join f (take (k + 1) xs) (drop (k + 1) xs))

-- nodes alone
pub nodes_of_all : {X : Type 0} (f : X → ℕ) (xs : List X) → sizes_of (λ x. size 0 (f x)) xs ≡ size 0 (total (map f xs))
unfolding sizes_of
nodes_of_all f [] = refl
nodes_of_all f (x ∷ xs) = ap (plus (size 0 (f x))) (nodes_of_all f xs)

-- what `repeat` and `spend` do

pub below_is : (m n : ℕ) → m < n → nat_lt m n ≡ true
below_is m n h = grind (arith, nat_tests)

not_below : (m n : ℕ) → n ≤ m → nat_lt m n ≡ false
not_below m n h = grind (arith, nat_tests)

pub spent_now : (s n a b : ℕ) (a' b' : ℕ) → a' ≡ s + a → b' ≡ n + b → nat_lt most_statements a' ≡ false → nat_lt most_nodes b' ≡ false → Spends (size s n) (size a' b') (Ok tt) (size a b)
unfolding Spends
spent_now s n a b a' b' first second low low' within = ((λ k. size (first k) (second k)), (λ k. low k || low' k))

module _ (s n m o a b : ℕ) (statements nodes : ℕ) (a-is : a ≡ min (s + m) (2 ^ 128 - 1)) (b-is : b ≡ min (n + o) (2 ^ 128 - 1)) where
  pub spend_over : (most_statements < a → Spends (size s n) (size statements nodes) (Err TooLarge) (size m o))
  unfolding Spends
  spend_over over within = left (nat_lt most_statements (s + m)) (nat_lt most_nodes (n + o)) (below_is most_statements (s + m) (omega (arith, over, a-is)))
    where
      left : (p q : Bool) → p ≡ true → (p || q) ≡ true
      left p q h = ap (λ x. x || q) h

  pub spend_over_nodes : (most_nodes < b → Spends (size s n) (size statements nodes) (Err TooLarge) (size m o))
  unfolding Spends
  spend_over_nodes over within = or_right (nat_lt most_statements (s + m)) (nat_lt most_nodes (n + o)) (below_is most_nodes (n + o) (omega (arith, over, b-is)))

  pub spend_within : (a ≤ most_statements) → (b ≤ most_nodes) → statements ≡ a → nodes ≡ b → Spends (size s n) (size statements nodes) (Ok tt) (size m o)
  unfolding Spends
  spend_within low low' sa nb =
      let x : statements ≡ s + m = omega (arith, low, a-is, sa) in
      let y : nodes ≡ n + o = omega (arith, low', b-is, nb) in
      spent_now s n m o statements nodes x y (not_below most_statements statements (omega (arith, low, sa))) (not_below most_nodes nodes (omega (arith, low', nb)))

abbrev big : ℕ
big = 2 ^ 128 - 1

pub or_none : (p q : Bool) → (p || q) ≡ false → (p ≡ false) × (q ≡ false)
or_none true q h = absurd cc
or_none false q h = (refl, h)

pub low_is : (m n : ℕ) → nat_lt m n ≡ false → n ≤ m
low_is m n h = grind (arith, nat_tests)

-- a number that is cut off far above the limits is as good
outcome_cut : (old new a whole : Size) (r : Result (Unit {0}) Halt) → a.statements ≡ min whole.statements big → a.nodes ≡ min whole.nodes big → Outcome old new r a → Outcome old new r whole
outcome_cut old new a whole (Ok u) first second h =
    let low = or_none (nat_lt most_statements new.statements) (nat_lt most_nodes new.nodes) h.1 in
    let s-low : new.statements ≤ most_statements = low_is most_statements new.statements low.0 in
    let n-low : new.nodes ≤ most_nodes = low_is most_nodes new.nodes low.1 in
    let s-is : new.statements ≡ old.statements + a.statements = ap (λ x. x.statements) h.0 in
    let n-is : new.nodes ≡ old.nodes + a.nodes = ap (λ x. x.nodes) h.0 in
    let s-same : a.statements ≡ whole.statements = omega (arith, first, s-low, s-is) in
    let n-same : a.nodes ≡ whole.nodes = omega (arith, second, n-low, n-is) in
    (h.0 ∙ (λ k. plus old (size (s-same k) (n-same k))), h.1)
outcome_cut old new a whole (Err TooLarge) first second h =
    let s-more : whole.statements ≡ a.statements + (whole.statements - a.statements) = omega (arith, first) in
    let n-more : whole.nodes ≡ a.nodes + (whole.nodes - a.nodes) = omega (arith, second) in
    ap (λ x. exceeds (plus old x)) (λ k. size (s-more k) (n-more k)) ∙ ap exceeds (sym (plus_assoc old a (size (whole.statements - a.statements) (whole.nodes - a.nodes))))
    ∙ exceeds_more (plus old a) (size (whole.statements - a.statements) (whole.nodes - a.nodes)) h
outcome_cut old new a whole (Err NoMemory) first second h = tt

pub spends_again : (before old new part : Size) (r : Result (Unit {0}) Halt) (t a b : ℕ) → old ≡ plus before part → a ≡ min (t * (old.statements - before.statements)) (2 ^ 128 - 1) → b ≡ min (t * (old.nodes - before.nodes)) (2 ^ 128 - 1) →
    Spends old new r (size a b) → Spends old new r (times t part)
unfolding Spends
spends_again before old new part r t a b is a-is b-is h within =
    let s-is : old.statements ≡ before.statements + part.statements = ap (λ x. x.statements) is in
    let n-is : old.nodes ≡ before.nodes + part.nodes = ap (λ x. x.nodes) is in
    let s-same : old.statements - before.statements ≡ part.statements = omega (arith, s-is) in
    let n-same : old.nodes - before.nodes ≡ part.nodes = omega (arith, n-is) in
    outcome_cut old new (size a b) (times t part) r (a-is ∙ ap (λ x. min (t * x) big) s-same) (b-is ∙ ap (λ x. min (t * x) big) n-same) (h within)

-- An early end, as `?` hands it on.

pub stop_out : (old new whole : Size) (r : Result (Unit {0}) Halt) (h : Halt) → IsErrAnd r (λ e. e ≡ h) → Spends old new (Err h) whole → Spends old new r whole
stop_out old new whole (Ok u) h is s = absurd is
stop_out old new whole (Err e) h is s = subst (λ x. Spends old new (Err x) whole) (sym is) s

pub memory_out : (old new whole : Size) (r : Result (Unit {0}) Halt) → IsErrAnd r (λ e. e ≡ NoMemory) → Spends old new r whole
memory_out old new whole r is = stop_out old new whole r NoMemory is (spends_memory old new whole)
