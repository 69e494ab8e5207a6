-- Counts that grow part by part.
use Rattle.std.proofs.Common.{◌≡◌, ℕ, zero, suc, ◌+◌, ◌<◌, ◌≤◌, List, [], ◌∷◌, ◌++◌, length, take, map, get_or, refl, ap, ◌∙◌, sym, arith}
use Rattle.std.specs.Prelude.{Result, Ok, Err, OnOk}
use Rattle.std.proofs.lemmas.List.{take_all}
use Rattle.uc_rules.proofs.Lists.{take_turn}
use Rattle.uc_order_rules.specs.Sizes.{total}
use Rattle.uc_sizes.specs.declared.counted.Counted.{Counted}
use Rattle.uc_sizes.specs.declared.counted.Use.{Use}
use Rattle.uc_sizes.specs.Counting.{Adds, Setting, behind_first, cost, costs, one_node, weight}

total_push : {X : Type 0} (f : X → ℕ) (xs : List X) (x : X) → total (map f (xs ++ x ∷ [])) ≡ total (map f xs) + f x
total_push f [] x = omega arith
total_push f (y ∷ ys) x = let e = total_push f ys x in omega (arith, e)

-- the first k of some were counted
pub record SummedUpTo {X : Type 0} (f : Setting → X → ℕ) (xs : List X) (old : Counted) (k : ℕ) (now : Counted) : Type 0 where
  pub is : (c : Setting) → weight c now ≡ weight c old + total (map (f c) (take k xs))

pub summed_begin : {X : Type 0} (f : Setting → X → ℕ) (xs : List X) (old : Counted) → SummedUpTo f xs old 0 old
summed_begin f xs old = record { is = λ c. omega arith }

pub summed_more : {X : Type 0} (f : Setting → X → ℕ) (xs : List X) (old now after : Counted) (k : ℕ) (x d : X) → SummedUpTo f xs old k now → k < length xs → x ≡ get_or xs k d →
    Adds now after (λ c. f c x) → SummedUpTo f xs old (k + 1) after
unfolding Adds
summed_more f xs old now after k x d held within at adds = record {
  is = λ c. let one : total (map (f c) (take (k + 1) xs)) ≡ total (map (f c) (take k xs)) + f c x = ap (λ ys. total (map (f c) ys)) (take_turn xs k x d within at) ∙ total_push (f c) (take k xs) x in
      let before = held.is c in let grown = adds c in omega (arith, one, before, grown);
}

pub summed_end : {X : Type 0} (f : Setting → X → ℕ) (xs : List X) (old now : Counted) (k : ℕ) → SummedUpTo f xs old k now → length xs ≤ k → Adds old now (λ c. total (map (f c) xs))
unfolding Adds
summed_end f xs old now k held past c = held.is c ∙ ap (λ ys. weight c old + total (map (f c) ys)) (take_all k xs past)

-- the same of all but the first
pub record BehindUpTo {X : Type 0} (f : Setting → X → ℕ) (xs : List X) (old : Counted) (k : ℕ) (now : Counted) : Type 0 where
  pub is : (c : Setting) → weight c now ≡ weight c old + behind_first (map (f c) (take k xs))

pub behind_begin : {X : Type 0} (f : Setting → X → ℕ) (xs : List X) (old : Counted) → BehindUpTo f xs old 0 old
behind_begin f xs old = record { is = λ c. omega arith }

first_alone : {X : Type 0} (f : X → ℕ) (ys : List X) → behind_first (map f (take 1 ys)) ≡ 0
first_alone f [] = refl
first_alone f (y ∷ ys) = refl

pub behind_skip : {X : Type 0} (f : Setting → X → ℕ) (xs : List X) (old now after : Counted) (k : ℕ) → BehindUpTo f xs old k now → k ≡ 0 → after ≡ now → BehindUpTo f xs old (k + 1) after
behind_skip f xs old now after k held none same = record {
  is = λ c. ap (weight c) same ∙ held.is c
      ∙ ap (λ n. weight c old + n) (ap (λ j. behind_first (map (f c) (take j xs))) none ∙ sym (ap (λ j. behind_first (map (f c) (take j xs))) (ap (λ j. j + 1) none) ∙ first_alone (f c) xs));
}

behind_push : {X : Type 0} (f : X → ℕ) (xs : List X) (x : X) → 0 < length xs → behind_first (map f (xs ++ x ∷ [])) ≡ behind_first (map f xs) + f x
behind_push f [] x some = absurd (omega (arith, some))
behind_push f (y ∷ ys) x some = total_push f ys x

some_taken : {X : Type 0} (ys : List X) (j : ℕ) → j < length ys → 0 < j → 0 < length (take j ys)
some_taken [] j h p = absurd (omega (arith, h))
some_taken (y ∷ ys) zero h p = absurd (omega (arith, p))
some_taken (y ∷ ys) (suc j) h p = omega arith

pub behind_more : {X : Type 0} (f : Setting → X → ℕ) (xs : List X) (old now after : Counted) (k : ℕ) (x d : X) → BehindUpTo f xs old k now → k < length xs → 0 < k → x ≡ get_or xs k d →
    Adds now after (λ c. f c x) → BehindUpTo f xs old (k + 1) after
unfolding Adds
behind_more f xs old now after k x d held within past at adds = record {
  is = λ c. let one : behind_first (map (f c) (take (k + 1) xs)) ≡ behind_first (map (f c) (take k xs)) + f c x =
      ap (λ ys. behind_first (map (f c) ys)) (take_turn xs k x d within at) ∙ behind_push (f c) (take k xs) x (some_taken xs k within past) in
      let before = held.is c in let grown = adds c in omega (arith, one, before, grown);
}

pub behind_end : {X : Type 0} (f : Setting → X → ℕ) (xs : List X) (old now : Counted) (k : ℕ) → BehindUpTo f xs old k now → length xs ≤ k → Adds old now (λ c. behind_first (map (f c) xs))
unfolding Adds
behind_end f xs old now k held past c = held.is c ∙ ap (λ ys. weight c old + behind_first (map (f c) ys)) (take_all k xs past)

-- One part after another.

pub adds_none : (old : Counted) (f : Setting → ℕ) → ((c : Setting) → f c ≡ 0) → Adds old old f
unfolding Adds
adds_none old f none c = let e = none c in omega (arith, e)

pub adds_two : (old mid new : Counted) (a b f : Setting → ℕ) → Adds old mid a → Adds mid new b → ((c : Setting) → f c ≡ a c + b c) → Adds old new f
unfolding Adds
adds_two old mid new a b f first second is c = let e = is c in let x = first c in let y = second c in omega (arith, e, x, y)

pub adds_same : (old new : Counted) (a f : Setting → ℕ) → Adds old new a → ((c : Setting) → f c ≡ a c) → Adds old new f
unfolding Adds
adds_same old new a f adds is c = let e = is c in let x = adds c in omega (arith, e, x)

module _ {A E : Type 0} where
  pub ends_same : (r : Result A E) (old new : Counted) (a f : Setting → ℕ) → OnOk r (Adds old new a) → ((c : Setting) → f c ≡ a c) → OnOk r (Adds old new f)
  ends_same (Ok x) old new a f adds is = adds_same old new a f adds is
  ends_same (Err e) old new a f adds is = tt

  pub ends_two : (r : Result A E) (old mid new : Counted) (a b f : Setting → ℕ) → Adds old mid a → OnOk r (Adds mid new b) → ((c : Setting) → f c ≡ a c + b c) → OnOk r (Adds old new f)
  ends_two (Ok x) old mid new a b f first second is = adds_two old mid new a b f first second is
  ends_two (Err e) old mid new a b f first second is = tt

  pub ends_three : (r : Result A E) (old one two new : Counted) (a b d f : Setting → ℕ) → Adds old one a → Adds one two b → OnOk r (Adds two new d) → ((c : Setting) → f c ≡ a c + (b c + d c)) → OnOk r (Adds old new f)
  ends_three (Ok x) old one two new a b d f first second third is = adds_two old one new a (λ c. b c + d c) f first (adds_two one two new b d (λ c. b c + d c) second third (λ c. refl)) is
  ends_three (Err e) old one two new a b d f first second third is = tt

pub node_added : (old new : Counted) → new.nodes ≡ old.nodes + 1 → new.uses ≡ old.uses → Adds old new one_node
unfolding Adds
node_added old new more same c = let e = ap (costs c) same in omega (arith, e, more)

pub use_added : (old new : Counted) (u : Use) → new.nodes ≡ old.nodes → new.uses ≡ old.uses ++ u ∷ [] → Adds old new (λ c. cost c u)
unfolding Adds
use_added old new u same more c = let e : costs c new.uses ≡ costs c old.uses + cost c u = ap (costs c) more ∙ total_push (cost c) old.uses u in omega (arith, e, same)

pub adds_shown : (old new shown : Counted) (a f : Setting → ℕ) → new ≡ shown → Adds old shown a → ((c : Setting) → f c ≡ a c) → Adds old new f
unfolding Adds
adds_shown old new shown a f same adds is c = let e = is c in let x = adds c in let n = ap (weight c) same in omega (arith, e, x, n)
