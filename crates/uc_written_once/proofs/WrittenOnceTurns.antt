-- The turns of loops over code, by what a walk does with each thing.
use Rattle.std.proofs.Common.{◌≡◌, ℕ, ◌+◌, ◌<◌, ◌≤◌, Bool, List, [], ◌∷◌, ◌++◌, length, map, take, drop, get_or, Option, refl, ap, ◌∙◌, sym, append_assoc}
use Rattle.std.proofs.lemmas.List.{drop_all}
use Rattle.uc_rules.specs.declared.fault.Fault.{Fault}
use Rattle.uc_rules.specs.Faults.{first_of}
use Rattle.uc_rules.proofs.Chains.{first_of_append}
use Rattle.uc_rules.proofs.Lists.{drop_turn}
use Rattle.uc_order_rules.specs.Walks.{Parted, Passed, Walk, after, parted_after, passed, walk_arms, walk_each}
use Rattle.uc_written_once.specs.Walks.{Went, WentAside}

pub went_is : {A : Type 0} (p : Passed A) (old : Option Fault) (now : List A) (first : Option Fault) → now ≡ p.seen → first ≡ first_of old p.faults → Went p old now first
went_is p old now first s f = record { seen = s; faults = f }

pub went_as : {A : Type 0} (p q : Passed A) (old : Option Fault) (now : List A) (first : Option Fault) → p ≡ q → Went p old now first → Went q old now first
went_as p q old now first e w = record { seen = w.seen ∙ ap (λ r. r.seen) e; faults = w.faults ∙ ap (λ r. first_of old r.faults) e }

pub went_nothing : {A : Type 0} (old : Option Fault) (seen : List A) → Went (passed seen []) old seen old
unfolding first_of
went_nothing old seen = record { seen = refl; faults = refl }

module _ {A : Type 0} where
  each_turn : (w : Walk A) (ws : List (Walk A)) (again : Bool) (seen : List A) → walk_each (w ∷ ws) again seen ≡ after (w again seen).faults (walk_each ws again (w again seen).seen)
  unfolding walk_each
  each_turn w ws again seen = refl

  pub each_join : (ws vs : List (Walk A)) (again : Bool) (seen : List A) → walk_each (ws ++ vs) again seen ≡ after (walk_each ws again seen).faults (walk_each vs again (walk_each ws again seen).seen)
  unfolding walk_each
  each_join [] vs again seen = refl
  each_join (w ∷ ws) vs again seen =
      let one = w again seen in
      let rest = walk_each vs again (walk_each ws again one.seen).seen in
      ap (after one.faults) (each_join ws vs again one.seen)
      ∙ ap (λ fs. passed rest.seen fs) (sym (append_assoc one.faults (walk_each ws again one.seen).faults rest.faults))

  -- one walk, and then another one
  pub went_then : (p : Passed A) (w : List A → Passed A) (old mid now : Option Fault) (seen later : List A) → Went p old seen mid → Went (w seen) mid later now → Went (after p.faults (w p.seen)) old later now
  went_then p w old mid now seen later a b = record {
    seen = b.seen ∙ ap (λ x. (w x).seen) a.seen;
    faults = b.faults ∙ (λ k. first_of (a.faults k) (w (a.seen k)).faults) ∙ sym (first_of_append old p.faults (w p.seen).faults);
  }

  pub went_join : (ws vs : List (Walk A)) (again : Bool) (before seen later : List A) (old mid now : Option Fault) → Went (walk_each ws again before) old seen mid → Went (walk_each vs again seen) mid later now →
      Went (walk_each (ws ++ vs) again before) old later now
  went_join ws vs again before seen later old mid now a b =
      went_as _ _ old later now (sym (each_join ws vs again before)) (went_then (walk_each ws again before) (walk_each vs again) old mid now seen later a b)

module _ {A X : Type 0} (g : X → Walk A) where
  -- Before turn k, the rest of a list gives what the whole gives.
  pub record EachFrom (xs : List X) (again : Bool) (before : List A) (old : Option Fault) (k : ℕ) (seen : List A) (first : Option Fault) : Type 0 where
    pub all : (walk_each (map g (drop k xs)) again seen).seen ≡ (walk_each (map g xs) again before).seen
    pub found : first_of first (walk_each (map g (drop k xs)) again seen).faults ≡ first_of old (walk_each (map g xs) again before).faults

  module _ (xs : List X) (again : Bool) (before : List A) (old : Option Fault) where
    pub each_begin : EachFrom xs again before old 0 before old
    each_begin = record { all = refl; found = refl }

    turn_at : (seen : List A) (k : ℕ) (x d : X) → k < length xs → x ≡ get_or xs k d →
        walk_each (map g (drop k xs)) again seen ≡ after (g x again seen).faults (walk_each (map g (drop (k + 1) xs)) again (g x again seen).seen)
    turn_at seen k x d within at =
        ap (λ ys. walk_each (map g ys) again seen) (drop_turn xs k x d within at) ∙ each_turn (g x) (map g (drop (k + 1) xs)) again seen

    pub each_more : (k : ℕ) (seen seen' : List A) (first first' : Option Fault) (x d : X) → EachFrom xs again before old k seen first → k < length xs → x ≡ get_or xs k d →
        Went (g x again seen) first seen' first' → EachFrom xs again before old (k + 1) seen' first'
    each_more k seen seen' first first' x d held within at went =
        let step = turn_at seen k x d within at in
        let rest = map g (drop (k + 1) xs) in
        record {
          all = ap (λ y. (walk_each rest again y).seen) went.seen ∙ sym (ap (λ (p : Passed A). p.seen) step) ∙ held.all;
          found =
              (λ j. first_of (went.faults j) (walk_each rest again (went.seen j)).faults)
              ∙ sym (first_of_append first (g x again seen).faults (walk_each rest again (g x again seen).seen).faults)
              ∙ sym (ap (λ (p : Passed A). first_of first p.faults) step) ∙ held.found;
        }

    pub each_end : (k : ℕ) (seen : List A) (first : Option Fault) → EachFrom xs again before old k seen first → length xs ≤ k → Went (walk_each (map g xs) again before) old seen first
    unfolding walk_each first_of
    each_end k seen first held past = record {
      seen = sym (ap (λ ys. (walk_each (map g ys) again seen).seen) (drop_all k xs past)) ∙ held.all;
      faults = sym (ap (λ ys. first_of first (walk_each (map g ys) again seen).faults) (drop_all k xs past)) ∙ held.found;
    }

  -- The same of a loop over arms.
  pub record ArmsFrom (xs : List X) (again : Bool) (before put : List A) (old : Option Fault) (k : ℕ) (seen aside : List A) (first : Option Fault) : Type 0 where
    pub seen-all : (walk_arms (map g (drop k xs)) again seen aside).seen ≡ (walk_arms (map g xs) again before put).seen
    pub aside-all : (walk_arms (map g (drop k xs)) again seen aside).aside ≡ (walk_arms (map g xs) again before put).aside
    pub found : first_of first (walk_arms (map g (drop k xs)) again seen aside).faults ≡ first_of old (walk_arms (map g xs) again before put).faults

  module _ (xs : List X) (again : Bool) (before put : List A) (old : Option Fault) where
    pub arms_begin : ArmsFrom xs again before put old 0 before put old
    arms_begin = record { seen-all = refl; aside-all = refl; found = refl }

    arm_turn : (w : Walk A) (ws : List (Walk A)) (seen aside : List A) → walk_arms (w ∷ ws) again seen aside ≡
        parted_after (w again seen).faults (walk_arms ws again (take (length seen) (w again seen).seen) (aside ++ drop (length seen) (w again seen).seen))
    unfolding walk_arms
    arm_turn w ws seen aside = refl

    pub arms_more : (k : ℕ) (seen aside last seen' aside' : List A) (first first' : Option Fault) (start : ℕ) (a d : X) → ArmsFrom xs again before put old k seen aside first → k < length xs → a ≡ get_or xs k d →
        start ≡ length seen → Went (g a again seen) first last first' → seen' ≡ take start last → aside' ≡ aside ++ drop start last → ArmsFrom xs again before put old (k + 1) seen' aside' first'
    arms_more k seen aside last seen' aside' first first' start a d held within at start-is went seen-is aside-is =
        let one = g a again seen in
        let rest = map g (drop (k + 1) xs) in
        let s : seen' ≡ take (length seen) one.seen = seen-is ∙ (λ j. take (start-is j) (went.seen j)) in
        let p : aside' ≡ aside ++ drop (length seen) one.seen = aside-is ∙ (λ j. aside ++ drop (start-is j) (went.seen j)) in
        let step = ap (λ ys. walk_arms (map g ys) again seen aside) (drop_turn xs k a d within at) ∙ arm_turn (g a) rest seen aside in
        record {
          seen-all = (λ j. (walk_arms rest again (s j) (p j)).seen) ∙ sym (ap (λ (q : Parted A). q.seen) step) ∙ held.seen-all;
          aside-all = (λ j. (walk_arms rest again (s j) (p j)).aside) ∙ sym (ap (λ (q : Parted A). q.aside) step) ∙ held.aside-all;
          found =
              (λ j. first_of (went.faults j) (walk_arms rest again (s j) (p j)).faults)
              ∙ sym (first_of_append first one.faults (walk_arms rest again (take (length seen) one.seen) (aside ++ drop (length seen) one.seen)).faults)
              ∙ sym (ap (λ (q : Parted A). first_of first q.faults) step) ∙ held.found;
        }

    pub arms_end : (k : ℕ) (seen aside : List A) (first : Option Fault) → ArmsFrom xs again before put old k seen aside first → length xs ≤ k → WentAside (walk_arms (map g xs) again before put) old seen aside first
    unfolding walk_arms first_of
    arms_end k seen aside first held past = record {
      seen = sym (ap (λ ys. (walk_arms (map g ys) again seen aside).seen) (drop_all k xs past)) ∙ held.seen-all;
      aside_is = sym (ap (λ ys. (walk_arms (map g ys) again seen aside).aside) (drop_all k xs past)) ∙ held.aside-all;
      faults = sym (ap (λ ys. first_of first (walk_arms (map g ys) again seen aside).faults) (drop_all k xs past)) ∙ held.found;
    }
