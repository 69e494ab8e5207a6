-- The turns of a loop over a list of names.
use Rattle.std.proofs.Common.{◌≡◌, ℕ, ◌+◌, ◌<◌, ◌≤◌, Bool, true, false, List, [], ◌∷◌, ◌++◌, length, drop, get_or, Option, refl, ap, ◌∙◌, sym, arith}
use Rattle.std.specs.Prelude.{nat_eq, ◌||◌, if◌then◌else◌}
use Rattle.std.proofs.lemmas.List.{drop_all}
use Rattle.std.proofs.lemmas.List.Folds.{list_any-append}
use Rattle.uc_syntax.specs.declared.place.Identifier.{Identifier}
use Rattle.uc_rules.specs.declared.fault.Fault.{Fault}
use Rattle.uc_rules.specs.declared.rule.Rule.TheVariants.{DuplicateName}
use Rattle.uc_rules.specs.Faults.{breaks_where, first_of}
use Rattle.uc_rules.specs.Names.{names_one_of, repeated_in, repeated_in_list}
use Rattle.uc_rules.proofs.Chains.{first_of_append}
use Rattle.uc_rules.proofs.Lists.{drop_turn}
use Rattle.uc_type_names.specs.NameSets.{with_name, with_all}

-- two lists have the same names
abbrev SameNames : List ℕ → List ℕ → Type 0
SameNames e f = (x : ℕ) → names_one_of e x ≡ names_one_of f x

same_with : (e f : List ℕ) (y : ℕ) → SameNames e f → SameNames (e ++ y ∷ []) (f ++ y ∷ [])
same_with e f y h x =
    list_any-append (nat_eq x) e (y ∷ [])
    ∙ ap (λ b. b || names_one_of (y ∷ []) x) (h x)
    ∙ sym (list_any-append (nat_eq x) f (y ∷ []))

repeated_same : (taken : ℕ → Bool) (e f : List ℕ) (is : List Identifier) → SameNames e f → repeated_in taken e is ≡ repeated_in taken f is
unfolding repeated_in
repeated_same taken e f [] h = refl
repeated_same taken e f (i ∷ is) h =
    ap (λ b. breaks_where (taken i.name || b) DuplicateName i.place ++ repeated_in taken (e ++ i.name ∷ []) is) (h i.name)
    ∙ ap (λ fs. breaks_where (taken i.name || names_one_of f i.name) DuplicateName i.place ++ fs)
    (repeated_same taken (e ++ i.name ∷ []) (f ++ i.name ∷ []) is (same_with e f i.name h))

one_more : (b c : Bool) → (c ≡ true → b ≡ true) → b ≡ (b || c)
one_more true c h = refl
one_more false true h = h refl
one_more false false h = refl

only_name : (x y : ℕ) (e : List ℕ) → names_one_of e y ≡ true → names_one_of (y ∷ []) x ≡ true → names_one_of e x ≡ true
only_name x y e there h = let is : x ≡ y = grind (arith, h) in ap (names_one_of e) is ∙ there

-- a name that is in a list adds none to it
same_where : (e : List ℕ) (y : ℕ) (b : Bool) → names_one_of e y ≡ b → SameNames (if b then e else e ++ y ∷ []) (e ++ y ∷ [])
same_where e y true there x =
    one_more (names_one_of e x) (names_one_of (y ∷ []) x) (only_name x y e there) ∙ sym (list_any-append (nat_eq x) e (y ∷ []))
same_where e y false away x = refl

-- Before turn k, the faults of the rest of the list are still to come.
pub record RepeatedFrom (taken : ℕ → Bool) (before : List ℕ) (is : List Identifier) (old : Option Fault) (k : ℕ) (seen : List ℕ) (first : Option Fault) : Type 0 where
  pub found : first_of first (repeated_in taken seen (drop k is)) ≡ first_of old (repeated_in taken before is)
  pub all : with_all seen (drop k is) ≡ with_all before is

pub repeated_begin : (taken : ℕ → Bool) (before : List ℕ) (is : List Identifier) (old : Option Fault) → RepeatedFrom taken before is old 0 before old
repeated_begin taken before is old = record { found = refl; all = refl }

turn : (taken : ℕ → Bool) (seen : List ℕ) (i : Identifier) (is : List Identifier) →
    repeated_in taken seen (i ∷ is) ≡ breaks_where (taken i.name || names_one_of seen i.name) DuplicateName i.place ++ repeated_in taken (seen ++ i.name ∷ []) is
unfolding repeated_in
turn taken seen i is = refl

turn_all : (seen : List ℕ) (i : Identifier) (is : List Identifier) → with_all seen (i ∷ is) ≡ with_all (with_name seen i.name) is
unfolding with_all
turn_all seen i is = refl

pub repeated_more : (taken : ℕ → Bool) (before : List ℕ) (is : List Identifier) (old : Option Fault) (k : ℕ) (seen : List ℕ) (first : Option Fault) (i d : Identifier) (seen' : List ℕ) (first' : Option Fault) →
    RepeatedFrom taken before is old k seen first → k < length is → i ≡ get_or is k d →
    first' ≡ first_of first (breaks_where (taken i.name || names_one_of seen i.name) DuplicateName i.place) → seen' ≡ with_name seen i.name →
    RepeatedFrom taken before is old (k + 1) seen' first'
repeated_more taken before is old k seen first i d seen' first' held within at found-is seen-is =
    let faults : List Fault = breaks_where (taken i.name || names_one_of seen i.name) DuplicateName i.place in record {
      found =
          ap (λ s. first_of first' (repeated_in taken s (drop (k + 1) is))) seen-is
          ∙ ap (first_of first') (repeated_same taken (with_name seen i.name) (seen ++ i.name ∷ []) (drop (k + 1) is) (same_where seen i.name (names_one_of seen i.name) refl))
          ∙ ap (λ o. first_of o (repeated_in taken (seen ++ i.name ∷ []) (drop (k + 1) is))) found-is
          ∙ sym (first_of_append first faults (repeated_in taken (seen ++ i.name ∷ []) (drop (k + 1) is)))
          ∙ sym (ap (first_of first) (turn taken seen i (drop (k + 1) is)))
          ∙ sym (ap (λ xs. first_of first (repeated_in taken seen xs)) (drop_turn is k i d within at))
          ∙ held.found;
      all =
          ap (λ s. with_all s (drop (k + 1) is)) seen-is
          ∙ sym (turn_all seen i (drop (k + 1) is))
          ∙ sym (ap (with_all seen) (drop_turn is k i d within at))
          ∙ held.all;
    }

pub repeated_end : (taken : ℕ → Bool) (before : List ℕ) (is : List Identifier) (old : Option Fault) (k : ℕ) (seen : List ℕ) (first : Option Fault) →
    RepeatedFrom taken before is old k seen first → length is ≤ k → first ≡ first_of old (repeated_in taken before is)
unfolding repeated_in first_of
repeated_end taken before is old k seen first held past =
    sym (ap (λ xs. first_of first (repeated_in taken seen xs)) (drop_all k is past)) ∙ held.found

pub repeated_all : (taken : ℕ → Bool) (before : List ℕ) (is : List Identifier) (old : Option Fault) (k : ℕ) (seen : List ℕ) (first : Option Fault) →
    RepeatedFrom taken before is old k seen first → length is ≤ k → seen ≡ with_all before is
unfolding with_all
repeated_all taken before is old k seen first held past = sym (ap (with_all seen) (drop_all k is past)) ∙ held.all

-- nothing is taken where no name is given
none_taken : (e : List ℕ) (is : List Identifier) → repeated_in (names_one_of []) e is ≡ repeated_in (λ x. false) e is
unfolding repeated_in
none_taken e [] = refl
none_taken e (i ∷ is) = ap (λ fs. breaks_where (names_one_of e i.name) DuplicateName i.place ++ fs) (none_taken (e ++ i.name ∷ []) is)

pub in_list : (is : List Identifier) → repeated_in (names_one_of []) [] is ≡ repeated_in_list is
in_list is = none_taken [] is
