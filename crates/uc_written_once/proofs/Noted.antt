-- The first fault while those of a list are noted one after another, and what a statement shows by its form.
use Rattle.std.proofs.Common.{◌≡◌, ℕ, ◌+◌, ◌<◌, ◌≤◌, List, [], ◌∷◌, ◌++◌, length, map, take, get_or, Option, refl, sym, ap, ◌∙◌}
use Rattle.std.specs.List.{flat_map}
use Rattle.std.proofs.lemmas.List.{take_all}
use Rattle.std.proofs.lemmas.Grind.{flat_map-append}
use Rattle.uc_syntax.specs.declared.statement.Arm.{Arm}
use Rattle.uc_syntax.specs.declared.statement.Stmt.{Stmt}
use Rattle.uc_syntax.proofs.Added.{append_nil}
use Rattle.uc_syntax.proofs.Labels.{flat_map_map}
use Rattle.uc_rules.specs.declared.fault.Fault.{Fault}
use Rattle.uc_rules.specs.Faults.{first_of}
use Rattle.uc_rules.proofs.Chains.{first_of_append}
use Rattle.uc_rules.proofs.Lists.{take_turn}
use Rattle.uc_order_rules.specs.Mentions.{all_of}
use Rattle.uc_written_once.specs.LoneFaultsWalks.{in_arm}

-- the faults of the first i elements are noted
pub record NotedUpTo {X : Type 0} (f : X → List Fault) (xs : List X) (old : Option Fault) (i : ℕ) (now : Option Fault) : Type 0 where
  pub is : now ≡ first_of old (flat_map f (take i xs))

pub noted_begin : {X : Type 0} (f : X → List Fault) (xs : List X) (old : Option Fault) → NotedUpTo f xs old 0 old
unfolding first_of
noted_begin f xs old = record { is = refl }

pub noted_more : {X : Type 0} (f : X → List Fault) (xs : List X) (old now after : Option Fault) (i : ℕ) (x d : X) → NotedUpTo f xs old i now →
    i < length xs → x ≡ get_or xs i d → after ≡ first_of now (f x) → NotedUpTo f xs old (i + 1) after
noted_more f xs old now after i x d so_far within is e = record {
  is = e ∙ ap (λ o. first_of o (f x)) so_far.is ∙ sym (first_of_append old (flat_map f (take i xs)) (f x))
      ∙ ap (first_of old) (sym (ap (flat_map f) (take_turn xs i x d within is) ∙ flat_map-append f (take i xs) (x ∷ [])
      ∙ ap (λ ys. flat_map f (take i xs) ++ ys) (append_nil (f x))));
}

pub noted_end : {X : Type 0} (f : X → List Fault) (xs : List X) (old now : Option Fault) (i : ℕ) → NotedUpTo f xs old i now → length xs ≤ i →
    now ≡ first_of old (flat_map f xs)
noted_end f xs old now i so_far past = so_far.is ∙ ap (λ ys. first_of old (flat_map f ys)) (take_all i xs past)

-- What is noted of a statement, where it is read by its form: `f y` is known, and the statement is y.
module _ {X : Type 0} (f : X → List Fault) (x y : X) (old : Option Fault) (same : x ≡ y) where
  pub shows_nothing : f y ≡ [] → old ≡ first_of old (f x)
  unfolding first_of
  shows_nothing e = sym (ap (λ z. first_of old (f z)) same ∙ ap (first_of old) e)

  pub shows_one : (a : List Fault) (now : Option Fault) → f y ≡ a → now ≡ first_of old a → now ≡ first_of old (f x)
  shows_one a now e is = is ∙ sym (ap (λ z. first_of old (f z)) same ∙ ap (first_of old) e)

  pub shows_two : (a b : List Fault) (mid now : Option Fault) → f y ≡ a ++ b → mid ≡ first_of old a → now ≡ first_of mid b → now ≡ first_of old (f x)
  shows_two a b mid now e first second =
      shows_one (a ++ b) now e (second ∙ ap (λ o. first_of o b) first ∙ sym (first_of_append old a b))

-- an arm with what its statements show
abbrev pub through : (Stmt → List Fault) → Arm Stmt → Arm (List Fault)
through f a = record { condition = a.condition; body = map f a.body }

pub of_block : (f : Stmt → List Fault) (block : List Stmt) → all_of (map f block) ≡ flat_map f block
of_block f block = flat_map_map (λ p. p) f block

pub of_arms : (f : Stmt → List Fault) (arms : List (Arm Stmt)) → flat_map (λ a. all_of a.body) (map (through f) arms) ≡ flat_map (in_arm f) arms
of_arms f [] = refl
of_arms f (a ∷ more) = (λ k. of_block f a.body k ++ of_arms f more k)

-- the statements of an arm are noted
pub arm_shown : (f : Stmt → List Fault) (a : Arm Stmt) (shown : List Stmt) (old now : Option Fault) (i : ℕ) → shown ≡ a.body → NotedUpTo f shown old i now → length shown ≤ i →
    now ≡ first_of old (in_arm f a)
arm_shown f a shown old now i same so_far past = noted_end f shown old now i so_far past ∙ ap (λ ss. first_of old (flat_map f ss)) same
