-- A list that grows by what each element of another list gives.
use Rattle.std.proofs.Common.{◌≡◌, ℕ, ◌+◌, ◌<◌, ◌≤◌, List, [], ◌∷◌, ◌++◌, length, take, get_or, refl, sym, ap, ◌∙◌, append_assoc}
use Rattle.std.specs.List.{flat_map}
use Rattle.std.proofs.lemmas.List.{take_more, take_all}
use Rattle.std.proofs.lemmas.Grind.{flat_map-append}

pub append_nil : {A : Type 0} (xs : List A) → xs ++ [] ≡ xs
append_nil [] = refl
append_nil (x ∷ xs) = ap (λ ys. x ∷ ys) (append_nil xs)

-- what the first i elements give stands behind what was there
pub record AddedUpTo {X A : Type 0} (f : X → List A) (xs : List X) (before : List A) (i : ℕ) (now : List A) : Type 0 where
  pub is : now ≡ before ++ flat_map f (take i xs)

pub added_begin : {X A : Type 0} (f : X → List A) (xs : List X) (before : List A) → AddedUpTo f xs before 0 before
added_begin f xs before = record { is = sym (append_nil before) }

pub added_more : {X A : Type 0} (f : X → List A) (xs : List X) (before now after : List A) (i : ℕ) (x : X) → AddedUpTo f xs before i now →
    i < length xs → x ≡ get_or xs i x → after ≡ now ++ f x → AddedUpTo f xs before (i + 1) after
added_more f xs before now after i x so_far within is e = record {
  is = e ∙ ap (λ ys. ys ++ f x) so_far.is ∙ append_assoc before (flat_map f (take i xs)) (f x)
      ∙ ap (λ ys. before ++ ys) (sym (ap (flat_map f) (take_more xs i x within) ∙ flat_map-append f (take i xs) (get_or xs i x ∷ [])
      ∙ ap (λ y. flat_map f (take i xs) ++ y) (append_nil (f (get_or xs i x)) ∙ ap f (sym is))));
}

pub added_end : {X A : Type 0} (f : X → List A) (xs : List X) (before now : List A) (i : ℕ) → AddedUpTo f xs before i now → length xs ≤ i →
    now ≡ before ++ flat_map f xs
added_end f xs before now i so_far past = so_far.is ∙ ap (λ ys. before ++ flat_map f ys) (take_all i xs past)

-- What a part adds, where it is read by its form: `f y` is known, and the part is y.
module _ {X A : Type 0} (f : X → List A) (x y : X) (before : List A) (same : x ≡ y) where
  pub adds_nothing : f y ≡ [] → before ≡ before ++ f x
  adds_nothing e = sym (ap (λ ys. before ++ ys) (ap f same ∙ e) ∙ append_nil before)

  pub adds_one : (a after : List A) → f y ≡ a → after ≡ before ++ a → after ≡ before ++ f x
  adds_one a after e first = first ∙ ap (λ ys. before ++ ys) (sym (ap f same ∙ e))

  pub adds_two : (a b one after : List A) → f y ≡ a ++ b → one ≡ before ++ a → after ≡ one ++ b → after ≡ before ++ f x
  adds_two a b one after e first second =
      second ∙ ap (λ ys. ys ++ b) first ∙ append_assoc before a b ∙ ap (λ ys. before ++ ys) (sym (ap f same ∙ e))

  pub adds_three : (a b c one two after : List A) → f y ≡ a ++ (b ++ c) → one ≡ before ++ a → two ≡ one ++ b → after ≡ two ++ c → after ≡ before ++ f x
  adds_three a b c one two after e first second third =
      adds_two a (b ++ c) one after e first (third ∙ ap (λ ys. ys ++ c) second ∙ append_assoc one b c)
