-- Names that are added one after another.
use Rattle.std.proofs.Common.{◌≡◌, ℕ, ◌+◌, ◌<◌, ◌≤◌, List, ◌∷◌, length, drop, get_or, refl, ap, ◌∙◌, sym}
use Rattle.std.proofs.lemmas.List.{drop_all}
use Rattle.uc_rules.proofs.Lists.{drop_turn}
use Rattle.uc_type_names.specs.NameSets.{with_name}
use Rattle.uc_written_once.specs.SteppedOnceWalks.{with_names}

-- Before turn k, the rest is still to be added.
pub record NamesFrom (before more : List ℕ) (k : ℕ) (now : List ℕ) : Type 0 where
  pub rest : with_names now (drop k more) ≡ with_names before more

pub names_begin : (before more : List ℕ) → NamesFrom before more 0 before
names_begin before more = record { rest = refl }

turn : (now : List ℕ) (x : ℕ) (xs : List ℕ) → with_names now (x ∷ xs) ≡ with_names (with_name now x) xs
unfolding with_names
turn now x xs = refl

pub names_more : (before more now now' : List ℕ) (k x d : ℕ) → NamesFrom before more k now → k < length more → x ≡ get_or more k d → now' ≡ with_name now x → NamesFrom before more (k + 1) now'
names_more before more now now' k x d held within at is = record {
  rest = ap (λ ns. with_names ns (drop (k + 1) more)) is ∙ sym (turn now x (drop (k + 1) more)) ∙ sym (ap (with_names now) (drop_turn more k x d within at)) ∙ held.rest;
}

pub names_end : (before more now : List ℕ) (k : ℕ) → NamesFrom before more k now → length more ≤ k → now ≡ with_names before more
unfolding with_names
names_end before more now k held past = sym (ap (with_names now) (drop_all k more past)) ∙ held.rest
