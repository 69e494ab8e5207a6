-- What each element of a list gives with its number, from a place on.
use Rattle.std.proofs.Common.{◌≡◌, ℕ, ◌+◌, ◌<◌, ◌≤◌, List, [], ◌∷◌, ◌++◌, length, get_or, drop, append_assoc, refl, sym, ap, ◌∙◌}
use Rattle.std.specs.List.{flat_map}
use Rattle.std.proofs.lemmas.List.{append-nil, drop_all}
use Rattle.uc_meaning.specs.Lines.{numbered}
use Rattle.uc_meaning.proofs.Lists.{drop_turn}

pub numbered_more : {A B : Type 0} (f : ℕ × A → List B) (xs : List A) (k : ℕ) (x : A) (now more whole : List B) → k < length xs → x ≡ get_or xs k x
    → now ++ flat_map f (numbered k (drop k xs)) ≡ whole → more ≡ now ++ f (k, x) → more ++ flat_map f (numbered (k + 1) (drop (k + 1) xs)) ≡ whole
unfolding numbered
numbered_more f xs k x now more whole within is h n =
    ap (λ ys. ys ++ flat_map f (numbered (k + 1) (drop (k + 1) xs))) n
    ∙ append_assoc now (f (k, x)) (flat_map f (numbered (k + 1) (drop (k + 1) xs)))
    ∙ ap (λ ys. now ++ flat_map f (numbered k ys)) (sym (drop_turn xs k x within is))
    ∙ h

pub numbered_end : {A B : Type 0} (f : ℕ × A → List B) (xs : List A) (k : ℕ) (now whole : List B) → length xs ≤ k → now ++ flat_map f (numbered k (drop k xs)) ≡ whole → now ≡ whole
unfolding numbered
numbered_end f xs k now whole past h =
    sym (append-nil now) ∙ ap (λ ys. now ++ flat_map f (numbered k ys)) (sym (drop_all k xs past)) ∙ h
