-- Names that keep their numbers.
use Rattle.std.proofs.Common.{◌≡◌, ℕ, zero, suc, List, [], ◌∷◌, take, length, slice_get, Some, refl}
use Rattle.uc_syntax.specs.Numbering.{KeepNumbers}

-- a name that was there stands at the same number
pub name_stays : (before after : List (List ℕ)) (n : ℕ) (text : List ℕ) → KeepNumbers before after → slice_get before n ≡ Some text → slice_get after n ≡ Some text
name_stays [] after n text kept e = cc
name_stays (x ∷ xs) [] n text kept e = cc
name_stays (x ∷ xs) (y ∷ ys) zero text kept e = cc
name_stays (x ∷ xs) (y ∷ ys) (suc n) text kept e =
    let rest : take (length xs) ys ≡ xs = cc in
    name_stays xs ys n text rest e

pub kept_twice : (before between after : List (List ℕ)) → KeepNumbers before between → KeepNumbers between after → KeepNumbers before after
kept_twice [] between after first second = refl
kept_twice (x ∷ xs) [] after first second = cc
kept_twice (x ∷ xs) (y ∷ ys) [] first second = cc
kept_twice (x ∷ xs) (y ∷ ys) (z ∷ zs) first second =
    let a : take (length xs) ys ≡ xs = cc in
    let b : take (length ys) zs ≡ ys = cc in
    let same : z ≡ x = cc in
    let rest = kept_twice xs ys zs a b in
    (λ i. same i ∷ rest i)
