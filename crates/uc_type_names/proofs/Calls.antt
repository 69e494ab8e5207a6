-- The turns of a loop over two lists of types.
use Rattle.std.proofs.Common.{◌≡◌, ℕ, ◌+◌, ◌<◌, Bool, true, List, [], ◌∷◌, length, drop, get_or, Option, Some, None, refl, ap, ◌∙◌, sym}
use Rattle.std.specs.Prelude.{slice_get, ◌&&◌}
use Rattle.uc_values.specs.declared.ty.Ty.{Ty}
use Rattle.uc_rules.specs.Rows.{all_suit, suits}
use Rattle.uc_rules.proofs.Lists.{drop_turn, drop_at, drop_past}

pub suit_turn : (ps ts : List (Option Ty)) (k : ℕ) (p t : Option Ty) (b : Bool) → k < length ps → p ≡ get_or ps k p → slice_get ts k ≡ Some t → b ≡ suits t p →
    all_suit (drop k ps) (drop k ts) ≡ (b && all_suit (drop (k + 1) ps) (drop (k + 1) ts))
suit_turn ps ts k p t b within is has s =
    ap (λ xs. all_suit xs (drop k ts)) (drop_turn ps k p p within is)
    ∙ ap (all_suit (p ∷ drop (k + 1) ps)) (drop_at ts k t has)
    ∙ ap (λ c. c && all_suit (drop (k + 1) ps) (drop (k + 1) ts)) (sym s)

suit_none : (ps : List (Option Ty)) → all_suit ps [] ≡ true
suit_none [] = refl
suit_none (p ∷ ps) = refl

pub suit_past : (ps ts : List (Option Ty)) (k : ℕ) → slice_get ts k ≡ None → all_suit (drop k ps) (drop k ts) ≡ true
suit_past ps ts k has = ap (all_suit (drop k ps)) (drop_past ts k has) ∙ suit_none (drop k ps)
