-- Marks that are made.
use Rattle.std.proofs.Common.{◌≡◌, ℕ, ◌<◌, inl, inr, Bool, true, false, List, length, get_or, sym, subst, ◌∙◌, get_or-set_same, get_or-set_other}
use Rattle.std.proofs.Math.ListN.{set}
use Rattle.std.proofs.lemmas.Bool.{cases_eq}

pub marked_here : (marks : List Bool) (n : ℕ) → n < length marks → get_or (set marks n true) n false ≡ true
marked_here marks n inside = get_or-set_same marks n true false inside

pub marked_stays : (marks : List Bool) (n x : ℕ) → n < length marks → get_or marks x false ≡ true → get_or (set marks n true) x false ≡ true
marked_stays marks n x inside is =
    elim (cases_eq x n) [
      | inl same ↦ subst (λ k. get_or (set marks n true) k false ≡ true) (sym same) (marked_here marks n inside)
      | inr other ↦ get_or-set_other marks n x true false other ∙ is
    ]
