-- Numbers that are among some.
use Rattle.std.proofs.Common.{◌≡◌, ℕ, true, List, ◌∷◌, ◌++◌, ◌∙◌, sym, arith, ◌⊎◌, inl, inr, ⊎_elim}
use Rattle.std.specs.Prelude.{nat_eq}
use Rattle.std.proofs.lemmas.List.Folds.{list_any-append}
use Rattle.uc_graph.specs.Order.{has}
use Rattle.uc_declared_types.proofs.Along.{either, or_left, or_right}

equal : (n m : ℕ) → nat_eq n m ≡ true → n ≡ m
equal n m h = grind (arith, h)

same : (n : ℕ) → nat_eq n n ≡ true
same n = grind arith

pub has_split : (a b : List ℕ) (n : ℕ) → has (a ++ b) n ≡ true → (has a n ≡ true) ⊎ (has b n ≡ true)
has_split a b n h = either (has a n) (has b n) (sym (list_any-append (nat_eq n) a b) ∙ h)

pub has_right : (a b : List ℕ) (n : ℕ) → has b n ≡ true → has (a ++ b) n ≡ true
has_right a b n h = list_any-append (nat_eq n) a b ∙ or_right (has a n) (has b n) h

pub has_first : (n : ℕ) (ns : List ℕ) → has (n ∷ ns) n ≡ true
has_first n ns = or_left (nat_eq n n) (has ns n) (same n)

pub has_cons : (x : ℕ) (ns : List ℕ) (n : ℕ) → has (x ∷ ns) n ≡ true → (n ≡ x) ⊎ (has ns n ≡ true)
has_cons x ns n h = ⊎_elim (λ e. inl (equal n x e)) (λ e. inr e) (either (nat_eq n x) (has ns n) h)
