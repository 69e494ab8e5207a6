-- Numbers that are among some.
use Rattle.std.proofs.Common.{◌≡◌, ℕ, zero, suc, Bool, true, false, List, [], ◌∷◌, ◌++◌, refl, sym, ap, ◌∙◌, arith, ◌⊎◌, inl, inr, ⊎_elim}
use Rattle.std.specs.Prelude.{nat_eq, ◌||◌, ◌&&◌}
use Rattle.std.specs.List.{list_all}
use Rattle.std.proofs.lemmas.Bool.Decides.{nat_tests}
use Rattle.std.proofs.lemmas.List.Folds.{list_any-append}
use Rattle.uc_graph.specs.Order.{has}

pub nothing : {A : Type 0} → true ≡ false → A
nothing h = cc

either : (b c : Bool) → (b || c) ≡ true → (b ≡ true) ⊎ (c ≡ true)
either true c h = inl refl
either false c h = inr h

pub or_right : (b c : Bool) → c ≡ true → (b || c) ≡ true
or_right true c h = refl
or_right false c h = h

pub or_left : (b c : Bool) → b ≡ true → (b || c) ≡ true
or_left true c h = refl
or_left false c h = nothing (sym h)

pub equal : (n m : ℕ) → nat_eq n m ≡ true → n ≡ m
equal n m h = grind (arith, nat_tests)

pub same : (n : ℕ) → nat_eq n n ≡ true
same n = grind (arith, nat_tests)

pub same_or_not : (n m : ℕ) → (n ≡ m) ⊎ (n ≡ m → ⊥)
same_or_not zero zero = inl refl
same_or_not zero (suc m) = inr (λ e. absurd (omega (arith, e)))
same_or_not (suc n) zero = inr (λ e. absurd (omega (arith, e)))
same_or_not (suc n) (suc m) = ⊎_elim (λ e. inl (ap suc e)) (λ k. inr (λ e. k (omega (arith, e)))) (same_or_not n m)

pub has_cons : (x : ℕ) (ns : List ℕ) (n : ℕ) → has (x ∷ ns) n ≡ true → (n ≡ x) ⊎ (has ns n ≡ true)
has_cons x ns n h = ⊎_elim (λ e. inl (equal n x e)) (λ e. inr e) (either (nat_eq n x) (has ns n) h)

pub has_first : (n : ℕ) (ns : List ℕ) → has (n ∷ ns) n ≡ true
has_first n ns = or_left (nat_eq n n) (has ns n) (same n)

pub has_more : (x : ℕ) (ns : List ℕ) (n : ℕ) → has ns n ≡ true → has (x ∷ ns) n ≡ true
has_more x ns n h = or_right (nat_eq n x) (has ns n) h

pub has_either : (a b : List ℕ) (n : ℕ) → has (a ++ b) n ≡ (has a n || has b n)
has_either a b n = list_any-append (nat_eq n) a b

pub has_split : (a b : List ℕ) (n : ℕ) → has (a ++ b) n ≡ true → (has a n ≡ true) ⊎ (has b n ≡ true)
has_split a b n h = either (has a n) (has b n) (sym (has_either a b n) ∙ h)

pub has_left : (a b : List ℕ) (n : ℕ) → has a n ≡ true → has (a ++ b) n ≡ true
has_left a b n h = has_either a b n ∙ or_left (has a n) (has b n) h

pub has_right : (a b : List ℕ) (n : ℕ) → has b n ≡ true → has (a ++ b) n ≡ true
has_right a b n h = has_either a b n ∙ or_right (has a n) (has b n) h

-- a number among some is among them without another
pub has_others : (a b : List ℕ) (x n : ℕ) → has (a ++ x ∷ b) n ≡ true → (n ≡ x → ⊥) → has (a ++ b) n ≡ true
has_others a b x n h k =
    ⊎_elim (λ e. has_left a b n e) (λ e. ⊎_elim (λ is. absurd (k is)) (λ r. has_right a b n r) (has_cons x b n e)) (has_split a (x ∷ b) n h)

-- tests of numbers by which are among some
pub all_of : (p : ℕ → Bool) (ns : List ℕ) → ((n : ℕ) → has ns n ≡ true → p n ≡ true) → list_all p ns ≡ true
all_of p [] h = refl
all_of p (x ∷ ns) h = both (p x) (list_all p ns) (h x (has_first x ns)) (all_of p ns (λ n k. h n (has_more x ns n k)))
  where
    both : (b c : Bool) → b ≡ true → c ≡ true → (b && c) ≡ true
    both true c e f = f
    both false c e f = nothing (sym e)

pub not_all : (p : ℕ → Bool) (ns : List ℕ) (n : ℕ) → has ns n ≡ true → p n ≡ false → list_all p ns ≡ false
not_all p [] n h k = nothing (sym h)
not_all p (x ∷ ns) n h k = ⊎_elim (λ e. here (p x) (list_all p ns) (ap p (sym e) ∙ k)) (λ r. there (p x) (list_all p ns) (not_all p ns n r k)) (has_cons x ns n h)
  where
    here : (b c : Bool) → b ≡ false → (b && c) ≡ false
    here true c e = nothing e
    here false c e = refl

    there : (b c : Bool) → c ≡ false → (b && c) ≡ false
    there true c e = e
    there false c e = refl
