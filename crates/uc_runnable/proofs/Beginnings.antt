-- The first statement of an init block that has no code over cells.
use Rattle.std.proofs.Common.{◌≡◌, ℕ, zero, suc, ◌+◌, ◌<◌, ◌≤◌, List, [], ◌∷◌, length, drop, get_or, refl, sym, ap, ◌∙◌, subst, arith, Option, Some, None}
use Rattle.std.specs.Prelude.{Result, Ok}
use Rattle.uc_lexer.specs.declared.place.Place.{Place}
use Rattle.uc_syntax.specs.declared.statement.Stmt.{Stmt}
use Rattle.uc_flat_expressions.specs.declared.typed.Meant.{Meant}
use Rattle.uc_flat_expressions.specs.declared.typed.FlatError.{FlatError}
use Rattle.uc_flat_code.specs.CellTypes.{Types}
use Rattle.uc_flat_code.specs.declared.made.MadeCode.{MadeCode}
use Rattle.uc_flat_code.specs.Init.{Made, making_of}
use Rattle.uc_flat_code.specs.FlatInitWalk.{with_names, IsWalked}
use Rattle.uc_runnable.specs.Unfit.{begins_at, or_behind, unfit_init, IsBehind}

pub behind_made : (o : Option Made) (names : List Meant) (r : Result MadeCode FlatError) (made : MadeCode) (n k : ℕ) → IsWalked o names r → r ≡ Ok made → n + length made.further ≡ k → IsBehind o names n (Some k)
behind_made o names r made n k w is e = let h = subst (IsWalked o names) is w in (with_names made names, h, refl, e)

drop_at : {A : Type 0} (xs : List A) (k : ℕ) (x : A) → k < length xs → x ≡ get_or xs k x → drop k xs ≡ x ∷ drop (suc k) xs
drop_at [] k x l e = absurd (omega (arith, l))
drop_at (y ∷ xs) zero x l e = ap (λ z. z ∷ xs) (sym e)
drop_at (y ∷ xs) (suc k) x l e = drop_at xs k x (omega (arith, l)) e

next_place : (k : ℕ) → suc k ≡ k + 1
next_place k = omega arith

drop_cons : (xs : List Stmt) (k : ℕ) (x : Stmt) → k < length xs → x ≡ get_or xs k x → drop k xs ≡ x ∷ drop (k + 1) xs
drop_cons xs k x l e = drop_at xs k x l e ∙ ap (λ j. x ∷ drop j xs) (next_place k)

drop_all : (xs : List Stmt) (k : ℕ) → length xs ≤ k → drop k xs ≡ []
drop_all [] zero l = refl
drop_all [] (suc k) l = refl
drop_all (x ∷ xs) zero l = absurd (omega (arith, l))
drop_all (x ∷ xs) (suc k) l = drop_all xs k (omega (arith, l))

module _ (types : Types) (block : List Stmt) where
  -- behind a statement that has code the first such statement is the same
  pub init_turn : (whole : Option Place) (names other : List Meant) (n next k : ℕ) (s : Stmt) (r : Option ℕ) → k < length block → s ≡ get_or block k s → r ≡ Some next → IsBehind (making_of types s names n) other n r
      → unfit_init types names n (drop k block) ≡ whole → unfit_init types other next (drop (k + 1) block) ≡ whole
  unfolding unfit_init
  init_turn whole names other n next k s r l e is given so_far =
      let b = subst (IsBehind (making_of types s names n) other n) is given in
      let made = b.0 in
      sym (ap (λ ns. unfit_init types ns next (drop (k + 1) block)) b.2)
      ∙ ap (λ j. unfit_init types made.names j (drop (k + 1) block)) (sym b.3)
      ∙ sym (ap (or_behind (begins_at s) (λ a. unfit_init types a.names (n + length a.further) (drop (k + 1) block))) b.1)
      ∙ ap (unfit_init types names n) (sym (drop_cons block k s l e))
      ∙ so_far

  -- a statement that has none is the first
  pub init_found : (whole : Option Place) (names other : List Meant) (n k : ℕ) (s : Stmt) (r : Option ℕ) (place : Place) → k < length block → s ≡ get_or block k s → r ≡ None → IsBehind (making_of types s names n) other n r
      → unfit_init types names n (drop k block) ≡ whole → place ≡ begins_at s → Some place ≡ whole
  unfolding unfit_init
  init_found whole names other n k s r place l e is given so_far at =
      let none : making_of types s names n ≡ None = subst (IsBehind (making_of types s names n) other n) is given in
      ap Some at
      ∙ sym (ap (or_behind (begins_at s) (λ a. unfit_init types a.names (n + length a.further) (drop (k + 1) block))) none)
      ∙ ap (unfit_init types names n) (sym (drop_cons block k s l e))
      ∙ so_far

  -- at the end of the block there is none
  pub init_end : (whole : Option Place) (names : List Meant) (n k : ℕ) → length block ≤ k → unfit_init types names n (drop k block) ≡ whole → None ≡ whole
  unfolding unfit_init
  init_end whole names n k l so_far = ap (unfit_init types names n) (sym (drop_all block k l)) ∙ so_far
