-- How a bound name is followed upwards, one binding after another.
use Rattle.std.proofs.Common.{◌≡◌, ℕ, zero, suc, ◌-◌, List, Option, Some, None, refl, ap, ◌∙◌, sym, arith}
use Rattle.std.specs.Prelude.{unwrap_or}
use Rattle.std.specs.Option.{option_map}
use Rattle.uc_meaning.specs.Lookup.{System}
use Rattle.uc_meaning.specs.Code.{Reached as NameAt, bound_name, followed}
use Rattle.uc_runs.specs.declared.cell.Reached.{Reached}
use Rattle.uc_runs.specs.Writes.{reached_parts, cell_at}

module _ (system : System) (path : List ℕ) (x : ℕ) where
  -- no binding is followed
  pub ends : (n : ℕ) → n ≡ 0 → cell_at system (path, x) ≡ cell_at system (followed n system (path, x))
  unfolding followed
  ends n none = ap (λ k. cell_at system (followed k system (path, x))) (sym none)

  -- the name is not bound to a name
  pub stays : (n : ℕ) → None ≡ bound_name system (path, x) → cell_at system (path, x) ≡ cell_at system (followed n system (path, x))
  unfolding followed
  stays zero none = refl
  stays (suc n) none = ap (λ o. cell_at system (unwrap_or (option_map (followed n system) o) (path, x))) none

  pub follows : (n : ℕ) (r : Reached) → (n ≡ 0 → ⊥) → Some (reached_parts path r) ≡ bound_name system (path, x) →
      cell_at system (followed (n - 1) system (reached_parts path r)) ≡ cell_at system (followed n system (path, x))
  unfolding followed
  follows zero r some bound = absurd (some refl)
  follows (suc n) r some bound =
      let one : suc n - 1 ≡ n = omega arith in
      ap (λ k. cell_at system (followed k system (reached_parts path r))) one
      ∙ ap (λ o. cell_at system (unwrap_or (option_map (followed n system) o) (path, x))) bound
