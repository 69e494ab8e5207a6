-- A nested form is read by its rule, where a level is left.
use Rattle.std.proofs.Common.{◌≡◌, ℕ, zero, suc, ◌-◌, ◌<◌, List, refl, arith, Err, Bool, true, false}
use Rattle.std.specs.Prelude.{if◌then◌else◌}
use Rattle.uc_forms.specs.declared.fault.Fault.TheVariants.{Syntax, TooDeep}
use Rattle.uc_forms.specs.Alphabet.{Alphabet}
use Rattle.uc_forms.specs.Form.{Rules}
use Rattle.uc_forms.specs.Reading.{is_at}
use Rattle.uc_forms.specs.Gives.{stop_deep}
use Rattle.uc_forms.specs.Counted.{State, count_at, count}
use Rattle.uc_forms.specs.CountedGives.{Counts}

module _ {T : Alphabet} {N : Type 0} {V : N → Type 0} (rule : Rules T N V) (opens : N → List ℕ) where
  pub deeper : (levels : ℕ) (n : N) (s : State T.Word) → 0 < levels → count_at rule opens levels n s ≡ count rule opens (levels - 1) (rule n) s
  unfolding count_at
  deeper zero n s h = absurd (omega arith)
  deeper (suc m) n s h = let e : suc m - 1 ≡ m = omega arith in rw e refl

  refused : (levels : ℕ) (n : N) (s : State T.Word) → levels ≡ 0 → count_at rule opens levels n s ≡ (if is_at T (opens n) s.0 then Err (TooDeep, s) else Err (Syntax, s))
  unfolding count_at
  refused levels n s e = rw e refl

  -- what it gives where no level is left
  pub no_level_gives : (levels : ℕ) (n : N) (s : State T.Word) → levels ≡ 0 → Counts (Err (stop_deep (is_at T (opens n) s.0))) s (count_at rule opens levels n s)
  no_level_gives levels n s e = rw (refused levels n s e) (tested (is_at T (opens n) s.0))
    where
      tested : (b : Bool) → Counts {Y = V n} (Err (stop_deep b)) s (if b then Err (TooDeep, s) else Err (Syntax, s))
      tested true = refl
      tested false = refl
