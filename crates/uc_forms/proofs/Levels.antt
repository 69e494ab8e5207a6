-- A nested form is read by its rule, where a level is left.
use Rattle.std.proofs.Common.{◌≡◌, ℕ, zero, suc, ◌-◌, ◌<◌, List, [], refl, arith, Err, Bool, true, false}
use Rattle.std.specs.Prelude.{if◌then◌else◌}
use Rattle.uc_forms.specs.declared.fault.Fault.TheVariants.{Syntax, TooDeep}
use Rattle.uc_forms.specs.Alphabet.{Alphabet}
use Rattle.uc_forms.specs.Form.{Rules}
use Rattle.uc_forms.specs.Reading.{is_at, read_at, read, note_at, noted}
use Rattle.uc_forms.specs.Gives.{Gives, stop_deep}

module _ {T : Alphabet} {N : Type 0} {V : N → Type 0} (rule : Rules T N V) (opens : N → List ℕ) where
  pub deeper : (levels : ℕ) (n : N) (ws : List T.Word) → 0 < levels → read_at rule opens levels n ws ≡ read rule opens (levels - 1) (rule n) ws
  unfolding read_at
  deeper zero n ws h = absurd (omega arith)
  deeper (suc m) n ws h = let e : suc m - 1 ≡ m = omega arith in rw e refl

  -- how the words stand in it
  pub deeper_noted : (levels : ℕ) (n : N) (ws : List T.Word) → 0 < levels → note_at rule opens levels n ws ≡ noted rule opens (levels - 1) (rule n) ws
  unfolding note_at
  deeper_noted zero n ws h = absurd (omega arith)
  deeper_noted (suc m) n ws h = let e : suc m - 1 ≡ m = omega arith in rw e refl

  refused : (levels : ℕ) (n : N) (ws : List T.Word) → levels ≡ 0 → read_at rule opens levels n ws ≡ (if is_at T (opens n) ws then Err (TooDeep, ws) else Err (Syntax, ws))
  unfolding read_at
  refused levels n ws e = rw e refl

  -- what it gives where no level is left
  pub no_level_gives : (levels : ℕ) (n : N) (ws : List T.Word) → levels ≡ 0 → Gives (Err (stop_deep (is_at T (opens n) ws))) ws (read_at rule opens levels n ws)
  no_level_gives levels n ws e = rw (refused levels n ws e) (tested (is_at T (opens n) ws))
    where
      tested : (b : Bool) → Gives {Y = V n} (Err (stop_deep b)) ws (if b then Err (TooDeep, ws) else Err (Syntax, ws))
      tested true = refl
      tested false = refl

  -- and no word is taken there
  pub no_level_noted : (levels : ℕ) (n : N) (ws : List T.Word) → levels ≡ 0 → note_at rule opens levels n ws ≡ []
  unfolding note_at
  no_level_noted levels n ws e = rw e refl
