-- Traces and runs on free values.
use Rattle.std.specs.Prelude.{◌≡◌, ℕ, ◌+◌, true, List, length, slice_get, Some}
use Rattle.uc_ops.specs.declared.model.Model.{Model}
use Rattle.uc_flat.specs.declared.flat.Flat.{Flat}
use Rattle.uc_flat.specs.declared.flat.Formula.{Formula}
use Rattle.uc_flat.specs.Drawn.{Drawn}
use Rattle.uc_flat.specs.Flats.{IsSound, IsFormula}
use Rattle.uc_flat.specs.Unrolled.{reached, is_refuted}
use Rattle.uc_flat.specs.declared.trace.FlatPosition.{FlatPosition}
use Rattle.uc_flat.specs.declared.trace.FlatTrace.{FlatTrace}
use Rattle.uc_flat.specs.Traces.{HasConstants, RefutesFlat}

-- the place after so many steps, where the free values are the symbols behind the constants
abbrev pub after : Flat → Model → ℕ → Drawn
after f m n = reached f (length f.constants) m n

-- the position is this place
pub record IsPositionOf (r : Drawn) (p : FlatPosition) : Type 0 where
  pub cells : r.cells ≡ p.cells
  pub choices : r.chosen ≡ p.choices
  pub sites : r.sites ≡ p.sites

-- the positions are the places after 0, 1 and so on up to n steps
pub record ArePositions (f : Flat) (m : Model) (n : ℕ) (positions : List FlatPosition) : Type 0 where
  pub count : length positions ≡ n + 1
  pub each : (k : ℕ) (p : FlatPosition) → slice_get positions k ≡ Some p → IsPositionOf (after f m k) p

-- For each trace that refutes a formula there is a model whose run refutes it.
abbrev pub FoundLaw : Type 0
FoundLaw =
    (f : Flat) (x : Formula) (n : ℕ) (t : FlatTrace) → IsSound f → IsFormula f x → RefutesFlat f x n t
    → (m : Model) × (is_refuted f x m (after f m n) ≡ true)

-- Where the run of a model that has the constants refutes a formula, the trace of its places does.
abbrev pub RefutesLaw : Type 0
RefutesLaw =
    (f : Flat) (x : Formula) (n : ℕ) (m : Model) (t : FlatTrace) → IsSound f → HasConstants f t.constants m → ArePositions f m n t.positions
    → is_refuted f x m (after f m n) ≡ true → RefutesFlat f x n t
