-- What is asked of many goals at once.
use Rattle.std.specs.Prelude.{◌≡◌, ℕ, ◌<◌, true, false, List, length, slice_get, Some}
use Rattle.uc_ops.specs.declared.model.Model.{Model}
use Rattle.uc_ops.specs.declared.node.Node.{Node}
use Rattle.uc_flat.specs.declared.flat.Flat.{Flat}
use Rattle.uc_flat.specs.declared.flat.Formula.{Formula}
use Rattle.uc_symstep.specs.Stands.{holds}
use Rattle.uc_flat_copies.specs.declared.trace.FlatCopies.{FlatCopies}
use Rattle.uc_flat_copies.specs.declared.trace.Start.{Start}
use Rattle.uc_flat_copies.specs.Traces.{RefutesCopies}
use Rattle.uc_flat_copies.specs.Lines.{line_over}

-- no trace refutes formula k after n steps, where it speaks of one copy
abbrev pub IsUnrefuted : Flat → Start → ℕ → ℕ → Type 0
IsUnrefuted f start n k = (x : Formula) → slice_get f.formulas k ≡ Some x → x.copies ≡ 1 → (t : FlatCopies) → RefutesCopies f (line_over f start n x) t → ⊥

-- of each trace that refutes it there is a model under which the term is true
abbrev pub IsHit : Flat → Start → ℕ → List Node → ℕ → ℕ → Type 0
IsHit f start n nodes term k = (x : Formula) → slice_get f.formulas k ≡ Some x → x.copies ≡ 1 → (t : FlatCopies) → RefutesCopies f (line_over f start n x) t → (m : Model) × (holds m nodes term ≡ true)

-- of each trace that refutes it there is a model under which the term is false
abbrev pub IsMissed : Flat → Start → ℕ → List Node → ℕ → ℕ → Type 0
IsMissed f start n nodes term k = (x : Formula) → slice_get f.formulas k ≡ Some x → x.copies ≡ 1 → (t : FlatCopies) → RefutesCopies f (line_over f start n x) t → (m : Model) × (holds m nodes term ≡ false)

-- these are so of each formula
abbrev pub AreUnrefuted : Flat → Start → ℕ → Type 0
AreUnrefuted f start n = (k : ℕ) → k < length f.formulas → IsUnrefuted f start n k

abbrev pub AreHit : Flat → Start → ℕ → List Node → ℕ → Type 0
AreHit f start n nodes term = (k : ℕ) → k < length f.formulas → IsHit f start n nodes term k

abbrev pub AreMissed : Flat → Start → ℕ → List Node → ℕ → Type 0
AreMissed f start n nodes term = (k : ℕ) → k < length f.formulas → IsMissed f start n nodes term k

-- where one term is false, so is the other
abbrev pub FalseToo : List Node → ℕ → List Node → ℕ → Type 0
FalseToo old s new t = (m : Model) → holds m old s ≡ false → holds m new t ≡ false
