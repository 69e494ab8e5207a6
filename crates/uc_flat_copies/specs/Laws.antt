-- Traces of copies, and copies that run on free values.
use Rattle.std.specs.Prelude.{◌≡◌, ℕ, ◌+◌, ◌≤◌, true, List, [], ◌∷◌, length, slice_get, Some, All}
use Rattle.uc_ops.specs.declared.model.Model.{Model}
use Rattle.uc_flat.specs.declared.flat.Flat.{Flat}
use Rattle.uc_flat.specs.declared.flat.Formula.{Formula}
use Rattle.uc_flat.specs.Flats.{IsSound, IsFormula}
use Rattle.uc_flat.specs.declared.trace.FlatPosition.{FlatPosition}
use Rattle.uc_flat.specs.Traces.{HasConstants}
use Rattle.uc_flat.specs.FlatTracesLaws.{IsPositionOf}
use Rattle.uc_flat_copies.specs.declared.trace.FlatCopies.{FlatCopies}
use Rattle.uc_flat_copies.specs.declared.trace.Start.{Start}
use Rattle.uc_flat_copies.specs.Traces.{Subject, formula, site, CopyLine, RefutesCopies}
use Rattle.uc_flat_copies.specs.Places.{place, reads_up_to, copies_of, is_refuted_by}

-- what a line judges is a formula of the design
abbrev pub IsSubject : Flat → Subject → Type 0
IsSubject f (formula x) = IsFormula f x
IsSubject f (site s) = Unit {0}

-- the formulas of a line are formulas of the design
pub record IsLineOf (f : Flat) (l : CopyLine) : Type 0 where
  pub before : All (IsFormula f) l.before
  pub throughout : All (IsFormula f) l.throughout
  pub subject : IsSubject f l.subject

-- the positions are the places of the copy that reads the model, after 0, 1 and so on up to so many steps
pub record ArePlaces (f : Flat) (start : Start) (steps : ℕ) (m : Model) (positions : List FlatPosition) : Type 0 where
  pub count : length positions ≡ steps + 1
  pub each : (k : ℕ) (p : FlatPosition) → slice_get positions k ≡ Some p → IsPositionOf (place f start m k) p

-- one list of positions for each model
pub data AllPlaces (f : Flat) (start : Start) (steps : ℕ) : List Model → List (List FlatPosition) → Type 0 where
  none : AllPlaces f start steps [] []
  one : (m : Model) (ps : List FlatPosition) (ms : List Model) (rest : List (List FlatPosition)) → ArePlaces f start steps m ps → AllPlaces f start steps ms rest → AllPlaces f start steps (m ∷ ms) (ps ∷ rest)

-- For each trace that refutes a line there is a model whose copies refute it, where each copy has as many symbols of its own as it reads besides the constants.
abbrev pub FoundLaw : Type 0
FoundLaw =
    (f : Flat) (l : CopyLine) (width : ℕ) (t : FlatCopies) → IsSound f → IsLineOf f l → reads_up_to f l.start l.steps ≤ length f.constants + width → RefutesCopies f l t
    → (m : Model) × (is_refuted_by f l width m ≡ true)

-- Where the copies of a model that has the constants refute a line, the trace of their places does.
abbrev pub RefutesLaw : Type 0
RefutesLaw =
    (f : Flat) (l : CopyLine) (width : ℕ) (m : Model) (t : FlatCopies) → IsSound f → HasConstants f t.constants m → AllPlaces f l.start l.steps (copies_of f width l.copies m) t.copies
    → is_refuted_by f l width m ≡ true → RefutesCopies f l t
