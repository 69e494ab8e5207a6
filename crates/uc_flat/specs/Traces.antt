-- Traces of a design, and when a trace refutes a formula.
use Rattle.std.specs.Prelude.{◌≡◌, ℕ, ◌+◌, true, false, List, ◌++◌, map, length, slice_get, Some}
use Rattle.uc_values.specs.declared.ty.Ty.{Ty}
use Rattle.uc_values.specs.declared.value.Value.{Value}
use Rattle.uc_ops.specs.declared.model.Model.{Model}
use Rattle.uc_flat.specs.declared.flat.Flat.{Flat}
use Rattle.uc_flat.specs.declared.flat.Formula.{Formula}
use Rattle.uc_flat.specs.Unrolled.{holds_in, axioms_hold}
use Rattle.uc_flat.specs.Executions.{FitAll, IsInitial, IsStep}
use Rattle.uc_flat.specs.declared.trace.FlatPosition.{FlatPosition}
use Rattle.uc_flat.specs.declared.trace.FlatTrace.{FlatTrace}

abbrev pub constant_types : Flat → List Ty
constant_types f = map (λ c. c.ty) f.constants

-- The constants have these values, which fit their types: they are the first symbols of the model.
pub record HasConstants (f : Flat) (values : List Value) (m : Model) : Type 0 where
  pub fit : FitAll (constant_types f) values
  pub others : List Value
  pub symbols : m.symbols ≡ values ++ others

-- The first position is an initial state, and each next one is a step from the one before, with its choices and sites.
pub record IsRun (f : Flat) (m : Model) (positions : List FlatPosition) : Type 0 where
  pub begins : (p : FlatPosition) → slice_get positions 0 ≡ Some p → IsInitial f m p.cells p.choices p.sites
  pub goes_on : (k : ℕ) (p q : FlatPosition) → slice_get positions k ≡ Some p → slice_get positions (k + 1) ≡ Some q → IsStep f m p.cells q.cells q.choices q.sites

-- A trace of n steps refutes a formula of one copy: under a model that has its constants all axioms hold and its positions are a run, and the formula is false in the last cells.
pub record RefutesFlat (f : Flat) (x : Formula) (n : ℕ) (t : FlatTrace) : Type 0 where
  pub model : Model
  pub constants : HasConstants f t.constants model
  pub axioms : axioms_hold f model ≡ true
  pub run : IsRun f model t.positions
  pub steps : length t.positions ≡ n + 1
  pub fails : (p : FlatPosition) → slice_get t.positions n ≡ Some p → holds_in f x model p.cells ≡ false
