-- What the analysis of a conflict keeps, from step to step.
use Rattle.std.specs.Prelude.{◌≡◌, ◌≢◌, ℕ, Bool, true, false, List, Option, None, Some, length, All, slice_index_or}
use Rattle.uc_circuit.specs.declared.literal.Lit.{Lit}
use Rattle.uc_circuit.specs.Values.{IsFalse}
use Rattle.uc_log.specs.Refutes.{Refutes}

-- values that have what is marked of the trail's values, make the kept literals false, and leave the rest open
pub record Between (trail : List (Option Bool)) (marks : List Bool) (kept : List Lit) (v : List (Option Bool)) : Type 0 where
  pub same_length : length v ≡ length trail
  pub marked : (x : ℕ) (b : Bool) → slice_index_or marks x false ≡ true → slice_index_or trail x None ≡ Some b → slice_index_or v x None ≡ Some b
  pub kept_false : All (IsFalse v) kept
  pub unset : (x : ℕ) → slice_index_or trail x None ≡ None → All (λ l. l.var ≢ x) kept → slice_index_or v x None ≡ None

-- the hints lead to a false clause from all such values
pub record Explains (clauses : List (List Lit)) (trail : List (Option Bool)) (marks : List Bool) (kept : List Lit) (hints : List ℕ) : Type 0 where
  pub from : (v : List (Option Bool)) → Between trail marks kept v → Refutes clauses v hints
