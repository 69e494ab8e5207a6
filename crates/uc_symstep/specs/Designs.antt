-- Initial states, steps and runs of a design on terms.
use Rattle.std.specs.Prelude.{◌≡◌, ℕ, ◌+◌, ◌≤◌, true, List, length, slice_get, Some}
use Rattle.uc_values.specs.declared.ty.Ty.{Ty}
use Rattle.uc_values.specs.declared.value.Value.{Value}
use Rattle.uc_ops.specs.declared.model.Model.{Model}
use Rattle.uc_ops.specs.declared.node.Node.{Node}
use Rattle.uc_flat.specs.declared.flat.Flat.{Flat}
use Rattle.uc_flat.specs.Flats.{cell_types}
use Rattle.uc_flat.specs.Drawn.{Drawn}
use Rattle.uc_flat.specs.Laws.{SamePlace}
use Rattle.uc_flat.specs.Executions.{IsInitial, IsStep, IsFound}
use Rattle.uc_flat_copies.specs.declared.trace.Start.{Start}
use Rattle.uc_flat_copies.specs.Places.{reached_from}
use Rattle.uc_symstep.specs.declared.state.SymState.{SymState}
use Rattle.uc_symstep.specs.Growing.{Grows}
use Rattle.uc_symstep.specs.Stands.{holds}
use Rattle.uc_symstep.specs.Unrolled.{shows, IsSeen}
use Rattle.uc_symstep.specs.Known.{KnowsState}

-- the state is this place under every model, but for the number of the next free value
pub record ShowsAt (f : Flat) (nodes : List Node) (place : Model → Drawn) (s : SymState) : Type 0 where
  pub state : IsSeen nodes (cell_types f) s
  pub same : (m : Model) → SamePlace (shows m nodes s 0) (place m)

-- the states after 0, 1 and so on up to n steps, where the number of the first free value is given
pub record AreStates (f : Flat) (start : Start) (first : ℕ) (nodes : List Node) (n : ℕ) (states : List SymState) : Type 0 where
  pub count : length states ≡ n + 1
  pub each : (k : ℕ) (s : SymState) → slice_get states k ≡ Some s → ShowsAt f nodes (λ m. reached_from f start first m k) s

-- the same, with the number of the next symbol after them
pub record Unrolls (f : Flat) (start : Start) (first : ℕ) (old now : List Node) (n : ℕ) (run : List SymState) (next : ℕ) : Type 0 where
  pub grown : Grows old now
  pub states : AreStates f start first now n run
  pub last : (s : SymState) → slice_get run n ≡ Some s → (m : Model) → shows m now s next ≡ reached_from f start first m n

-- under every model in which its path condition is true the state is an initial state, with its choices and its sites
abbrev pub IsInitialWhereTaken : Flat → List Node → SymState → Type 0
IsInitialWhereTaken f nodes s = (m : Model) → holds m nodes s.path ≡ true → IsInitial f m (shows m nodes s 0).cells (shows m nodes s 0).chosen (shows m nodes s 0).sites

-- Each initial state under the constants and functions of a model is this state under a model that has the same functions and the same symbols below k.
abbrev pub HasEachInitial : Flat → ℕ → List Node → SymState → Type 0
HasEachInitial f k nodes s =
    (m : Model) (cells choices : List Value) (sites : List ℕ) → length f.constants ≤ k → k ≤ length m.symbols → IsInitial f m cells choices sites
    → IsFound k m (λ n. shows n nodes s 0) cells choices sites

-- under every model in which its path condition is true the state is one step after the old state, with its choices and its sites
abbrev pub IsStepWhereTaken : Flat → List Node → SymState → List Node → SymState → Type 0
IsStepWhereTaken f old pre new s =
    (m : Model) → holds m new s.path ≡ true → IsStep f m (shows m old pre 0).cells (shows m new s 0).cells (shows m new s 0).chosen (shows m new s 0).sites

-- Each step from what the old state stands for, under a model in which its path condition is true and which has the symbols below k, is the new state under a model that has the same functions and the same symbols below k. The constants are among these, and the old state reads no others.
abbrev pub HasEachStep : Flat → ℕ → List Node → SymState → List Node → SymState → Type 0
HasEachStep f k old pre new s =
    (supply : List Ty) (m : Model) (cells choices : List Value) (sites : List ℕ) → KnowsState supply old pre k → length f.constants ≤ k → k ≤ length m.symbols
    → holds m old pre.path ≡ true → IsStep f m (shows m old pre 0).cells cells choices sites → IsFound k m (λ n. shows n new s 0) cells choices sites
