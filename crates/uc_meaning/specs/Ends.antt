-- How what a program answers stands for an ending of code.
use Rattle.std.specs.Prelude.{◌≡◌, ◌≤◌, ◌+◌, ℕ, List, [], ◌∷◌, map, length, take, drop, Option, Some, None, if◌then◌else◌}
use Rattle.uc_values.specs.declared.value.Value.{Value}
use Rattle.uc_meaning.specs.declared.scope.Scope.{Scope}
use Rattle.uc_meaning.specs.declared.code.CodeEnd.{CodeEnd}
use Rattle.uc_meaning.specs.declared.code.CodeEnd.TheVariants.{Ended, Stopped as AnsweredStopped, BadChoice}
use Rattle.uc_meaning.specs.Lookup.{System}
use Rattle.uc_values.specs.declared.ty.Ty.{Ty}
use Rattle.uc_values.specs.Values.{fits}
use Rattle.uc_meaning.specs.declared.scope.Interp.{Interp}
use Rattle.uc_meaning.specs.Cells.{cells_of}
use Rattle.uc_meaning.specs.Steps.{init, scope_of, state_of}
use Rattle.uc_meaning.specs.Code.{Running, Ending, Goes, Stopped, Unfit}

-- the begin of an execution, with no site listed
abbrev pub begun : Scope → List Value → Running
begun s choices = record { scope = s; sites = []; left = choices }

-- an answer tells how code ended: with the scope, the listed sites and the number of choices taken, by a false `assume`, or at the choice that is missing or does not fit
abbrev pub IsEnd : List Value → CodeEnd → Ending → Type 0
IsEnd choices (Ended scope violated used) (Goes r) = (scope ≡ r.scope) × (violated ≡ r.sites) × (drop used choices ≡ r.left) × (used ≤ length choices)
IsEnd choices AnsweredStopped Stopped = Unit {0}
IsEnd choices (BadChoice n) (Unfit left) = (drop n choices ≡ left) × (n ≤ length choices)
IsEnd choices answer ending = ⊥

-- the number of the first value that is missing or does not fit its type, counted from n
abbrev pub first_unfit : ℕ → List Ty → List Value → Option ℕ
first_unfit n [] vs = None
first_unfit n (t ∷ ts) [] = Some n
first_unfit n (t ∷ ts) (v ∷ vs) = if fits t v then first_unfit (n + 1) ts vs else Some n

abbrev pub cell_types : System → List Ty
cell_types system = map (λ c. c.type) (cells_of system)

-- the first choices are the state before all init code
abbrev pub init_begun : System → Interp → List Value → Running
init_begun system i choices = record {
  scope = scope_of i [] (state_of (take (length (cells_of system)) choices));
  sites = [];
  left = drop (length (cells_of system)) choices;
}

abbrev pub IsInitEndAt : System → Interp → List Value → CodeEnd → Option ℕ → Type 0
IsInitEndAt system i choices end (Some n) = end ≡ BadChoice n
IsInitEndAt system i choices end None = IsEnd choices end (init system (init_begun system i choices))

-- how all init code ends from the state that the choices begin with
abbrev pub IsInitEnd : System → Interp → List Value → CodeEnd → Type 0
IsInitEnd system i choices end = IsInitEndAt system i choices end (first_unfit 0 (cell_types system) choices)
