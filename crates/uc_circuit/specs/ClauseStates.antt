-- What the state of a clause says.
use Rattle.std.specs.Prelude.{Bool, List, Option}
use Rattle.uc_circuit.specs.declared.literal.Lit.{Lit}
use Rattle.uc_circuit.specs.Values.{IsFalsified, Forces, IsSettled}
use Rattle.uc_circuit.specs.declared.clause_state.ClauseState.{ClauseState}
use Rattle.uc_circuit.specs.declared.clause_state.ClauseState.TheVariants.{Falsified, Unit as IsUnit, Settled}

abbrev pub ClauseIs : List (Option Bool) → List Lit → ClauseState → Type 0
ClauseIs values clause Falsified = IsFalsified values clause
ClauseIs values clause (IsUnit l) = Forces values clause l
ClauseIs values clause Settled = IsSettled values clause
