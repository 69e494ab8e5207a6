use Rattle.std.proofs.Common.{◌≡◌, ◌+◌, ◌*◌, drop}
use Rattle.uc_operators.specs.Overflows.{first_wide}
use Rattle.uc_runs.specs.Levels.{run_at, run_met_at, turns_at, turns_met_at}
use Rattle.uc_runs.specs.Runs.{running}
use Rattle.uc_runs.proofs.Sizes.{size, sizes, arms_size}
use Rattle.uc_runs.proofs.Bodies.{bodies}
use Rattle.uc_runs.proofs.Levels.{levels, left_below}
use Rattle.uc_runs.proofs.running.+run.Given as goal

abbrev pub decreases-run_each : goal.decreases-run_each
decreases-run_each l = levels l.below (bodies l.layout.now) + (4 * sizes l.code.now + 1)

abbrev pub decreases-run_one : goal.decreases-run_one
decreases-run_one l = levels l.below (bodies l.layout.now) + 4 * size l.statement.now

abbrev pub decreases-run_block : goal.decreases-run_block
decreases-run_block l = levels l.below (bodies l.layout.now) + (4 * sizes l.block.now + 2)

abbrev pub decreases-run_taken : goal.decreases-run_taken
decreases-run_taken l = levels l.below (bodies l.layout.now) + (4 * arms_size l.arms.now l.otherwise.now + 3)

abbrev pub decreases-run_turns : goal.decreases-run_turns
decreases-run_turns l = levels l.below (bodies l.layout.now) + (4 * sizes l.block.now + 3)

abbrev pub decreases-run_turn : goal.decreases-run_turn
decreases-run_turn l = levels l.below (bodies l.layout.now) + (4 * sizes l.block.now + 2)

abbrev pub decreases-run_call : goal.decreases-run_call
decreases-run_call l = levels l.below (bodies l.layout.now) + 2

abbrev pub decreases-run_procedure : goal.decreases-run_procedure
decreases-run_procedure l = left_below l.below (bodies l.layout.now) (sizes l.procedure.now.body) + 1

abbrev pub decreases-run_body : goal.decreases-run_body
decreases-run_body l = left_below l.below (bodies l.layout.now) (sizes l.body.now)

abbrev pub invariant-run_each-loop-statement : goal.invariant-run_each-loop-statement
invariant-run_each-loop-statement l = record {
  value : run_at l.below l.layout (drop l.statement-index l.code) (running l.choices l.here) ≡ run_at l.below l.layout l.code (running l.choices l.fn.run);
  wide : first_wide (run_met_at l.below l.layout (drop l.statement-index l.code) (running l.choices l.here)) ≡ first_wide (run_met_at l.below l.layout l.code (running l.choices l.fn.run));
}

abbrev pub invariant-run_turns-loop-value : goal.invariant-run_turns-loop-value
invariant-run_turns-loop-value l = record {
  value : turns_at l.below l.layout l.variable l.ty l.block (drop l.value-index l.values) (running l.choices l.here) ≡ turns_at l.below l.layout l.variable l.ty l.block l.values (running l.choices l.fn.run);
  wide : first_wide (turns_met_at l.below l.layout l.variable l.ty l.block (drop l.value-index l.values) (running l.choices l.here)) ≡ first_wide (turns_met_at l.below l.layout l.variable l.ty l.block l.values (running l.choices l.fn.run));
}
