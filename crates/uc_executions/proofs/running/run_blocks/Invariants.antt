use Rattle.std.proofs.Common.{◌≡◌, drop}
use Rattle.uc_operators.specs.Overflows.{first_wide}
use Rattle.uc_runs.specs.Runs.{running}
use Rattle.uc_executions.proofs.Inits.{blocks_of, blocks_met}
use Rattle.uc_executions.proofs.running.run_blocks.Given as goal

abbrev pub invariant-loop-decl : goal.invariant-loop-decl
invariant-loop-decl l = record {
  value : blocks_of l.layout (drop l.decl-index l.decl-items) (running l.choices l.here) ≡ blocks_of l.layout l.decl-items (running l.choices l.fn.run);
  wide : first_wide (blocks_met l.layout (drop l.decl-index l.decl-items) (running l.choices l.here)) ≡ first_wide (blocks_met l.layout l.decl-items (running l.choices l.fn.run));
}
