use Rattle.std.proofs.Common.{◌≡◌, ◌+◌, ◌*◌, drop}
use Rattle.uc_operators.specs.Overflows.{first_wide}
use Rattle.uc_runs.specs.Runs.{running}
use Rattle.uc_layout.specs.Instances.{instance_meant}
use Rattle.uc_executions.proofs.Inits.{init_all, init_all_met}
use Rattle.uc_executions.proofs.running.+init.Given as goal

abbrev pub decreases-init_from : goal.decreases-init_from
decreases-init_from l = 2 * l.below

abbrev pub decreases-init_each : goal.decreases-init_each
decreases-init_each l = 2 * l.below + 1

abbrev pub invariant-init_each-loop-instance : goal.invariant-init_each-loop-instance
invariant-init_each-loop-instance l = record {
  value : init_all instance_meant l.below l.layout (drop l.instance-index l.instances) (running l.choices l.here) ≡ init_all instance_meant l.below l.layout l.instances (running l.choices l.fn.run);
  wide : first_wide (init_all_met instance_meant l.below l.layout (drop l.instance-index l.instances) (running l.choices l.here)) ≡ first_wide (init_all_met instance_meant l.below l.layout l.instances (running l.choices l.fn.run));
}
