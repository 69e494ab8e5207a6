use Rattle.std.proofs.Common.{take}
use Rattle.uc_step_cycles.specs.Bound.{KnowsBound}
use Rattle.uc_step_cycles.proofs.bound.bound_of.Given as goal

abbrev pub invariant-loop-binding : goal.invariant-loop-binding
invariant-loop-binding l = KnowsBound (take l.binding-index l.bindings) l.bound
