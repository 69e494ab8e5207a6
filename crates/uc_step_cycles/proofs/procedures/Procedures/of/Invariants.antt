use Rattle.std.proofs.Common.{take}
use Rattle.uc_step_cycles.specs.Procedures.{KnowsProcedures}
use Rattle.uc_step_cycles.proofs.procedures.Procedures.of.Given as goal

abbrev pub invariant-loop-declaration : goal.invariant-loop-declaration
invariant-loop-declaration l = KnowsProcedures (take l.declaration-index l.declarations) l.named
