use Rattle.std.proofs.Common.{◌≡◌}
use Rattle.uc_flat_copies.specs.declared.trace.Start.TheVariants.{Anywhere}
use Rattle.uc_obligations.specs.Unrolling.{IsUnrolled}
use Rattle.uc_flat_lines.proofs.judging.linked.Given as goal

abbrev pub invariant-loop-steps : goal.invariant-loop-steps
invariant-loop-steps l = IsUnrolled l.f l.terms l.steps l.run × (l.run.start ≡ Anywhere)
