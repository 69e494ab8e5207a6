use Rattle.uc_step_cycles.proofs.WritingStatementsAdding.{NextsUpTo}
use Rattle.uc_step_cycles.proofs.walk.add_declarations.Given as goal

abbrev pub invariant-loop-declaration : goal.invariant-loop-declaration
invariant-loop-declaration l = NextsUpTo l.procedures.named l.fn.acts l.declarations l.declaration-index l.acts
