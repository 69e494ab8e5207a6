use Rattle.uc_written_once.proofs.SteppedOnceTurns.{DeclsFrom}
use Rattle.uc_written_once.proofs.stepping.note_in_declarations.Given as goal

abbrev pub invariant-loop-declaration : goal.invariant-loop-declaration
invariant-loop-declaration l = DeclsFrom l.declarations l.fn.seen l.fn.first l.declaration-index l.seen l.first
