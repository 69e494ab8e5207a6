use Rattle.uc_judge.proofs.Controls.{NoneBefore}
use Rattle.uc_judge.proofs.commands.commands_in.Given as goal

abbrev pub invariant-loop-decl : goal.invariant-loop-decl
invariant-loop-decl l = NoneBefore l.decls l.decl-index
