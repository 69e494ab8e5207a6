use Rattle.uc_syntax.proofs.Added.{AddedUpTo}
use Rattle.uc_names.specs.Opaques.{opaque_at}
use Rattle.uc_names.proofs.listed.add_opaques.Given as goal

abbrev pub invariant-loop-decl : goal.invariant-loop-decl
invariant-loop-decl l = AddedUpTo (opaque_at l.code.name) l.decl-items l.initial.types l.decl-index l.types
