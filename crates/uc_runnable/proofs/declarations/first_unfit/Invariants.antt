use Rattle.std.proofs.Common.{◌≡◌, drop}
use Rattle.uc_meaning.specs.Lookup.{first_some}
use Rattle.uc_runnable.specs.Unfit.{unfit}
use Rattle.uc_runnable.proofs.declarations.first_unfit.Given as goal

abbrev pub invariant-loop-decl : goal.invariant-loop-decl
invariant-loop-decl l = first_some (unfit l.tables l.code l.names l.count) (drop l.decl-index l.decls) ≡ first_some (unfit l.tables l.code l.names l.count) l.decls
