use Rattle.std.proofs.Common.{◌≡◌, drop}
use Rattle.uc_meaning.specs.Lookup.{first_some, define_in}
use Rattle.uc_lookup.proofs.declarations.define_of.Given as goal

abbrev pub invariant-loop-decl : goal.invariant-loop-decl
invariant-loop-decl l = first_some (define_in l.name) (drop l.decl-index l.decls) ≡ first_some (define_in l.name) l.decls
