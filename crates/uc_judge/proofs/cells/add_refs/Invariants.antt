use Rattle.uc_syntax.proofs.Added.{AddedUpTo}
use Rattle.uc_judge.specs.Prints.{own_ref}
use Rattle.uc_judge.proofs.cells.add_refs.Given as goal

abbrev pub invariant-loop-name : goal.invariant-loop-name
invariant-loop-name l = AddedUpTo (own_ref l.decl) l.names l.initial.refs l.name-index l.refs
