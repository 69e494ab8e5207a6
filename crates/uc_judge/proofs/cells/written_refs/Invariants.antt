use Rattle.std.proofs.Common.{[]}
use Rattle.uc_syntax.proofs.Added.{AddedUpTo}
use Rattle.uc_judge.specs.Prints.{named_refs}
use Rattle.uc_judge.proofs.cells.written_refs.Given as goal

abbrev pub invariant-loop-path : goal.invariant-loop-path
invariant-loop-path l = AddedUpTo (named_refs l.decls) l.paths [] l.path-index l.refs
