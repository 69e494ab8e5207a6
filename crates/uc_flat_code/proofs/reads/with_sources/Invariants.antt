use Rattle.uc_syntax.proofs.Added.{AddedUpTo}
use Rattle.uc_flat_code.specs.Once.{read_by}
use Rattle.uc_flat_code.proofs.reads.with_sources.Given as goal

abbrev pub invariant-loop-source : goal.invariant-loop-source
invariant-loop-source l = AddedUpTo (read_by l.names l.first) l.sources l.fn.before l.source-index l.all
