use Rattle.std.proofs.Common.{◌≡◌, drop}
use Rattle.uc_meaning.specs.Lookup.{first_some}
use Rattle.uc_runnable.specs.Unfit.{unfit_statement}
use Rattle.uc_runnable.proofs.statements.unfit_block.Given as goal

abbrev pub invariant-loop-k : goal.invariant-loop-k
invariant-loop-k l = first_some (unfit_statement l.names l.writing) (drop l.k l.block) ≡ first_some (unfit_statement l.names l.writing) l.block
