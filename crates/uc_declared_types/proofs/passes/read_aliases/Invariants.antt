use Rattle.uc_declared_types.proofs.Turns.{PassedUpTo}
use Rattle.uc_declared_types.proofs.passes.read_aliases.Given as goal

abbrev pub invariant-loop-declared : goal.invariant-loop-declared
invariant-loop-declared l = PassedUpTo l.homes l.pending l.fn.aliases l.declared-index l.aliases l.rest
