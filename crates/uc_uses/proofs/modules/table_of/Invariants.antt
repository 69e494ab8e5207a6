use Rattle.uc_uses.proofs.Named.{NamedTo}
use Rattle.uc_uses.proofs.modules.table_of.Given as goal

abbrev pub invariant-loop-whole : goal.invariant-loop-whole
invariant-loop-whole l = NamedTo l.modules l.whole-index l.table
