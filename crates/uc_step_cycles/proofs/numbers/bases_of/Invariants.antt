use Rattle.uc_step_cycles.proofs.Growing.{BasesTo}
use Rattle.uc_step_cycles.proofs.numbers.bases_of.Given as goal

abbrev pub invariant-loop-block : goal.invariant-loop-block
invariant-loop-block l = BasesTo l.start l.blocks l.block-index l.bases l.next
