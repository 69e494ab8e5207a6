use Rattle.uc_step_cycles.specs.Noted.{noted_block}
use Rattle.uc_step_cycles.proofs.Told.{NotedTo}
use Rattle.uc_step_cycles.proofs.noting.note_blocks.Given as goal

abbrev pub invariant-loop-node : goal.invariant-loop-node
invariant-loop-node l = NotedTo (noted_block l.names l.flags) l.blocks l.fn.first l.node l.first
