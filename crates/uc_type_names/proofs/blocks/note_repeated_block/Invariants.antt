use Rattle.uc_type_names.specs.Blocks.{block_place}
use Rattle.uc_type_names.proofs.BlockTurns.{BlocksFrom}
use Rattle.uc_type_names.proofs.blocks.note_repeated_block.Given as goal

abbrev pub invariant-loop-declaration : goal.invariant-loop-declaration
invariant-loop-declaration l = BlocksFrom (block_place l.block) l.declarations l.fn.first l.declaration-index l.is_there l.first
