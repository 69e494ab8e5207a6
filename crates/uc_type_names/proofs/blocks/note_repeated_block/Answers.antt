use Rattle.std.proofs.Common.{ap, ◌∙◌}
use Rattle.std.specs.Option.{is_some}
use Rattle.std.specs.Prelude.{◌||◌}
use Rattle.uc_rules.specs.Faults.{first_of}
use Rattle.uc_type_names.specs.Blocks.{block_place, again_at}
use Rattle.uc_type_names.proofs.BlockTurns.{blocks_more}
use Rattle.uc_type_names.proofs.blocks.note_repeated_block.Goals as goal

pub loop-declaration-preserved : goal.loop-declaration-preserved
loop-declaration-preserved c =
    blocks_more (block_place c.args.block) c.as_slice-declarations.result.now c.args.first.now c.loop-declaration.declaration-index c.loop-declaration.is_there c.loop-declaration.first c.declaration-item.result _ c.enter-is_there.result c.enter-is_there.new.first
    c.loop-declaration.invariant c.loop-declaration-test.true c.declaration-item.is
    (c.enter-is_there.ensures.there ∙ ap (λ o. c.loop-declaration.is_there || is_some o) c.block_place.ensures)
    (c.enter-is_there.ensures.faults ∙ ap (λ o. first_of c.loop-declaration.first (again_at c.loop-declaration.is_there o)) c.block_place.ensures)
