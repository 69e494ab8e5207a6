use Rattle.std.proofs.Common.{ap, false}
use Rattle.uc_meaning.specs.Lookup.{next_in}
use Rattle.uc_written_once.specs.Effects.{modified_by, step_by}
use Rattle.uc_written_once.specs.Walks.{walk_block, walk_of}
use Rattle.uc_written_once.proofs.Single.{flat_went}
use Rattle.uc_written_once.proofs.WrittenOnceTurns.{each_begin, each_end, each_more, went_as}
use Rattle.uc_written_once.proofs.walk.note_in_declarations.Goals as goal

pub loop-declaration-init : goal.loop-declaration-init
loop-declaration-init c = each_begin (λ d. walk_block (modified_by c.args.effects.now) (step_by c.args.effects.now) (next_in d)) _ _ _ _

pub loop-declaration-preserved : goal.loop-declaration-preserved
loop-declaration-preserved c =
    each_more (λ d. walk_block (modified_by c.args.effects.now) (step_by c.args.effects.now) (next_in d)) _ _ _ _ _ _ _ _ _ c.declaration-item.result _ c.loop-declaration.invariant c.loop-declaration-test.true c.declaration-item.is
    (went_as _ _ _ _ _ (ap (λ b. walk_block (modified_by c.args.effects.now) (step_by c.args.effects.now) b false c.loop-declaration.seen) c.next_block-block.ensures) c.in_ok-note_in_block.ensures)

pub returns : goal.returns
returns c =
    flat_went (walk_of (modified_by c.args.effects.now) (step_by c.args.effects.now)) next_in c.args.declarations.now false _ _ _ _
    (each_end (λ d. walk_block (modified_by c.args.effects.now) (step_by c.args.effects.now) (next_in d)) _ _ _ _ _ _ _ c.loop-declaration.invariant c.loop-declaration-test.false)
