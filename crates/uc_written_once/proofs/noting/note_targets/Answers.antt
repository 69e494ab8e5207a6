use Rattle.uc_written_once.specs.Walks.{one_target}
use Rattle.uc_written_once.proofs.WrittenOnceTurns.{each_begin, each_end, each_more}
use Rattle.uc_written_once.proofs.noting.note_targets.Goals as goal

pub loop-target-init : goal.loop-target-init
loop-target-init c = each_begin (one_target c.args.place) _ _ _ _

pub loop-target-preserved : goal.loop-target-preserved
loop-target-preserved c =
    each_more (one_target c.args.place) _ _ _ _ _ _ _ _ _ c.target-item.result _ c.loop-target.invariant c.loop-target-test.true c.target-item.is c.in_ok-note_target.ensures

pub returns : goal.returns
returns c = each_end (one_target c.args.place) _ _ _ _ _ _ _ c.loop-target.invariant c.loop-target-test.false
