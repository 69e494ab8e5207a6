use Rattle.std.proofs.Common.{refl, ap, ◌∙◌}
use Rattle.uc_type_names.specs.Lent.{meant}
use Rattle.uc_written_once.proofs.Noted.{noted_begin, noted_more}
use Rattle.uc_written_once.proofs.LoopForms.{enums_noted}
use Rattle.uc_written_once.specs.LoneFaultsWalks.{too_many_labels}
use Rattle.uc_written_once.proofs.loops.note_large_enums.Goals as goal

pub loop-written-init : goal.loop-written-init
loop-written-init c = noted_begin _ _ _

pub loop-written-preserved : goal.loop-written-preserved
loop-written-preserved c =
    noted_more too_many_labels _ _ _ _ _ _ _ c.loop-written.invariant c.loop-written-test.true refl c.note_enum.ensures

pub returns : goal.returns
returns c = enums_noted c.args.whole.now _ _ _ _ (ap meant c.as_slice-written-items.ensures ∙ c.in_ok-enums.ensures) c.loop-written.invariant c.loop-written-test.false
