use Rattle.std.proofs.Common.{refl}
use Rattle.uc_lookup.specs.Parts.{system_in}
use Rattle.uc_meaning.specs.Cells.{main_instance}
use Rattle.uc_uses.proofs.Counting.{counts_same, passed}
use Rattle.uc_uses.proofs.InstanceCountsWalks.{main_is, place_of_main}
use Rattle.uc_uses.proofs.limits.passes.Goals as goal

pub returns-in-Some : goal.returns-in-Some
returns-in-Some c =
    passed _ _ _ _
    (counts_same _ _ _ _ _ _ (c.count_instances.ensures (main_instance c.in-Some.code.now) (place_of_main _ c.in-Some.code.now refl refl refl)) (main_is c.args.counted c.args.depth (system_in c.args.system.now) c.in-Some.code.now c.in-Some.ensures))
