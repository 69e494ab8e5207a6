use Rattle.std.proofs.Common.{refl, arith}
use Rattle.uc_lookup.specs.Parts.{system_in}
use Rattle.uc_meaning.specs.Cells.{main_instance}
use Rattle.uc_sizes.proofs.Spending.{spends_none, spends_same}
use Rattle.uc_sizes.proofs.Expanding.{below_main, none_below}
use Rattle.uc_sizes.proofs.expansion.spend_all_instances.Goals as goal

pub returns-in-Some : goal.returns-in-Some
returns-in-Some c =
    spends_same _ _ _ _ _ (c.spend_instances.ensures (main_instance c.in-Some.code.now) (record { path = refl; code = refl })) (below_main (system_in c.args.system.now) _ c.in-Some.code.now c.in-Some.ensures (omega arith))

pub returns-in-None : goal.returns-in-None
returns-in-None c = spends_none _ _ (none_below (system_in c.args.system.now) c.in-None.ensures)
