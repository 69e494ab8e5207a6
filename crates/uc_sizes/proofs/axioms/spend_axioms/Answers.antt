use Rattle.std.proofs.Common.{◌≡◌, [], refl, ap, ◌∙◌, sym}
use Rattle.uc_lookup.specs.Parts.{system_in}
use Rattle.uc_sizes.specs.Expanding.{used_axioms}
use Rattle.uc_sizes.proofs.Expanding.{used_are}
use Rattle.uc_sizes.proofs.Spending.{memory_out, sizes_of, spends_none, spends_same, spends_stop, spends_two, spent_begin, spent_end, spent_more, spent_stop, stop_out}
use Rattle.uc_sizes.proofs.axioms.spend_axioms.Goals as goal

pub loop-module-init : goal.loop-module-init
loop-module-init c = spent_begin _ _ _

pub loop-module-preserved : goal.loop-module-preserved
loop-module-preserved c =
    spent_more (used_axioms (system_in c.args.system.now)) c.args.system.now.modules.now _ _ _ _ c.module-item.result _ _ c.loop-module.invariant c.loop-module-test.true c.module-item.is
    c.in_ok-spend_axioms_of.ensures

pub returns-in_err-spend_axioms_of : goal.returns-in_err-spend_axioms_of
returns-in_err-spend_axioms_of c =
    stop_out _ _ _ _ _ c.from_residual.ensures.1
    (spends_same _ _ _ (sizes_of (used_axioms (system_in c.args.system.now)) c.args.system.now.modules.now) _
    (spent_stop (used_axioms (system_in c.args.system.now)) c.args.system.now.modules.now _ _ _ _ _ c.module-item.result _ _ c.loop-module.invariant c.loop-module-test.true c.module-item.is
    c.in_err-spend_axioms_of.ensures)
    (sym (used_are (system_in c.args.system.now) c.args.system.now.modules.now refl)))

pub returns : goal.returns
returns c =
    spends_same _ _ _ (sizes_of (used_axioms (system_in c.args.system.now)) c.args.system.now.modules.now) _ (spent_end (used_axioms (system_in c.args.system.now)) c.args.system.now.modules.now _ _ _ c.loop-module.invariant c.loop-module-test.false) (sym (used_are (system_in c.args.system.now) c.args.system.now.modules.now refl))
