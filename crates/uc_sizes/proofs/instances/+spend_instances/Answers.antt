use Rattle.std.proofs.Common.{◌≡◌, suc, ◌-◌, map, refl, sym, arith}
use Rattle.uc_lookup.specs.Parts.{instance_parts, system_in}
use Rattle.uc_order_rules.specs.Sizes.{instance_size, sum}
use Rattle.uc_sizes.proofs.Spending.{memory_out, sizes_of, spends_none, spends_same, spends_stop, spends_two, spent_begin, spent_end, spent_more, spent_stop, stop_out}
use Rattle.uc_sizes.proofs.Codes.{sizes_are}
use Rattle.uc_sizes.specs.Expanding.{sizes_inside}
use Rattle.uc_sizes.proofs.Expanding.{code_same, inside_lost, inside_none, no_instances, sizes_more}
use Rattle.uc_sizes.proofs.instances.+spend_instances.Goals as goal

pub spend_all_inside-loop-declaration-init : goal.spend_all_inside-loop-declaration-init
spend_all_inside-loop-declaration-init t c here at = spent_begin _ _ _

pub spend_all_inside-loop-declaration-preserved : goal.spend_all_inside-loop-declaration-preserved
spend_all_inside-loop-declaration-preserved t c here at =
    spent_more (sizes_inside c.args.depth (system_in c.args.system.now) here) c.args.declarations.now _ _ _ _ c.declaration-item.result _ _ (c.loop-declaration.invariant here at) c.loop-declaration-test.true c.declaration-item.is (c.in_ok-spend_inside.ensures here at)

pub spend_all_inside-returns-in_err-spend_inside : goal.spend_all_inside-returns-in_err-spend_inside
spend_all_inside-returns-in_err-spend_inside t c here at =
    stop_out _ _ _ _ _ c.from_residual.ensures.1
    (spends_same _ _ _ (sizes_of (sizes_inside c.args.depth (system_in c.args.system.now) here) c.args.declarations.now) _
    (spent_stop (sizes_inside c.args.depth (system_in c.args.system.now) here) c.args.declarations.now _ _ _ _ _ c.declaration-item.result _ _ (c.loop-declaration.invariant here at) c.loop-declaration-test.true c.declaration-item.is (c.in_err-spend_inside.ensures here at))
    (sym (sizes_are (sizes_inside c.args.depth (system_in c.args.system.now) here) c.args.declarations.now)))

pub spend_all_inside-returns : goal.spend_all_inside-returns
spend_all_inside-returns t c here at =
    spends_same _ _ _ (sizes_of (sizes_inside c.args.depth (system_in c.args.system.now) here) c.args.declarations.now) _ (spent_end (sizes_inside c.args.depth (system_in c.args.system.now) here) c.args.declarations.now _ _ _ (c.loop-declaration.invariant here at) c.loop-declaration-test.false) (sym (sizes_are (sizes_inside c.args.depth (system_in c.args.system.now) here) c.args.declarations.now))

pub spend_inside-returns-in_err-inside-in-Some-module_named : goal.spend_inside-returns-in_err-inside-in-Some-module_named
spend_inside-returns-in_err-inside-in-Some-module_named t c here at = memory_out _ _ _ _ c.from_residual.ensures.1

pub spend_inside-returns-in-None-module_named : goal.spend_inside-returns-in-None-module_named
spend_inside-returns-in-None-module_named t c here at =
    spends_none _ _ (inside_lost c.args.depth (system_in c.args.system.now) here c.args.declaration.now (instance_parts c.in-Some.instance) c.in-Some.ensures c.in-None-module_named.ensures)

pub spend_inside-returns-in-None : goal.spend_inside-returns-in-None
spend_inside-returns-in-None t c here at = spends_none _ _ (inside_none c.args.depth (system_in c.args.system.now) here c.args.declaration.now c.in-None.ensures)

pub spend_instances-returns-then-depth-eq0 : goal.spend_instances-returns-then-depth-eq0
spend_instances-returns-then-depth-eq0 t c here at = spends_none _ _ (no_instances _ _ _ c.if-depth-eq0.true)

pub spend_instances-returns-in_err-spend_instance : goal.spend_instances-returns-in_err-spend_instance
spend_instances-returns-in_err-spend_instance t c here at =
    let some : c.args.depth ≡ suc (c.args.depth - 1) = omega (arith, c.if-depth-eq0.false) in
    stop_out _ _ _ _ _ c.from_residual.ensures.1
    (spends_stop _ _ _ _ (instance_size (system_in c.args.system.now) here) (sum (map (sizes_inside (c.args.depth - 1) (system_in c.args.system.now) here) here.code.decls)) _ (c.in_err-spend_instance.ensures here at)
    (sizes_more c.args.depth (c.args.depth - 1) (system_in c.args.system.now) here here.code.decls some refl))

pub spend_instances-returns : goal.spend_instances-returns
spend_instances-returns t c here at =
    let some : c.args.depth ≡ suc (c.args.depth - 1) = omega (arith, c.if-depth-eq0.false) in
    spends_two _ _ _ _ _ (instance_size (system_in c.args.system.now) here) (sum (map (sizes_inside (c.args.depth - 1) (system_in c.args.system.now) here) c.as_slice.result.now)) _ (c.in_ok-spend_instance.ensures here at) (c.spend_all_inside.ensures here at.path)
    (sizes_more c.args.depth (c.args.depth - 1) (system_in c.args.system.now) here c.as_slice.result.now some (code_same c.args.path.now c.args.code.now here c.as_slice.result.now at c.as_slice.ensures))
