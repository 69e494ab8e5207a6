use Rattle.std.proofs.Common.{◌≡◌, suc, ◌-◌, refl, ap, ◌∙◌, sym, arith}
use Rattle.std.specs.Option.{option_and_then}
use Rattle.uc_lookup.specs.Parts.{system_in}
use Rattle.uc_meaning.specs.Lookup.{define_of, module_at}
use Rattle.uc_order_rules.specs.Roots.{led}
use Rattle.uc_order_rules.specs.Mentions.{dotted}
use Rattle.uc_order_rules.specs.Sizes.{nodes_through, size}
use Rattle.uc_sizes.specs.Counting.{cost, costs}
use Rattle.uc_sizes.specs.Spending.{at_level}
use Rattle.uc_sizes.proofs.Spending.{memory_out, nodes_of_all, sizes_of, spends_none, spends_same, spends_stop, spends_two, spent_begin, spent_end, spent_more, spent_stop, stop_out}
use Rattle.uc_sizes.proofs.Levels.{counted_is, level_is, no_level}
use Rattle.uc_sizes.proofs.Ways.{no_body, unbound}
use Rattle.uc_sizes.proofs.spent_nodes.+spend_nodes.Goals as goal

pub spend_applied-returns-in-None : goal.spend_applied-returns-in-None
spend_applied-returns-in-None t c = spends_none _ _ (no_body (nodes_through c.args.below (system_in c.args.system.now)) c.args.path.now (option_and_then (λ m. define_of m c.args.name) (module_at (system_in c.args.system.now) c.args.path.now)) c.in-None.ensures)

pub spend_counted-returns-in_err-spend : goal.spend_counted-returns-in_err-spend
spend_counted-returns-in_err-spend t c = stop_out _ _ _ _ _ c.from_residual.ensures.1 (spends_stop _ _ _ _ (size 0 c.from.result) (size 0 (costs (at_level (system_in c.args.system.now) c.args.below c.args.path.now) c.args.counted.now.uses)) _ c.in_err-spend.ensures (counted_is (at_level (system_in c.args.system.now) c.args.below c.args.path.now) c.args.counted.now _ c.args.counted.now.uses c.from.ensures refl))

pub spend_counted-returns : goal.spend_counted-returns
spend_counted-returns t c = spends_two _ _ _ _ _ _ _ _ c.in_ok-spend.ensures c.spend_uses.ensures (counted_is (at_level (system_in c.args.system.now) c.args.below c.args.path.now) c.args.counted.now _ _ c.from.ensures c.as_slice.ensures)

pub spend_name-returns-in_err-there : goal.spend_name-returns-in_err-there
spend_name-returns-in_err-there t c = memory_out _ _ _ _ c.from_residual.ensures.1

pub spend_name-returns : goal.spend_name-returns
spend_name-returns t c = spends_none _ _
    (unbound (system_in c.args.system.now) (nodes_through c.args.below (system_in c.args.system.now)) (led (system_in c.args.system.now) c.args.path.now c.args.name (dotted c.args.selections.now)) c.in_ok-there.there.path
    c.as_slice.result.now c.in_ok-there.there.name c.in_ok-there.ensures c.as_slice.ensures c.in-None.ensures)

pub spend_nodes-returns-then-levels-eq0 : goal.spend_nodes-returns-then-levels-eq0
spend_nodes-returns-then-levels-eq0 t c = spends_none _ _ (no_level _ _ _ _ c.if-levels-eq0.true)

pub spend_nodes-returns-in_err-counted : goal.spend_nodes-returns-in_err-counted
spend_nodes-returns-in_err-counted t c = memory_out _ _ _ _ c.from_residual.ensures.1

pub spend_nodes-returns : goal.spend_nodes-returns
spend_nodes-returns t c =
    let some : c.args.levels ≡ suc (c.args.levels - 1) = omega (arith, c.if-levels-eq0.false) in
    spends_same _ _ _ _ _ c.spend_counted.ensures (level_is _ _ _ _ _ _ some (c.in_ok-counted.ensures _))

pub spend_uses-loop-used-init : goal.spend_uses-loop-used-init
spend_uses-loop-used-init t c = spent_begin _ _ _

pub spend_uses-returns-in_err-spend_use : goal.spend_uses-returns-in_err-spend_use
spend_uses-returns-in_err-spend_use t c =
    stop_out _ _ _ _ _ c.from_residual.ensures.1
    (spends_same _ _ _ (sizes_of (λ u. size 0 (cost (at_level (system_in c.args.system.now) c.args.below c.args.path.now) u)) c.args.uses.now) _
    (spent_stop (λ u. size 0 (cost (at_level (system_in c.args.system.now) c.args.below c.args.path.now) u)) c.args.uses.now _ _ _ _ _ c.used-item.result _ _ c.loop-used.invariant c.loop-used-test.true c.used-item.is c.in_err-spend_use.ensures)
    (sym (nodes_of_all (cost (at_level (system_in c.args.system.now) c.args.below c.args.path.now)) c.args.uses.now)))

pub spend_uses-loop-used-preserved : goal.spend_uses-loop-used-preserved
spend_uses-loop-used-preserved t c =
    spent_more (λ u. size 0 (cost (at_level (system_in c.args.system.now) c.args.below c.args.path.now) u)) _ _ _ _ _ c.used-item.result _ _ c.loop-used.invariant c.loop-used-test.true c.used-item.is c.in_ok-spend_use.ensures

pub spend_uses-returns : goal.spend_uses-returns
spend_uses-returns t c =
    spends_same _ _ _ (sizes_of (λ u. size 0 (cost (at_level (system_in c.args.system.now) c.args.below c.args.path.now) u)) c.args.uses.now) _ (spent_end (λ u. size 0 (cost (at_level (system_in c.args.system.now) c.args.below c.args.path.now) u)) _ _ _ _ c.loop-used.invariant c.loop-used-test.false) (sym (nodes_of_all (cost (at_level (system_in c.args.system.now) c.args.below c.args.path.now)) c.args.uses.now))
