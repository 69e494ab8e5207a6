use Rattle.std.proofs.Common.{ℕ, [], false, ap, subst, sym, ◌∙◌}
use Rattle.std.specs.Prelude.{slice_index_or}
use Rattle.uc_meaning.specs.Lookup.{System}
use Rattle.uc_uses.specs.Graph.{AreNodes, steps_of}
use Rattle.uc_uses.proofs.Nodes.{deep_found, deep_more}
use Rattle.uc_uses.proofs.depth.has_deep_module.Goals as goal

pub returns-then-flag_at : goal.returns-then-flag_at
returns-then-flag_at c =
    deep_found c.args.design.now c.as_slice.result.now
    (subst (λ g. (k : ℕ) → AreNodes c.args.design.now (slice_index_or g k []) (steps_of c.args.design.now k)) (sym c.as_slice.ensures) c.in_ok-graph.ensures)
    c.in_ok-flags.flags c.in_ok-flags.ensures _ _ c.module-item.result _ c.node_of.result c.flag_at.result c.loop-module.invariant c.loop-module-test.true c.module-item.is c.node_of.ensures
    (c.flag_at.ensures ∙ ap (λ fs. slice_index_or fs c.node_of.result false) c.as_slice-in-loop-module.ensures) c.if-flag_at.true
    (ap (λ (s : System). s.modules) c.system.ensures)

pub loop-module-preserved : goal.loop-module-preserved
loop-module-preserved c =
    deep_more c.args.design.now c.as_slice.result.now
    (subst (λ g. (k : ℕ) → AreNodes c.args.design.now (slice_index_or g k []) (steps_of c.args.design.now k)) (sym c.as_slice.ensures) c.in_ok-graph.ensures)
    c.in_ok-flags.flags c.in_ok-flags.ensures _ _ c.module-item.result _ c.node_of.result c.flag_at.result c.loop-module.invariant c.loop-module-test.true c.module-item.is c.node_of.ensures
    (c.flag_at.ensures ∙ ap (λ fs. slice_index_or fs c.node_of.result false) c.as_slice-in-loop-module.ensures) c.if-flag_at.false
