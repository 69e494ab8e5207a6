use Rattle.std.proofs.Common.{◌≡◌, ◌<◌, ◌≤◌, ◌||◌, [], false, ap, length, get_or, sym, ◌∙◌, arith}
use Rattle.std.specs.Prelude.{not, slice_index_or}
use Rattle.uc_syntax.specs.declared.declaration.Module.{Module}
use Rattle.uc_meaning.specs.Lookup.{System}
use Rattle.uc_order_rules.specs.Roots.{rooted}
use Rattle.uc_order_rules.specs.Uses.{has_way}
use Rattle.uc_order_rules.specs.Sizes.{has_many_instances}
use Rattle.uc_uses.proofs.Nodes.{way_same}
use Rattle.uc_uses.proofs.JudgedRoots.{judged_begin, judged_end, judged_more}
use Rattle.uc_uses.proofs.judged.judged_roots.Goals as goal

pub loop-number-preserved : goal.loop-number-preserved
loop-number-preserved c =
    let s = c.args.design.now in
    let node = c.node_of.result in
    let size : length c.system-system.result.modules.now ≡ length s.modules = ap (λ (x : System). length x.modules) c.system-system.ensures in
    judged_more s c.loop-number.number c.loop-number.flags c.push.new.self c.root-item.result c.root-item.result c.flag_at-is_deep.result c.in_ok-is_within.field-0
    c.loop-number.invariant (omega (arith, size, c.loop-number-test.true)) (c.root-item.is ∙ ap (λ (x : System). get_or x.modules c.loop-number.number c.root-item.result) c.system-system.ensures)
    (c.flag_at-is_deep.ensures
    ∙ ap (λ fs. slice_index_or fs node false) c.as_slice-in-loop-number.ensures
    ∙ c.in_ok-deep.ensures node
    ∙ ap (λ g. has_way 32 (λ j. slice_index_or g j []) node) c.as_slice.ensures
    ∙ way_same s c.in_ok-graph.graph c.in_ok-graph.ensures 32 node c.root-item.result.name c.node_of.ensures)
    (c.in_ok-is_within.ensures ∙ ap (λ (x : System). not (c.flag_at-is_deep.result || has_many_instances (rooted x c.loop-number.number))) c.system-system.ensures)
    c.in_ok-push.ensures.ok

pub returns : goal.returns
returns c =
    let size : length c.system-system.result.modules.now ≡ length c.args.design.now.modules = ap (λ (x : System). length x.modules) c.system-system.ensures in
    judged_end c.args.design.now c.loop-number.number c.loop-number.flags (omega (arith, size, c.loop-number-test.false)) c.loop-number.invariant
