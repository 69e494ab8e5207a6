use Rattle.std.proofs.Common.{[], ◌+◌, ◌++◌, length, ap, sym, ◌∙◌}
use Rattle.std.specs.Prelude.{if◌then◌else◌, slice_index_or}
use Rattle.uc_step_cycles.specs.Building.{acts_edges, contexts_edges, spot, stepped_edges}
use Rattle.uc_step_cycles.proofs.Growing.{adds_by, adds_none, adds_two_by}
use Rattle.uc_step_cycles.proofs.block_edges.add_block.Goals as goal

pub returns-then-not-block : goal.returns-then-not-block
returns-then-not-block c =
    adds_by _ _ _ _ (ap (λ b. if b then stepped_edges c.args.names.now c.args.bases.now (spot c.args.node (slice_index_or c.args.bases.now c.args.node 0)) c.args.block.now else []) c.if-not-block.true) (adds_none _)

pub returns : goal.returns
returns c =
    let base = sym c.base_at-base.ensures in
    let conditions = c.in_ok-conditions.ensures ∙ ap (λ n. n + 1) (ap length c.as_slice-contexts.ensures) in
    let start = c.in_ok-start.ensures ∙ (λ i. c.base_at-base.ensures i + conditions i) in
    adds_two_by _ _ _ _ _ _
    (ap (λ b. if b then stepped_edges c.args.names.now c.args.bases.now (spot c.args.node (slice_index_or c.args.bases.now c.args.node 0)) c.args.block.now else []) c.if-not-block.false
    ∙ (λ i.
    contexts_edges c.args.names.now (spot c.args.node (base i)) (sym c.as_slice-contexts.ensures i)
    ++ acts_edges c.args.names.now c.args.bases.now (spot c.args.node (base i)) (sym start i) (sym c.as_slice-acts.ensures i)))
    c.in_ok-add_contexts.ensures c.in_ok-add_acts.ensures
