use Rattle.std.proofs.Common.{ap, take, ◌∙◌}
use Rattle.uc_meaning.specs.Lookup.{or_else}
use Rattle.uc_uses.specs.Sources.{bound_source, said_bound}
use Rattle.uc_uses.specs.declared.uses.UseKind.TheVariants.{Input}
use Rattle.uc_uses.proofs.Entered.{enters_begin, enters_by}
use Rattle.uc_uses.proofs.Firsts.{first_more, first_none}
use Rattle.uc_uses.proofs.entering.bound_uses.Goals as goal

pub loop-binding-init : goal.loop-binding-init
unfolding bound_source
loop-binding-init c = enters_begin Input c.args.node c.args.uses.now c.new-table.result _ c.new-table.ensures (λ x. first_none (said_bound c.args.inputs.now c.args.above x))

pub loop-binding-preserved : goal.loop-binding-preserved
unfolding bound_source
loop-binding-preserved c =
    let bs = c.args.bindings.now in
    let i = c.loop-binding.binding-index in
    enters_by Input c.args.node c.args.uses.now _ _ c.enter.new.table c.enter.new.uses
    (λ x.
    ap (or_else (bound_source c.args.inputs.now c.args.above (take i bs) x)) (c.bound_entry-entry.ensures x)
    ∙ first_more (said_bound c.args.inputs.now c.args.above x) bs i c.binding-item.result c.binding-item.result c.loop-binding-test.true c.binding-item.is)
    (c.in_ok-enter.ensures c.args.uses.now (bound_source c.args.inputs.now c.args.above (take i bs)) c.loop-binding.invariant)
