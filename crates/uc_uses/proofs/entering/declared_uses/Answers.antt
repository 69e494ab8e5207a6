use Rattle.std.proofs.Common.{ap, take, ◌∙◌}
use Rattle.uc_meaning.specs.Lookup.{or_else}
use Rattle.uc_uses.specs.Sources.{declared_source, said_in}
use Rattle.uc_uses.proofs.Entered.{enters_begin, enters_by}
use Rattle.uc_uses.proofs.Firsts.{first_more, first_none}
use Rattle.uc_uses.proofs.entering.declared_uses.Goals as goal

pub loop-declaration-init : goal.loop-declaration-init
unfolding declared_source
loop-declaration-init c = enters_begin c.args.kind c.args.node c.args.uses.now c.new-table.result _ c.new-table.ensures (λ x. first_none (said_in c.args.kind c.args.node x))

pub loop-declaration-preserved : goal.loop-declaration-preserved
unfolding declared_source
loop-declaration-preserved c =
    let ds = c.args.declarations.now in
    let i = c.loop-declaration.declaration-index in
    enters_by c.args.kind c.args.node c.args.uses.now _ _ c.enter.new.table c.enter.new.uses
    (λ x.
    ap (or_else (declared_source c.args.kind c.args.node (take i ds) x)) (c.declared_entry-entry.ensures x)
    ∙ first_more (said_in c.args.kind c.args.node x) ds i c.declaration-item.result c.declaration-item.result c.loop-declaration-test.true c.declaration-item.is)
    (c.in_ok-enter.ensures c.args.uses.now (declared_source c.args.kind c.args.node (take i ds)) c.loop-declaration.invariant)
