use Rattle.uc_names.specs.Homes.{HoldsNames}
use Rattle.uc_names.proofs.InOrder.{made_begin, made_end, made_more}
use Rattle.uc_names.proofs.lists.all_names.Goals as goal

pub loop-home-init : goal.loop-home-init
loop-home-init c = made_begin (HoldsNames c.args.design.now) _ c.new-tables.ensures

pub loop-home-preserved : goal.loop-home-preserved
loop-home-preserved c =
    made_more (HoldsNames c.args.design.now) _ _ c.loop-home.home c.in_ok-table.table c.loop-home.invariant c.in_ok-table.ensures c.in_ok-push.ensures.ok

pub returns : goal.returns
returns c = made_end (HoldsNames c.args.design.now) _ c.loop-home.home c.args.count c.loop-home.invariant c.loop-home-test.false
