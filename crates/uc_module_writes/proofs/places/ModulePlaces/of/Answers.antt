use Rattle.std.proofs.Common.{nat_eq}
use Rattle.indexmap.specs.IndexMap.{get}
use Rattle.uc_module_writes.proofs.Placed.{placed_begin, placed_end, placed_more}
use Rattle.uc_module_writes.proofs.places.ModulePlaces.of.Goals as goal

pub loop-place-init : goal.loop-place-init
loop-place-init c = placed_begin c.args.modules.now (get nat_eq c.new-places.result.things) c.new-places.ensures

pub loop-place-preserved : goal.loop-place-preserved
loop-place-preserved c =
    placed_more c.args.modules.now c.loop-place.place (get nat_eq c.loop-place.places.things) (get nat_eq c.enter.new.self.things) c.index-modules-place.result c.index-modules-place.result c.loop-place.invariant
    c.loop-place-test.true c.index-modules-place.is c.in_ok-enter.ensures

pub returns : goal.returns
returns c = placed_end c.args.modules.now c.loop-place.place (get nat_eq c.loop-place.places.things) c.loop-place.invariant c.loop-place-test.false
