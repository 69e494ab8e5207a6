use Rattle.uc_compose.proofs.Listing.{joins_none, joins_next, joins_end}
use Rattle.uc_compose.proofs.waiting.add_all.Goals as goal

pub loop-term-init : goal.loop-term-init
loop-term-init c = joins_none c.args.waiting.now

pub loop-term-preserved : goal.loop-term-preserved
loop-term-preserved c =
    joins_next c.args.waiting.now c.loop-term.waiting c.add.new.self c.args.terms.now c.loop-term.term-index c.term-item.result c.number.result c.loop-term-test.true c.term-item.is c.number.ensures c.loop-term.invariant c.in_ok-add.ensures

pub returns : goal.returns
returns c = joins_end c.args.waiting.now c.loop-term.waiting c.args.terms.now c.loop-term.term-index c.loop-term-test.false c.loop-term.invariant
