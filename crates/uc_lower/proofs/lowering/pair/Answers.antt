use Rattle.std.proofs.Common.{arith}
use Rattle.uc_lower.proofs.Marking.{pair_start, pair_step, pair_end}
use Rattle.uc_lower.proofs.lowering.pair.Goals as goal

pub loop-symbol-init : goal.loop-symbol-init
loop-symbol-init c = pair_start c.args.t c.args.pairs.now.items

pub loop-symbol-preserved : goal.loop-symbol-preserved
loop-symbol-preserved c =
    pair_step c.args.t c.args.symbols.now c.args.pairs.now.items c.loop-symbol.pairs.items c.push.new.self.items c.loop-symbol.symbol-index c.symbol-item.result c.symbol-item.is c.loop-symbol-test.true c.loop-symbol.invariant c.in_ok-push.ensures.items

pub returns : goal.returns
returns c = pair_end c.args.t c.args.symbols.now c.args.pairs.now.items c.loop-symbol.pairs.items c.loop-symbol.symbol-index (omega (arith, c.loop-symbol-test.false)) c.loop-symbol.invariant
