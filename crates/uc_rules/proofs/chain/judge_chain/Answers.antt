use Rattle.std.proofs.Common.{sym, refl}
use Rattle.uc_rules.proofs.Chains.{chain_more}
use Rattle.uc_rules.proofs.chain.judge_chain.Goals as goal

pub loop-k-preserved : goal.loop-k-preserved
loop-k-preserved c =
    chain_more c.args.chain c.args.start c.args.marks.now c.args.types.now c.args.first.now c.loop-k.k c.loop-k.t c.loop-k.first _ _ c.in-Some.u.now _ _ c.loop-k.invariant c.loop-k-test.true refl (sym c.in-Some.ensures) c.pair-t.ensures.ty c.pair-t.ensures.faults
