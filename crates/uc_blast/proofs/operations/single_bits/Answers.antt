use Rattle.uc_ops.specs.declared.op.Op.TheVariants.{BvNot, Extract, ZeroExt, SignExt}
use Rattle.uc_circuit.proofs.Pushing.{if_ok-weaker}
use Rattle.uc_blast.proofs.Singles.{turned-amounts, single-for, extract-for, zeros-for, signs-for}
use Rattle.uc_blast.proofs.operations.single_bits.Goals as goal

pub returns-in-BvNot-clause-ok : goal.returns-in-BvNot-clause-ok
returns-in-BvNot-clause-ok c =
    if_ok-weaker _ _ _ (λ r e. single-for _ BvNot c.in-BvNot.is _ c.args.a.now _ (turned-amounts c.args.gates.now c.args.a.now _ e c.requires.a)) c.turn_each.ensures

pub returns-in-Extract-clause-ok : goal.returns-in-Extract-clause-ok
returns-in-Extract-clause-ok c =
    if_ok-weaker _ _ _ (λ r e. single-for _ (Extract c.in-Extract.high c.in-Extract.low) c.in-Extract.is _ c.args.a.now _
    (extract-for _ _ _ _ c.from.ensures c.from-in-Extract.ensures c.args.gates.now c.args.a.now _ (e c.args.gates.now c.requires.a))) c.extract.ensures

pub returns-in-ZeroExt-clause-ok : goal.returns-in-ZeroExt-clause-ok
returns-in-ZeroExt-clause-ok c =
    if_ok-weaker _ _ _ (λ r e. single-for _ (ZeroExt c.in-ZeroExt.more) c.in-ZeroExt.is _ c.args.a.now _
    (zeros-for _ _ c.from-in-ZeroExt.ensures c.args.gates.now c.args.a.now _ (e c.args.gates.now c.requires.a))) c.zero_extend.ensures

pub returns-in-SignExt-clause-ok : goal.returns-in-SignExt-clause-ok
returns-in-SignExt-clause-ok c =
    if_ok-weaker _ _ _ (λ r e. single-for _ (SignExt c.in-SignExt.more) c.in-SignExt.is _ c.args.a.now _
    (signs-for _ _ c.from-in-SignExt.ensures c.args.gates.now c.args.a.now _ (e c.args.gates.now c.requires.a))) c.sign_extend.ensures
