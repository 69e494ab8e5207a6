use Rattle.uc_terms.proofs.Ready.{ready}
use Rattle.uc_terms.proofs.evaluation.value_at.Goals as goal

pub apply-requires : goal.apply-requires
apply-requires c =
    rw c.as_slice.ensures (ready c.args.model.now c.args.terms.now c.args.place c.node-node.result.now c.args.given.now c.node-node.ensures.well c.node-node.ensures.node c.requires.given).sound

pub returns-clause-ok : goal.returns-clause-ok
returns-clause-ok c =
    let r = ready c.args.model.now c.args.terms.now c.args.place c.node-node.result.now c.args.given.now c.node-node.ensures.well c.node-node.ensures.node c.requires.given in
    rw (← r.value) (rw (c.as_slice.ensures, c.nodes-nodes.ensures.nodes) at c.apply.ensures.ok)

pub returns-clause-narrow : goal.returns-clause-narrow
returns-clause-narrow c =
    let r = ready c.args.model.now c.args.terms.now c.args.place c.node-node.result.now c.args.given.now c.node-node.ensures.well c.node-node.ensures.node c.requires.given in
    rw (← r.met) (rw c.as_slice.ensures at c.apply.ensures.narrow)

pub returns-clause-wide : goal.returns-clause-wide
returns-clause-wide c =
    let r = ready c.args.model.now c.args.terms.now c.args.place c.node-node.result.now c.args.given.now c.node-node.ensures.well c.node-node.ensures.node c.requires.given in
    rw (← r.met) (rw c.as_slice.ensures at c.apply.ensures.wide)
