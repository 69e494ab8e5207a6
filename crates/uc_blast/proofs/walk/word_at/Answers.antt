use Rattle.uc_blast.proofs.Standing.{parts-valid}
use Rattle.uc_blast.proofs.walk.word_at.Goals as goal

pub operation_word-requires-clause-valid : goal.operation_word-requires-clause-valid
operation_word-requires-clause-valid c =
    rw (c.as_slice.ensures, c.nodes-nodes.ensures.nodes) (parts-valid c.args.terms.now c.args.place c.node-node.result.now c.node-node.ensures.well c.node-node.ensures.node)
