use Rattle.uc_circuit.proofs.Pushing.{if_ok-weaker}
use Rattle.uc_blast.proofs.Ready.{two-words, order-suits}
use Rattle.uc_blast.proofs.Giving.{order-gives}
use Rattle.uc_blast.proofs.computed.order_word.Goals as goal

pub order-requires-clause-a : goal.order-requires-clause-a
order-requires-clause-a c = (two-words _ _ _ c.word-a.result.now c.word-b.result.now (order-suits c.args.op.now c.requires.op _ c.requires.suits) c.requires.valid c.word-a.ensures c.word-b.ensures c.requires.words).x_below

pub order-requires-clause-b : goal.order-requires-clause-b
order-requires-clause-b c = (two-words _ _ _ c.word-a.result.now c.word-b.result.now (order-suits c.args.op.now c.requires.op _ c.requires.suits) c.requires.valid c.word-a.ensures c.word-b.ensures c.requires.words).y_below

pub order-requires-clause-long : goal.order-requires-clause-long
order-requires-clause-long c = (two-words _ _ _ c.word-a.result.now c.word-b.result.now (order-suits c.args.op.now c.requires.op _ c.requires.suits) c.requires.valid c.word-a.ensures c.word-b.ensures c.requires.words).long

pub order-requires-clause-some : goal.order-requires-clause-some
order-requires-clause-some c = (two-words _ _ _ c.word-a.result.now c.word-b.result.now (order-suits c.args.op.now c.requires.op _ c.requires.suits) c.requires.valid c.word-a.ensures c.word-b.ensures c.requires.words).some

pub returns-clause-ok : goal.returns-clause-ok
returns-clause-ok c = if_ok-weaker _ _ _ (λ r e. order-gives _ _ c.args.op.now c.requires.op _ _ c.word-a.result.now c.word-b.result.now r _ (two-words _ _ _ c.word-a.result.now c.word-b.result.now (order-suits c.args.op.now c.requires.op _ c.requires.suits) c.requires.valid c.word-a.ensures c.word-b.ensures c.requires.words) c.in_ok-truth.ensures.ok e) c.from_slice.ensures
