use Rattle.uc_simplify.proofs.linear.put_two.Goals as goal

pub put-requires-clause-there : goal.put-requires-clause-there
put-requires-clause-there c = rw c.in_ok-pair.ensures c.requires.there

pub put-requires-clause-suits : goal.put-requires-clause-suits
put-requires-clause-suits c = rw c.in_ok-copy_op.ensures (rw c.in_ok-pair.ensures c.requires.suits)
