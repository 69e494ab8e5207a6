use Rattle.uc_circuit.proofs.Pushing.{if_ok-weaker}
use Rattle.uc_blast.proofs.Junctions.{any-gives, firsts-below}
use Rattle.uc_blast.proofs.computed.or_word.Goals as goal

pub any_of-requires : goal.any_of-requires
any_of-requires c = firsts-below _ _ _ c.requires.suits.1 c.requires.words

pub returns-clause-ok : goal.returns-clause-ok
returns-clause-ok c =
    if_ok-weaker _ _ _ (λ r e. any-gives _ _ _ _ r _ c.requires.suits.1 c.requires.words c.in_ok-any.ensures.ok e) c.from_slice.ensures
