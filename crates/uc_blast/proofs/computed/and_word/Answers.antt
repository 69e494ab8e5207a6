use Rattle.uc_circuit.proofs.Pushing.{if_ok-weaker}
use Rattle.uc_blast.proofs.Junctions.{all-gives, firsts-below}
use Rattle.uc_blast.proofs.computed.and_word.Goals as goal

pub all_of-requires : goal.all_of-requires
all_of-requires c = firsts-below _ _ _ c.requires.suits.1 c.requires.words

pub returns-clause-ok : goal.returns-clause-ok
returns-clause-ok c =
    if_ok-weaker _ _ _ (λ r e. all-gives _ _ _ _ r _ c.requires.suits.1 c.requires.words c.in_ok-all.ensures.ok e) c.from_slice.ensures
