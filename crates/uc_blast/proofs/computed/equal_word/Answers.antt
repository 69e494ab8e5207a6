use Rattle.std.proofs.Common.{◌≡◌, ◌∙◌, sym, ap, true}
use Rattle.uc_circuit.proofs.Pushing.{if_ok-weaker}
use Rattle.uc_ops.specs.Typing.{part_type}
use Rattle.uc_blast.specs.Words.{is_bits}
use Rattle.uc_blast.proofs.Mixed.{words-2, equal-gives}
use Rattle.uc_blast.proofs.computed.equal_word.Goals as goal

pub equal-requires-clause-a : goal.equal-requires-clause-a
equal-requires-clause-a c =
    (words-2 _ _ _ _ _ c.word-a.result.now c.word-b.result.now c.requires.suits.1 c.word-a.ensures c.word-b.ensures c.requires.words).x_word.below

pub equal-requires-clause-b : goal.equal-requires-clause-b
equal-requires-clause-b c =
    (words-2 _ _ _ _ _ c.word-a.result.now c.word-b.result.now c.requires.suits.1 c.word-a.ensures c.word-b.ensures c.requires.words).y_word.below

pub equal-requires-clause-long : goal.equal-requires-clause-long
equal-requires-clause-long c =
    let w = words-2 _ _ _ _ _ c.word-a.result.now c.word-b.result.now c.requires.suits.1 c.word-a.ensures c.word-b.ensures c.requires.words in
    w.y_word.long ∙ sym w.x_word.long

pub returns-clause-ok : goal.returns-clause-ok
returns-clause-ok c =
    let w = words-2 _ _ _ _ _ c.word-a.result.now c.word-b.result.now c.requires.suits.1 c.word-a.ensures c.word-b.ensures c.requires.words in
    let is : is_bits c.requires.suits.0 ≡ true = sym (ap (λ ts. is_bits (part_type ts 0)) c.requires.suits.1) ∙ c.requires.bits in
    if_ok-weaker _ _ _ (λ r e. equal-gives _ _ c.requires.suits.0 _ _ c.word-a.result.now c.word-b.result.now r _ c.requires.suits.1 is w c.in_ok-same.ensures.ok e) c.from_slice.ensures
