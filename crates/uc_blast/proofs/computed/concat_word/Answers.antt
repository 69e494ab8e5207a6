use Rattle.std.proofs.Common.{sym, subst}
use Rattle.uc_blast.specs.Words.{Gives}
use Rattle.uc_blast.proofs.Mixed.{words-2, concat-gives}
use Rattle.uc_blast.proofs.computed.concat_word.Goals as goal

pub returns-clause-ok : goal.returns-clause-ok
returns-clause-ok c =
    let s = c.requires.suits in
    let w = words-2 _ _ _ _ _ c.word-high.result.now c.word-low.result.now s.2 c.word-high.ensures c.word-low.ensures c.requires.words in
    subst (Gives _ _ _ _) (sym c.from_vec.ensures)
    (concat-gives _ s.0 s.1 _ _ _ c.word-high.result.now c.word-low.result.now _ s.2 w (c.in_ok-bits.ensures c.args.gates.now w.x_word.below w.y_word.below))
