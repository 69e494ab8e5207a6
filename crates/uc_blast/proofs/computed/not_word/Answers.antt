use Rattle.std.proofs.Common.{◌∙◌, ap}
use Rattle.uc_circuit.proofs.Pushing.{if_ok-weaker}
use Rattle.uc_circuit.specs.Signals.{turned}
use Rattle.uc_blast.proofs.Mixed.{words-1, not-gives}
use Rattle.uc_blast.proofs.computed.not_word.Goals as goal

pub returns-clause-ok : goal.returns-clause-ok
returns-clause-ok c =
    let w = words-1 _ _ _ _ c.word.result.now c.requires.suits c.word.ensures c.requires.words in
    if_ok-weaker _ _ _ (λ r e. not-gives c.args.gates.now _ _ c.word.result.now r _ c.requires.suits w (c.turn-negated.ensures ∙ ap turned c.truth.ensures) e) c.from_slice.ensures
