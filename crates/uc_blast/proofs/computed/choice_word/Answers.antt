use Rattle.std.proofs.Common.{◌≡◌, ◌∙◌, sym, ap, subst, true, arith, cond, length}
use Rattle.uc_ops.specs.Typing.{part_type}
use Rattle.uc_circuit.specs.Signals.{Below, signal_value, number}
use Rattle.uc_circuit.specs.Building.{size}
use Rattle.uc_circuit.specs.Meanings.{Amounts}
use Rattle.uc_blast.specs.Words.{is_bits, Gives}
use Rattle.uc_blast.proofs.Mixed.{words-3, choice-gives, truth-below}
use Rattle.uc_blast.proofs.computed.choice_word.Goals as goal

pub choose_each-requires-clause-condition : goal.choose_each-requires-clause-condition
choose_each-requires-clause-condition c =
    let w = words-3 _ _ _ _ _ _ c.word.result.now c.word-a.result.now c.word-b.result.now c.requires.suits.1 c.word.ensures c.word-a.ensures c.word-b.ensures c.requires.words in
    subst (Below (size c.args.gates.now)) (sym c.truth-condition.ensures) (truth-below _ _ _ w.x_word (omega arith))

pub choose_each-requires-clause-a : goal.choose_each-requires-clause-a
choose_each-requires-clause-a c =
    (words-3 _ _ _ _ _ _ c.word.result.now c.word-a.result.now c.word-b.result.now c.requires.suits.1 c.word.ensures c.word-a.ensures c.word-b.ensures c.requires.words).y_word.below

pub choose_each-requires-clause-b : goal.choose_each-requires-clause-b
choose_each-requires-clause-b c =
    (words-3 _ _ _ _ _ _ c.word.result.now c.word-a.result.now c.word-b.result.now c.requires.suits.1 c.word.ensures c.word-a.ensures c.word-b.ensures c.requires.words).z_word.below

pub choose_each-requires-clause-long : goal.choose_each-requires-clause-long
choose_each-requires-clause-long c =
    let w = words-3 _ _ _ _ _ _ c.word.result.now c.word-a.result.now c.word-b.result.now c.requires.suits.1 c.word.ensures c.word-a.ensures c.word-b.ensures c.requires.words in
    w.z_word.long ∙ sym w.y_word.long

pub returns-clause-ok : goal.returns-clause-ok
returns-clause-ok c =
    let w = words-3 _ _ _ _ _ _ c.word.result.now c.word-a.result.now c.word-b.result.now c.requires.suits.1 c.word.ensures c.word-a.ensures c.word-b.ensures c.requires.words in
    let is : is_bits c.requires.suits.0 ≡ true = sym (ap (λ ts. is_bits (part_type ts 1)) c.requires.suits.1) ∙ c.requires.bits in
    subst (Gives _ _ _ _) (sym c.from_vec.ensures)
    (choice-gives _ _ c.requires.suits.0 _ _ c.word.result.now c.word-a.result.now c.word-b.result.now _ c.requires.suits.1 is w
    (subst (λ s. Amounts c.choose_each.new.gates (length c.word-a.result.now) (λ v. cond (signal_value v s) (number v c.word-a.result.now) (number v c.word-b.result.now)) c.in_ok-bits.bits.items) c.truth-condition.ensures c.in_ok-bits.ensures.ok))
