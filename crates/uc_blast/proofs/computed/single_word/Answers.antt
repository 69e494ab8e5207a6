use Rattle.std.proofs.Common.{sym, subst}
use Rattle.uc_blast.specs.Words.{Gives}
use Rattle.uc_blast.proofs.Ready.{one-word}
use Rattle.uc_blast.proofs.Giving.{single-gives}
use Rattle.uc_blast.proofs.computed.single_word.Goals as goal

pub single_bits-requires-clause-a : goal.single_bits-requires-clause-a
single_bits-requires-clause-a c = (one-word _ c.args.op.now _ _ c.word-a.result.now c.requires.op c.requires.suits c.requires.valid c.word-a.ensures c.requires.words).below

pub single_bits-requires-clause-some : goal.single_bits-requires-clause-some
single_bits-requires-clause-some c = (one-word _ c.args.op.now _ _ c.word-a.result.now c.requires.op c.requires.suits c.requires.valid c.word-a.ensures c.requires.words).some

pub single_bits-requires-clause-suits : goal.single_bits-requires-clause-suits
single_bits-requires-clause-suits c = (one-word _ c.args.op.now _ _ c.word-a.result.now c.requires.op c.requires.suits c.requires.valid c.word-a.ensures c.requires.words).suits

pub returns-clause-ok : goal.returns-clause-ok
returns-clause-ok c = subst (Gives _ _ _ _) (sym c.from_vec.ensures) (single-gives _ _ c.args.op.now c.requires.op _ _ c.word-a.result.now _ (one-word _ c.args.op.now _ _ c.word-a.result.now c.requires.op c.requires.suits c.requires.valid c.word-a.ensures c.requires.words) c.in_ok-bits.ensures.ok)
