use Rattle.std.proofs.Common.{sym, subst}
use Rattle.uc_blast.specs.Words.{Gives}
use Rattle.uc_blast.proofs.Ready.{two-words, pair-suits}
use Rattle.uc_blast.proofs.Giving.{pair-gives}
use Rattle.uc_blast.proofs.computed.pair_word.Goals as goal

pub pair_bits-requires-clause-a : goal.pair_bits-requires-clause-a
pair_bits-requires-clause-a c = (two-words _ _ _ c.word-a.result.now c.word-b.result.now (pair-suits c.args.op.now c.requires.op _ c.requires.suits) c.requires.valid c.word-a.ensures c.word-b.ensures c.requires.words).x_below

pub pair_bits-requires-clause-b : goal.pair_bits-requires-clause-b
pair_bits-requires-clause-b c = (two-words _ _ _ c.word-a.result.now c.word-b.result.now (pair-suits c.args.op.now c.requires.op _ c.requires.suits) c.requires.valid c.word-a.ensures c.word-b.ensures c.requires.words).y_below

pub pair_bits-requires-clause-long : goal.pair_bits-requires-clause-long
pair_bits-requires-clause-long c = (two-words _ _ _ c.word-a.result.now c.word-b.result.now (pair-suits c.args.op.now c.requires.op _ c.requires.suits) c.requires.valid c.word-a.ensures c.word-b.ensures c.requires.words).long

pub pair_bits-requires-clause-some : goal.pair_bits-requires-clause-some
pair_bits-requires-clause-some c = (two-words _ _ _ c.word-a.result.now c.word-b.result.now (pair-suits c.args.op.now c.requires.op _ c.requires.suits) c.requires.valid c.word-a.ensures c.word-b.ensures c.requires.words).some

pub pair_bits-requires-clause-narrow : goal.pair_bits-requires-clause-narrow
pair_bits-requires-clause-narrow c = (two-words _ _ _ c.word-a.result.now c.word-b.result.now (pair-suits c.args.op.now c.requires.op _ c.requires.suits) c.requires.valid c.word-a.ensures c.word-b.ensures c.requires.words).narrow

pub returns-clause-ok : goal.returns-clause-ok
returns-clause-ok c = subst (Gives _ _ _ _) (sym c.from_vec.ensures) (pair-gives _ _ c.args.op.now c.requires.op _ _ c.word-a.result.now c.word-b.result.now _ (two-words _ _ _ c.word-a.result.now c.word-b.result.now (pair-suits c.args.op.now c.requires.op _ c.requires.suits) c.requires.valid c.word-a.ensures c.word-b.ensures c.requires.words) c.in_ok-bits.ensures.ok)
