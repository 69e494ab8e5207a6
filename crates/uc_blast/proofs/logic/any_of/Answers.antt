use Rattle.std.proofs.Common.{arith, get_or, []}
use Rattle.std.proofs.lemmas.List.{length-map}
use Rattle.uc_blast.specs.Words.{words_at}
use Rattle.uc_blast.proofs.Junctions.{any-turn, any-end, part-below}
use Rattle.uc_blast.proofs.logic.any_of.Goals as goal

pub or-requires-clause-b : goal.or-requires-clause-b
or-requires-clause-b c =
    part-below _ _ c.loop-place.invariant.0 c.args.words.now c.args.parts.now c.loop-place.place c.word.result.now _ c.loop-place-test.true c.word.ensures c.truth-part.ensures c.requires

pub loop-place-preserved : goal.loop-place-preserved
loop-place-preserved c =
    any-turn _ _ _ c.args.words.now c.args.parts.now c.loop-place.place c.word.result.now c.truth-part.result c.loop-place.any c.in_ok-any.any c.loop-place-test.true
    c.word.ensures c.truth-part.ensures c.loop-place.invariant c.or.ensures.grows c.in_ok-any.ensures.ok

pub returns-clause-ok : goal.returns-clause-ok
returns-clause-ok c =
    any-end _ (words_at c.args.words.now c.args.parts.now) c.loop-place.place _ (omega (arith, length-map c.args.parts.now (λ p. get_or c.args.words.now p []))) c.loop-place.invariant.1
