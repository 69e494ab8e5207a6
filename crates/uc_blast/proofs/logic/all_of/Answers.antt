use Rattle.std.proofs.Common.{arith, get_or, []}
use Rattle.std.proofs.lemmas.List.{length-map}
use Rattle.uc_blast.specs.Words.{words_at}
use Rattle.uc_blast.proofs.Junctions.{all-turn, all-end, part-below}
use Rattle.uc_blast.proofs.logic.all_of.Goals as goal

pub and-requires-clause-b : goal.and-requires-clause-b
and-requires-clause-b c =
    part-below _ _ c.loop-place.invariant.0 c.args.words.now c.args.parts.now c.loop-place.place c.word.result.now _ c.loop-place-test.true c.word.ensures c.truth-part.ensures c.requires

pub loop-place-preserved : goal.loop-place-preserved
loop-place-preserved c =
    all-turn _ _ _ c.args.words.now c.args.parts.now c.loop-place.place c.word.result.now c.truth-part.result c.loop-place.all c.in_ok-all.all c.loop-place-test.true
    c.word.ensures c.truth-part.ensures c.loop-place.invariant c.and.ensures.grows c.in_ok-all.ensures.ok

pub returns-clause-ok : goal.returns-clause-ok
returns-clause-ok c =
    all-end _ (words_at c.args.words.now c.args.parts.now) c.loop-place.place _ (omega (arith, length-map c.args.parts.now (λ p. get_or c.args.words.now p []))) c.loop-place.invariant.1
