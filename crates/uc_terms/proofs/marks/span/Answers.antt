use Rattle.std.proofs.Common.{◌<◌, sym, subst, All}
use Rattle.std.proofs.lemmas.List.{take_all}
use Rattle.uc_terms.proofs.Walk.{bounded-next}
use Rattle.uc_terms.proofs.marks.span.Goals as goal

pub loop-root-preserved : goal.loop-root-preserved
loop-root-preserved c =
    let i = c.loop-root.root-index in
    let x = c.root-item.result in
    record {
      above = bounded-next c.args.roots.now i x c.loop-root.above c.raised-above.result c.loop-root-test.true c.root-item.is c.raised-above.ensures.above c.raised-above.ensures.next c.loop-root.invariant.above;
      least = λ n b. c.raised-above.ensures.least n (c.loop-root.invariant.least n b) (subst (λ y. y < n) (sym c.root-item.is) (b i x c.loop-root-test.true));
    }

pub returns-clause-above : goal.returns-clause-above
returns-clause-above c = subst (All (λ t. t < c.loop-root.above)) (take_all c.loop-root.root-index c.args.roots.now c.loop-root-test.false) c.loop-root.invariant.above
