-- Each text is new, since no text stands twice among the names.
use Rattle.std.proofs.Common.{map, subst, sym}
use Rattle.uc_syntax.specs.Numbering.{AreDistinct}
use Rattle.uc_syntax.proofs.Numbering.{copy_more, distinct_by_keys}
use Rattle.uc_syntax.proofs.names.Names.copy.Goals as goal

pub loop-text-preserved : goal.loop-text-preserved
loop-text-preserved c =
    copy_more (λ k. k.items) c.as_slice-texts.result.now c.loop-text.text-index c.text-item.result _ _ _
    (subst (λ ks. AreDistinct (map (λ k. k.items) ks)) (sym c.as_slice-texts.ensures.keys) (distinct_by_keys (λ k. k.items) _ c.as_slice-texts.ensures.unique))
    c.loop-text.invariant c.loop-text-test.true c.text-item.is c.as_slice.ensures.value c.in_ok-intern.ensures.names
