use Rattle.std.proofs.Common.{refl, sym}
use Rattle.uc_type_names.proofs.Products.{product_more}
use Rattle.uc_type_names.proofs.product.judge_product.Goals as goal

pub loop-k-preserved : goal.loop-k-preserved
loop-k-preserved c =
    product_more c.args.found c.args.start c.args.marks.now c.args.types.now c.args.plains.now c.args.first.now c.loop-k.k c.loop-k.is_found c.loop-k.t c.loop-k.first c.loop-k.invariant
    _ (record { file = 0; line = 0; col = 0 }) c.in-Some.u.now c.in-Some-at.is_plain.now _ _ _ _ c.loop-k-test.true refl (sym c.in-Some.ensures) (sym c.in-Some-at.ensures)
    c.is_second.ensures c.is_found_after-is_found.ensures c.pair-t.ensures.ty c.pair-t.ensures.faults
