use Rattle.std.proofs.Common.{ap, ◌∙◌, refl, subst, sym, map}
use Rattle.uc_graph.specs.Order.{IsNeededFirst}
use Rattle.uc_module_writes.specs.Places.{places_in}
use Rattle.uc_module_writes.proofs.Ordered.{order_begin, order_end, order_more}
use Rattle.uc_module_writes.proofs.noting.note_in_order.Goals as goal

pub loop-place-init : goal.loop-place-init
loop-place-init c = λ ends placed bind graph first is. order_begin c.args.design.now c.args.names.now c.args.places.now ends placed bind graph _ first is c.args.first.now _ c.new-summaries.ensures

pub loop-place-preserved : goal.loop-place-preserved
loop-place-preserved c =
    λ ends placed bind graph first is.
    order_more c.args.design.now c.args.names.now c.args.places.now ends placed bind graph _ first is c.args.first.now _ _ _ _ _ _ 0 (c.loop-place.invariant ends placed bind graph first is) c.loop-place-test.true
    refl c.in_ok-note_module.ensures

pub returns : goal.returns
returns c =
    λ ends bind placed.
    let is = c.as_slice.ensures ∙ c.in_ok-graph.ensures ∙ ap (λ s. map (λ m. places_in c.args.places.now m.decls) s.modules) c.system.ensures in
    let first = subst (IsNeededFirst c.as_slice.result.now) (sym c.as_slice-order.ensures) c.in_ok-ordered.ensures in
    order_end c.args.design.now c.args.names.now c.args.places.now ends placed bind c.as_slice.result.now _ first is c.args.first.now _ _ _ (c.loop-place.invariant ends placed bind c.as_slice.result.now first is) c.loop-place-test.false
