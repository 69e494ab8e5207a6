use Rattle.std.proofs.Common.{◌≡◌, ◌<◌, ◌++◌, ◌∷◌, [], sym, ap, ◌∙◌, subst, arith, length, slice_index_or, slice_set}
use Rattle.std.proofs.lemmas.List.{get_or_read}
use Rattle.uc_solver.specs.Codes.{IsSymbolPair}
use Rattle.uc_solver.proofs.Setting.{item_of}
use Rattle.uc_solver.proofs.Reading.{codes_next, codes_all}
use Rattle.uc_solver.proofs.mapped.codes.Goals as goal

pub loop-place-preserved : goal.loop-place-preserved
loop-place-preserved c =
    let p = c.index-pairs-place.result in
    let old = c.loop-place.codes.items in
    let pair = (item_of c.args.pairs.now c.loop-place.place p c.index-pairs-place.is c.loop-place-test.true).1 (IsSymbolPair c.args.terms.now) c.requires in
    let within : p.0 < length old = omega (arith, pair.first, c.loop-place.invariant.long) in
    let read : c.index_mut.result.now ≡ slice_index_or old p.0 [] = get_or_read old p.0 c.index_mut.result.now within (c.index_mut.ensures.value ∙ ap (λ i. slice_index_or old i c.index_mut.result.now) c.index.ensures) [] in
    codes_next c.args.model.now c.args.terms.now c.args.pairs.now old _ c.loop-place.place p c.in_ok-value.value c.push.new.self c.index-pairs-place.is c.loop-place-test.true pair.first c.in_ok-value.ensures
    (c.in_ok-push.ensures.ok ∙ ap (λ xs. xs ++ c.in_ok-value.value ∷ []) read) (ap (λ i. slice_set old i c.push.new.self) c.index.ensures) c.loop-place.invariant
