use Rattle.std.proofs.Common.{◌∷◌, [], ◌++◌, ap, ◌∙◌}
use Rattle.std.specs.List.{list_any}
use Rattle.uc_module_writes.proofs.Growing.{grown_ones, grown_begin, grown_more}
use Rattle.uc_module_writes.proofs.sets.PairSet.add_row.Goals as goal

pub loop-part-init : goal.loop-part-init
loop-part-init c = grown_begin (λ q. (c.args.earlier.now, q) ∷ []) c.args.later.now c.args.self.now

pub loop-part-preserved : goal.loop-part-preserved
loop-part-preserved c =
    grown_more (λ q. (c.args.earlier.now, q) ∷ []) c.args.later.now c.args.self.now _ _ _ c.part-item.result _ c.loop-part.invariant c.loop-part-test.true c.part-item.is
    (λ test. c.in_ok-add_copy.ensures test ∙ ap (λ p. list_any test (c.loop-part.self ++ (c.args.earlier.now, p) ∷ [])) c.as_slice.ensures)

pub returns : goal.returns
returns c = grown_ones (λ q. (c.args.earlier.now, q)) c.args.later.now c.args.self.now _ _ c.loop-part.invariant c.loop-part-test.false
