use Rattle.std.proofs.Common.{◌∷◌, [], ◌++◌, ap, ◌∙◌}
use Rattle.std.specs.List.{list_any}
use Rattle.uc_module_writes.proofs.Growing.{grown_all, grown_begin, grown_more}
use Rattle.uc_module_writes.proofs.sets.PartSet.add_copies.Goals as goal

pub loop-part-init : goal.loop-part-init
loop-part-init c = grown_begin (λ p. p ∷ []) c.args.parts.now c.args.self.now

pub loop-part-preserved : goal.loop-part-preserved
loop-part-preserved c =
    grown_more (λ p. p ∷ []) c.args.parts.now c.args.self.now _ _ _ c.part-item.result _ c.loop-part.invariant c.loop-part-test.true c.part-item.is
    (λ test. c.in_ok-add.ensures test ∙ ap (λ p. list_any test (c.loop-part.self ++ p ∷ [])) (c.in_ok-copy.ensures ∙ c.as_slice.ensures))

pub returns : goal.returns
returns c = grown_all c.args.parts.now c.args.self.now _ _ c.loop-part.invariant c.loop-part-test.false
