use Rattle.std.proofs.Common.{◌∷◌, [], ◌++◌, ◌∙◌}
use Rattle.std.specs.List.{list_any}
use Rattle.uc_module_writes.proofs.Growing.{grown_all, grown_begin, grown_more}
use Rattle.uc_module_writes.proofs.sets.PairSet.add_copies.Goals as goal

pub loop-pair-init : goal.loop-pair-init
loop-pair-init c = grown_begin (λ p. p ∷ []) c.args.pairs.now c.args.self.now

pub loop-pair-preserved : goal.loop-pair-preserved
loop-pair-preserved c =
    grown_more (λ p. p ∷ []) c.args.pairs.now c.args.self.now _ _ _ c.pair-item.result _ c.loop-pair.invariant c.loop-pair-test.true c.pair-item.is
    (λ test. c.in_ok-add_copy.ensures test ∙ (λ k. list_any test (c.loop-pair.self ++ (c.as_slice.ensures k, c.as_slice-in-loop-pair.ensures k) ∷ [])))

pub returns : goal.returns
returns c = grown_all c.args.pairs.now c.args.self.now _ _ c.loop-pair.invariant c.loop-pair-test.false
