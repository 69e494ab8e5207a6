use Rattle.std.proofs.Common.{◌∷◌, [], ◌++◌, ap, ◌∙◌, refl}
use Rattle.std.specs.Prelude.{filter}
use Rattle.std.specs.List.{list_any}
use Rattle.uc_module_writes.specs.Found.{is_kept}
use Rattle.uc_module_writes.proofs.Growing.{grown_all, grown_begin, grown_end, grown_more, same_as}
use Rattle.uc_module_writes.proofs.Placed.{filter_flat}
use Rattle.uc_module_writes.proofs.stepping.add_parts.Goals as goal

pub loop-part-init : goal.loop-part-init
loop-part-init c = record {
  parts = grown_begin (λ p. p ∷ []) c.args.parts.now c.args.step.now.parts;
  kept = grown_begin (λ p. filter (is_kept c.args.names.now) (p ∷ [])) c.args.parts.now c.args.step.now.kept;
  pairs = refl;
}

pub loop-part-preserved : goal.loop-part-preserved
loop-part-preserved c =
    let same = c.in_ok-copy.ensures ∙ c.as_slice.ensures in
    record {
      parts = grown_more (λ p. p ∷ []) c.args.parts.now c.args.step.now.parts _ _ _ c.part-item.result _ c.loop-part.invariant.parts c.loop-part-test.true c.part-item.is
          (same_as _ _ _ _ c.in_ok-add_part.ensures.parts (ap (λ p. p ∷ []) same));
      kept = grown_more (λ p. filter (is_kept c.args.names.now) (p ∷ [])) c.args.parts.now c.args.step.now.kept _ _ _ c.part-item.result _ c.loop-part.invariant.kept c.loop-part-test.true c.part-item.is
          (same_as _ _ _ _ c.in_ok-add_part.ensures.kept (ap (λ p. filter (is_kept c.args.names.now) (p ∷ [])) same));
      pairs = c.in_ok-add_part.ensures.pairs ∙ c.loop-part.invariant.pairs;
    }

pub returns-clause-parts : goal.returns-clause-parts
returns-clause-parts c = grown_all c.args.parts.now c.args.step.now.parts _ _ c.loop-part.invariant.parts c.loop-part-test.false

pub returns-clause-kept : goal.returns-clause-kept
returns-clause-kept c =
    λ test.
    grown_end (λ p. filter (is_kept c.args.names.now) (p ∷ [])) c.args.parts.now c.args.step.now.kept _ _ c.loop-part.invariant.kept c.loop-part-test.false test
    ∙ ap (λ ps. list_any test (c.args.step.now.kept ++ ps)) (filter_flat (is_kept c.args.names.now) c.args.parts.now)
