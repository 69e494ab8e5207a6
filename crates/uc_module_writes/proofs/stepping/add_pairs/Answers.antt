use Rattle.std.proofs.Common.{◌++◌, ap, ◌∙◌, refl}
use Rattle.std.specs.List.{list_any}
use Rattle.uc_meaning.specs.Cells.{as_list}
use Rattle.uc_module_writes.specs.Stepped.{pair_by}
use Rattle.uc_module_writes.proofs.Growing.{grown_begin, grown_end, grown_more, same_as}
use Rattle.uc_module_writes.proofs.Placed.{filter_map_flat}
use Rattle.uc_module_writes.proofs.stepping.add_pairs.Goals as goal

pub loop-pair-init : goal.loop-pair-init
loop-pair-init c = record { parts = refl; kept = refl; pairs = grown_begin (λ p. as_list (pair_by c.args.outer.now p)) c.args.pairs.now c.args.step.now.pairs }

pub loop-pair-preserved : goal.loop-pair-preserved
loop-pair-preserved c = record {
  parts = c.in_ok-add_outer.ensures.parts ∙ c.loop-pair.invariant.parts;
  kept = c.in_ok-add_outer.ensures.kept ∙ c.loop-pair.invariant.kept;
  pairs = grown_more (λ p. as_list (pair_by c.args.outer.now p)) c.args.pairs.now c.args.step.now.pairs _ _ _ c.pair-item.result _ c.loop-pair.invariant.pairs c.loop-pair-test.true c.pair-item.is
      (same_as _ _ _ _ c.in_ok-add_outer.ensures.pairs (λ k. as_list (pair_by c.args.outer.now (c.as_slice.ensures k, c.as_slice-in-loop-pair.ensures k))));
}

pub returns-clause-pairs : goal.returns-clause-pairs
returns-clause-pairs c =
    λ test.
    grown_end (λ p. as_list (pair_by c.args.outer.now p)) c.args.pairs.now c.args.step.now.pairs _ _ c.loop-pair.invariant.pairs c.loop-pair-test.false test
    ∙ ap (λ ps. list_any test (c.args.step.now.pairs ++ ps)) (filter_map_flat (pair_by c.args.outer.now) c.args.pairs.now)
