use Rattle.std.proofs.Common.{◌≡◌}
use Rattle.uc_meaning.specs.Cells.{as_list}
use Rattle.uc_module_writes.specs.Stepped.{pair_by}
use Rattle.uc_module_writes.proofs.Growing.{Grown}
use Rattle.uc_module_writes.proofs.stepping.add_pairs.Given as goal

abbrev pub invariant-loop-pair : goal.invariant-loop-pair
invariant-loop-pair l = record {
  parts : l.step.parts ≡ l.fn.step.parts;
  kept : l.step.kept ≡ l.fn.step.kept;
  pairs : Grown (λ p. as_list (pair_by l.outer p)) l.pairs l.fn.step.pairs l.pair-index l.step.pairs;
}
