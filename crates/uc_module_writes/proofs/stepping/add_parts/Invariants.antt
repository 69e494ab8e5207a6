use Rattle.std.proofs.Common.{◌≡◌, ◌∷◌, []}
use Rattle.std.specs.Prelude.{filter}
use Rattle.uc_module_writes.specs.Found.{is_kept}
use Rattle.uc_module_writes.proofs.Growing.{Grown}
use Rattle.uc_module_writes.proofs.stepping.add_parts.Given as goal

abbrev pub invariant-loop-part : goal.invariant-loop-part
invariant-loop-part l = record {
  parts : Grown (λ p. p ∷ []) l.parts l.fn.step.parts l.part-index l.step.parts;
  kept : Grown (λ p. filter (is_kept l.names) (p ∷ [])) l.parts l.fn.step.kept l.part-index l.step.kept;
  pairs : l.step.pairs ≡ l.fn.step.pairs;
}
