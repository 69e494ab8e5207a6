use Rattle.std.proofs.Common.{◌≡◌, ◌+◌, ◌∷◌, [], length, sym, ap, ◌∙◌, subst, arith, slice_get, Some}
use Rattle.std.proofs.lemmas.List.{length_push}
use Rattle.uc_solver.proofs.Giving.{get_front}
use Rattle.uc_values.specs.declared.value.Value.{Value}
use Rattle.uc_values.specs.declared.value.Value.TheVariants.{Bool}
use Rattle.uc_solver.proofs.symbols.fill.Goals as goal

pub loop-place-preserved : goal.loop-place-preserved
loop-place-preserved c = record {
  long = ap length c.in_ok-push.ensures.ok ∙ length_push c.loop-place.symbols _ ∙ ap (λ n. n + 1) c.loop-place.invariant.long;
  kept = λ j w h. ap (λ xs. slice_get xs j) c.in_ok-push.ensures.ok ∙ get_front c.loop-place.symbols _ j w (c.loop-place.invariant.kept j w h);
}
