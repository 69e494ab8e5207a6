use Rattle.std.proofs.Common.{◌≡◌, ℕ, length, true, false, slice_index_or, take}
use Rattle.std.specs.Prelude.{All}
use Rattle.uc_learner.proofs.analysis.mark.Given as goal

abbrev pub invariant-loop-literal : goal.invariant-loop-literal
invariant-loop-literal l = record {
  same_length : length l.marked.items ≡ length l.initial.marked.items;
  grows : (x : ℕ) → slice_index_or l.initial.marked.items x false ≡ true → slice_index_or l.marked.items x false ≡ true;
  all : All (λ k. slice_index_or l.marked.items k.var false ≡ true) (take l.literal-index l.clause);
}
