use Rattle.std.proofs.Common.{◌≡◌, drop}
use Rattle.std.specs.List.{list_all}
use Rattle.uc_values.specs.Values.{indices}
use Rattle.uc_values.specs.Arrays.{at}
use Rattle.uc_values.specs.Sameness.{same, same_parts, sames, all_or_listed}
use Rattle.uc_values.proofs.sameness.+same_values.Given as goal

abbrev pub invariant-same_parts-loop-place : goal.invariant-same_parts-loop-place
invariant-same_parts-loop-place l = same_parts (sames l.fields) l.parts l.others ≡ same_parts (sames (drop l.place l.fields)) (drop l.place l.parts) (drop l.place l.others)

abbrev pub invariant-same_at-loop-index : goal.invariant-same_at-loop-index
invariant-same_at-loop-index l =
    list_all (λ i. same l.element (at l.left i) (at l.right i)) (indices l.rows)
    ≡ list_all (λ i. same l.element (at l.left i) (at l.right i)) (indices (drop l.index-index l.rows))

abbrev pub invariant-same_at_unlisted-loop-index : goal.invariant-same_at_unlisted-loop-index
invariant-same_at_unlisted-loop-index l =
    all_or_listed (λ i. same l.element (at l.left i) (at l.right i)) (indices l.rows) (indices l.others)
    ≡ all_or_listed (λ i. same l.element (at l.left i) (at l.right i)) (indices (drop l.index-index l.rows)) (indices l.others)
