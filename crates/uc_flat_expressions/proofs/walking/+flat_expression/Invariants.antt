use Rattle.std.proofs.Common.{◌≡◌, ◌++◌, drop, map}
use Rattle.std.specs.Option.{option_map}
use Rattle.uc_flat_expressions.specs.Expressions.{all_of, arm_of, flat_of}
use Rattle.uc_flat_expressions.proofs.walking.+flat_expression.Given as goal

abbrev pub invariant-flat_all-loop-e : goal.invariant-flat_all-loop-e
invariant-flat_all-loop-e l = all_of (map (flat_of l.names) l.es) ≡ option_map (λ xs. l.all ++ xs) (all_of (map (flat_of l.names) (drop l.e-index l.es)))

abbrev pub invariant-flat_arms-loop-branch : goal.invariant-flat_arms-loop-branch
invariant-flat_arms-loop-branch l = all_of (map (arm_of (flat_of l.names)) l.branches) ≡ option_map (λ xs. l.arms ++ xs) (all_of (map (arm_of (flat_of l.names)) (drop l.branch-index l.branches)))
