use Rattle.std.proofs.Common.{◌≡◌, ◌++◌, ◌+◌, ◌*◌, drop, map}
use Rattle.std.specs.Option.{option_map}
use Rattle.uc_flat_expressions.specs.Expressions.{all_of}
use Rattle.uc_flat_code.specs.Code.{in_order, statement_of, each_arm, arm_of}
use Rattle.uc_flat_code.proofs.code.+flat_code.Given as goal

abbrev pub decreases-flat_code : goal.decreases-flat_code
decreases-flat_code l = 3 * goal.size-flat_code l + 1

abbrev pub decreases-flat_statement : goal.decreases-flat_statement
decreases-flat_statement l = 3 * goal.size-flat_statement l

abbrev pub decreases-flat_arms : goal.decreases-flat_arms
decreases-flat_arms l = 3 * goal.size-flat_arms l + 2

abbrev pub invariant-flat_code-loop-statement : goal.invariant-flat_code-loop-statement
invariant-flat_code-loop-statement l = in_order (map (statement_of l.names l.writing) l.code) ≡ option_map (λ xs. l.all ++ xs) (in_order (map (statement_of l.names l.writing) (drop l.statement-index l.code)))

abbrev pub invariant-flat_arms-loop-arm : goal.invariant-flat_arms-loop-arm
invariant-flat_arms-loop-arm l =
    all_of (map (arm_of l.names) (map (each_arm (statement_of l.names l.writing)) l.arms))
    ≡ option_map (λ xs. l.all ++ xs) (all_of (map (arm_of l.names) (map (each_arm (statement_of l.names l.writing)) (drop l.arm-index l.arms))))
