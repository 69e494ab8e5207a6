use Rattle.std.proofs.Common.{◌≡◌, ◌++◌, drop, map}
use Rattle.std.specs.Option.{option_map}
use Rattle.uc_flat_expressions.specs.Expressions.{all_of}
use Rattle.uc_flat_order.specs.Uses.{use_of}
use Rattle.uc_flat_order.proofs.uses.uses_of.Given as goal

abbrev pub invariant-loop-statement : goal.invariant-loop-statement
invariant-loop-statement l = all_of (map (use_of l.names l.first) l.code) ≡ option_map (λ xs. l.all ++ xs) (all_of (map (use_of l.names l.first) (drop l.statement-index l.code)))
