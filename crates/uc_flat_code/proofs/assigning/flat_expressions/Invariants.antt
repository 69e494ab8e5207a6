use Rattle.std.proofs.Common.{◌≡◌, ◌++◌, drop, map}
use Rattle.std.specs.Option.{option_map}
use Rattle.uc_flat_expressions.specs.Expressions.{flat_of, all_of}
use Rattle.uc_flat_code.proofs.assigning.flat_expressions.Given as goal

abbrev pub invariant-loop-source : goal.invariant-loop-source
invariant-loop-source l = all_of (map (flat_of l.names) l.sources) ≡ option_map (λ xs. l.all ++ xs) (all_of (map (flat_of l.names) (drop l.source-index l.sources)))
