use Rattle.std.proofs.Common.{◌≡◌, ◌++◌, drop, length}
use Rattle.std.specs.Option.{option_map}
use Rattle.uc_flat_code.specs.Code.{assign_of, in_order, each_assigned}
use Rattle.uc_flat_code.proofs.simple.assign.Given as goal

abbrev pub invariant-loop-k : goal.invariant-loop-k
invariant-loop-k l =
    (length l.targets ≡ length l.sources)
    × (assign_of l.names l.writing l.targets l.sources ≡ option_map (λ xs. l.all ++ xs) (in_order (each_assigned l.names l.writing l.before (drop l.k l.targets) (drop l.k l.sources))))
