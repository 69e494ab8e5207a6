use Rattle.std.proofs.Common.{◌≡◌, ◌++◌, map, take}
use Rattle.uc_checks.proofs.calling.add_names.Given as goal

abbrev pub invariant-loop-identifier : goal.invariant-loop-identifier
invariant-loop-identifier l = l.names ≡ l.fn.names ++ map (λ i. i.name) (take l.identifier-index l.identifiers)
