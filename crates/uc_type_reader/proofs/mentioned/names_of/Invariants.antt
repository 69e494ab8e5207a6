use Rattle.std.proofs.Common.{◌≡◌, map, take}
use Rattle.uc_type_reader.proofs.mentioned.names_of.Given as goal

abbrev pub invariant-loop-label : goal.invariant-loop-label
invariant-loop-label l = l.names ≡ map (λ label. label.name) (take l.label-index l.labels)
