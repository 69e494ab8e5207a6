use Rattle.std.proofs.Common.{◌≡◌, map, take}
use Rattle.uc_type_names.proofs.lists.note_repeated_bindings.Given as goal

abbrev pub invariant-loop-binding : goal.invariant-loop-binding
invariant-loop-binding l = l.identifiers ≡ map (λ b. b.identifier) (take l.binding-index l.bindings)
