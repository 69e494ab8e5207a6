use Rattle.std.proofs.Common.{◌≡◌, take}
use Rattle.std.specs.List.{flat_map}
use Rattle.uc_rules.specs.Faults.{first_of}
use Rattle.uc_uses.specs.Noted.{noted_binding}
use Rattle.uc_uses.proofs.noting.note_bindings.Given as goal

abbrev pub invariant-loop-binding : goal.invariant-loop-binding
invariant-loop-binding l = l.first ≡ first_of l.fn.first (flat_map (noted_binding l.root.table l.flags l.below) (take l.binding-index l.bindings))
