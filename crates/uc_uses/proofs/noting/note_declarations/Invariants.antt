use Rattle.std.proofs.Common.{◌≡◌, take}
use Rattle.std.specs.List.{flat_map}
use Rattle.uc_rules.specs.Faults.{first_of}
use Rattle.uc_uses.specs.Noted.{noted}
use Rattle.uc_uses.proofs.noting.note_declarations.Given as goal

abbrev pub invariant-loop-declaration : goal.invariant-loop-declaration
invariant-loop-declaration l = l.first ≡ first_of l.fn.first (flat_map (noted l.root.tree l.root.table l.flags l.node) (take l.declaration-index l.declarations))
