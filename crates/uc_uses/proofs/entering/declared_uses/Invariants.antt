use Rattle.std.proofs.Common.{take}
use Rattle.uc_uses.specs.Entering.{Enters}
use Rattle.uc_uses.specs.Sources.{declared_source}
use Rattle.uc_uses.proofs.entering.declared_uses.Given as goal

abbrev pub invariant-loop-declaration : goal.invariant-loop-declaration
invariant-loop-declaration l = Enters l.kind l.node l.fn.uses (declared_source l.kind l.node (take l.declaration-index l.declarations)) l.table l.uses
