use Rattle.std.proofs.Common.{take}
use Rattle.uc_uses.specs.Entering.{Enters}
use Rattle.uc_uses.specs.Sources.{bound_source}
use Rattle.uc_uses.specs.declared.uses.UseKind.TheVariants.{Input}
use Rattle.uc_uses.proofs.entering.bound_uses.Given as goal

abbrev pub invariant-loop-binding : goal.invariant-loop-binding
invariant-loop-binding l = Enters Input l.node l.fn.uses (bound_source l.inputs l.above (take l.binding-index l.bindings)) l.table l.uses
