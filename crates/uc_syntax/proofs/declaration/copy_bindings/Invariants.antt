use Rattle.std.proofs.Common.{◌≡◌, take}
use Rattle.uc_syntax.proofs.declaration.copy_bindings.Given as goal

abbrev pub invariant-loop-binding : goal.invariant-loop-binding
invariant-loop-binding l = l.copies ≡ take l.binding-index l.bindings
