use Rattle.std.proofs.Common.{◌≡◌, take}
use Rattle.uc_syntax.proofs.declaration.copy_declarations.Given as goal

abbrev pub invariant-loop-declaration : goal.invariant-loop-declaration
invariant-loop-declaration l = l.copies ≡ take l.declaration-index l.declarations
