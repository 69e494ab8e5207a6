use Rattle.std.proofs.Common.{◌≡◌, take}
use Rattle.uc_module_writes.proofs.stepping.copies.Given as goal

abbrev pub invariant-loop-part : goal.invariant-loop-part
invariant-loop-part l = l.copies ≡ take l.part-index l.parts
