use Rattle.std.proofs.Common.{◌≡◌, ◌++◌, drop}
use Rattle.uc_meaning.specs.Steps.{fields_before}
use Rattle.uc_flat_code.proofs.once.fields_before.Given as goal

abbrev pub invariant-loop-part : goal.invariant-loop-part
invariant-loop-part l = l.fields ++ fields_before (drop l.part-index l.parts) ≡ fields_before l.parts
