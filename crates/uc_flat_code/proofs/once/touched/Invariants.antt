use Rattle.std.proofs.Common.{◌≡◌, drop}
use Rattle.uc_flat_code.specs.Once.{touched}
use Rattle.uc_flat_code.proofs.once.touched.Given as goal

abbrev pub invariant-loop-one : goal.invariant-loop-one
invariant-loop-one l = touched (drop l.one-index l.parts) l.part ≡ touched l.parts l.part
