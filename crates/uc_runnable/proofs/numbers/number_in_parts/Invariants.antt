use Rattle.std.proofs.Common.{◌≡◌, drop}
use Rattle.uc_meaning.specs.Lookup.{first_some}
use Rattle.uc_runnable.specs.Outside.{number_in_part}
use Rattle.uc_runnable.proofs.numbers.number_in_parts.Given as goal

abbrev pub invariant-loop-part : goal.invariant-loop-part
invariant-loop-part l = first_some number_in_part (drop l.part-index l.parts) ≡ first_some number_in_part l.parts
