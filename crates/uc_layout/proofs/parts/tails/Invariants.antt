use Rattle.std.proofs.Common.{◌≡◌, ◌++◌, drop}
use Rattle.uc_layout.specs.Kept.{lent, tails}
use Rattle.uc_layout.proofs.parts.tails.Given as goal

abbrev pub invariant-loop-fields : goal.invariant-loop-fields
invariant-loop-fields l = lent l.inside ++ tails l.name (lent (drop l.fields-index l.written)) ≡ tails l.name (lent l.written)
