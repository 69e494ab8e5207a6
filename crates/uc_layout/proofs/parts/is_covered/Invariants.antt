use Rattle.std.proofs.Common.{◌≡◌, drop}
use Rattle.std.specs.List.{list_any}
use Rattle.uc_layout.specs.Kept.{lent, is_nil}
use Rattle.uc_layout.proofs.parts.is_covered.Given as goal

abbrev pub invariant-loop-fields : goal.invariant-loop-fields
invariant-loop-fields l = list_any is_nil (lent (drop l.fields-index l.written)) ≡ list_any is_nil (lent l.written)
