use Rattle.std.proofs.Common.{◌≡◌, drop}
use Rattle.uc_flat_expressions.specs.Expressions.{select_all_of}
use Rattle.uc_flat_expressions.proofs.walking.select_all.Given as goal

abbrev pub invariant-loop-selection : goal.invariant-loop-selection
invariant-loop-selection l = select_all_of l.now (drop l.selection-index l.selections) ≡ select_all_of l.fn.whole l.selections
