use Rattle.std.proofs.Common.{◌≡◌, drop}
use Rattle.uc_rules.specs.Rows.{all_suit}
use Rattle.uc_type_names.proofs.fit.all_suit.Given as goal

abbrev pub invariant-loop-k : goal.invariant-loop-k
invariant-loop-k l = all_suit (drop l.k l.asked) (drop l.k l.values) ≡ all_suit l.asked l.values
