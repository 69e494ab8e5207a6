use Rattle.std.proofs.Common.{◌≡◌, drop}
use Rattle.uc_rules.specs.Same.{same_fields, tests}
use Rattle.uc_rules.proofs.same.+same.Given as goal

abbrev pub invariant-same_fields-loop-place : goal.invariant-same_fields-loop-place
invariant-same_fields-loop-place l = same_fields (tests l.fields) l.others ≡ same_fields (tests (drop l.place l.fields)) (drop l.place l.others)
