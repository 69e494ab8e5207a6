use Rattle.std.proofs.Common.{◌≡◌, ◌++◌, take}
use Rattle.uc_report.specs.Named.{named_in_block, named_in_arms}
use Rattle.uc_report.proofs.named.+named.Given as goal

abbrev pub invariant-add_named-loop-statement : goal.invariant-add_named-loop-statement
invariant-add_named-loop-statement l = l.named.items ≡ l.initial.named.items ++ named_in_block (take l.statement-index l.block)

abbrev pub invariant-add_named_in-loop-arm : goal.invariant-add_named_in-loop-arm
invariant-add_named_in-loop-arm l = l.named.items ≡ l.initial.named.items ++ named_in_arms (take l.arm-index l.arm-items)
