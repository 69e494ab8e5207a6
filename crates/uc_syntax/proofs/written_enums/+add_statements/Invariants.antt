use Rattle.std.specs.List.{flat_map}
use Rattle.uc_syntax.specs.Labels.{stmt_labels}
use Rattle.uc_syntax.proofs.Added.{AddedUpTo}
use Rattle.uc_syntax.proofs.written_enums.+add_statements.Given as goal

abbrev pub invariant-add_block-loop-statement : goal.invariant-add_block-loop-statement
invariant-add_block-loop-statement l = AddedUpTo stmt_labels l.block l.initial.enums l.statement-index l.enums

abbrev pub invariant-add_arms-loop-arm : goal.invariant-add_arms-loop-arm
invariant-add_arms-loop-arm l = AddedUpTo (λ a. flat_map stmt_labels a.body) l.arms l.initial.enums l.arm-index l.enums

abbrev pub invariant-add_arms-loop-statement : goal.invariant-add_arms-loop-statement
invariant-add_arms-loop-statement l = AddedUpTo stmt_labels l.block l.initial.enums l.statement-index l.enums
