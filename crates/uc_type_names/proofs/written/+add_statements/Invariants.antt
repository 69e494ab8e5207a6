use Rattle.uc_type_names.specs.Lent.{lent, types_by, types_in_arm}
use Rattle.uc_syntax.proofs.Added.{AddedUpTo}
use Rattle.uc_type_names.proofs.written.+add_statements.Given as goal

abbrev pub invariant-add_block-loop-statement : goal.invariant-add_block-loop-statement
invariant-add_block-loop-statement l = AddedUpTo types_by l.block (lent l.initial.types) l.statement-index (lent l.types)

abbrev pub invariant-add_arms-loop-arm : goal.invariant-add_arms-loop-arm
invariant-add_arms-loop-arm l = AddedUpTo types_in_arm l.arms (lent l.initial.types) l.arm-index (lent l.types)

abbrev pub invariant-add_arms-loop-statement : goal.invariant-add_arms-loop-statement
invariant-add_arms-loop-statement l = AddedUpTo types_by l.block (lent l.initial.types) l.statement-index (lent l.types)
