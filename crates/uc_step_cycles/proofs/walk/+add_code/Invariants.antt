use Rattle.uc_step_cycles.proofs.WritingStatementsAdding.{ArmsUpTo, CodeUpTo}
use Rattle.uc_step_cycles.proofs.walk.+add_code.Given as goal

abbrev pub invariant-add_code-loop-statement : goal.invariant-add_code-loop-statement
invariant-add_code-loop-statement l = CodeUpTo l.procedures.named l.fn.acts l.around l.code l.statement-index l.acts

abbrev pub invariant-add_arms-loop-arm : goal.invariant-add_arms-loop-arm
invariant-add_arms-loop-arm l = ArmsUpTo l.procedures.named l.fn.acts l.around l.arms l.arm-index l.last l.acts

abbrev pub invariant-add_arms-loop-statement : goal.invariant-add_arms-loop-statement
invariant-add_arms-loop-statement l = CodeUpTo l.procedures.named l.initial.acts l.last l.block l.statement-index l.acts
