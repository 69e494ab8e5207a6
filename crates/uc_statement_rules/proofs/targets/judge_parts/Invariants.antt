use Rattle.uc_statement_rules.proofs.Parts.{PartsFrom}
use Rattle.uc_statement_rules.proofs.targets.judge_parts.Given as goal

abbrev pub invariant-loop-part : goal.invariant-loop-part
invariant-loop-part l = PartsFrom l.scope l.fn.start l.parts l.fn.first l.part-index l.ty l.first
