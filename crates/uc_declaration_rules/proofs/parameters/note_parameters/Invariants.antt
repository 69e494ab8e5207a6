use Rattle.uc_declaration_rules.proofs.Becoming.{ParametersFrom}
use Rattle.uc_declaration_rules.proofs.parameters.note_parameters.Given as goal

abbrev pub invariant-loop-parameter : goal.invariant-loop-parameter
invariant-loop-parameter l = ParametersFrom l.fn.scope l.role l.parameters l.fn.first l.parameter-index l.scope l.first
