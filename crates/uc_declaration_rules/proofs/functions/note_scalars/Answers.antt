use Rattle.std.proofs.Common.{ap, ◌∙◌}
use Rattle.uc_rules.specs.Faults.{first_of}
use Rattle.uc_rules.specs.Types.{scalar_faults, type_of}
use Rattle.uc_statement_rules.proofs.Noted.{noted_begin, noted_end, noted_more}
use Rattle.uc_declaration_rules.proofs.functions.note_scalars.Goals as goal

pub loop-parameter-init : goal.loop-parameter-init
loop-parameter-init c = noted_begin _ c.args.parameters.now c.args.first.now

pub loop-parameter-preserved : goal.loop-parameter-preserved
loop-parameter-preserved c =
    noted_more (λ p. scalar_faults p.identifier.place (type_of c.args.scope.now.system c.args.scope.now.home p.ty)) c.args.parameters.now c.args.first.now c.loop-parameter.parameter-index c.loop-parameter.first c.note_scalar.new.first c.parameter-item.result c.parameter-item.result
    c.loop-parameter.invariant c.loop-parameter-test.true c.parameter-item.is (c.note_scalar.ensures ∙ ap (λ t. first_of c.loop-parameter.first (scalar_faults c.parameter-item.result.identifier.place t)) c.in_ok-ty.ensures)

pub returns : goal.returns
returns c = noted_end _ c.args.parameters.now c.args.first.now c.loop-parameter.parameter-index c.loop-parameter.first c.loop-parameter.invariant c.loop-parameter-test.false
