use Rattle.uc_declaration_rules.proofs.Becoming.{parameters_begin, parameters_end, parameters_more}
use Rattle.uc_declaration_rules.proofs.parameters.note_parameters.Goals as goal

pub loop-parameter-init : goal.loop-parameter-init
loop-parameter-init c = parameters_begin c.args.scope.now c.args.role c.args.parameters.now c.args.first.now

pub loop-parameter-preserved : goal.loop-parameter-preserved
loop-parameter-preserved c =
    parameters_more c.args.scope.now c.args.role c.args.parameters.now c.args.first.now c.loop-parameter.parameter-index c.loop-parameter.scope c.note_declared.new.scope c.loop-parameter.first c.note_type.new.first c.note_declared.new.first
    c.parameter-item.result c.parameter-item.result c.in_ok-ty.ty c.loop-parameter.invariant c.loop-parameter-test.true c.parameter-item.is c.in_ok-ty.ensures.ty c.in_ok-ty.ensures.faults c.in_ok-note_declared.ensures.faults c.in_ok-note_declared.ensures.scope

pub returns : goal.returns
returns c =
    parameters_end c.args.scope.now c.args.role c.args.parameters.now c.args.first.now c.loop-parameter.parameter-index c.loop-parameter.scope c.loop-parameter.first c.loop-parameter.invariant c.loop-parameter-test.false
