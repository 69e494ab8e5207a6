use Rattle.uc_syntax.specs.declared.type_expression.Parameter.{Parameter}
use Rattle.uc_syntax.specs.declared.type_expression.TypeExpr.{TypeExpr}
use Rattle.uc_runs.proofs.RunFormsChoices.{declare_one, declare_all, declares_none, declares_next}
use Rattle.uc_runs.proofs.Loops.{runs_end, runs_more, runs_out}
use Rattle.uc_runs.proofs.choosing.declare_results.Goals as goal

pub loop-parameter-preserved : goal.loop-parameter-preserved
loop-parameter-preserved c =
    runs_more (declare_one c.args.layout.now c.args.code.now (λ (p : Parameter TypeExpr). (p.identifier.name, p.ty))) (declare_all c.args.layout.now c.args.code.now (λ (p : Parameter TypeExpr). (p.identifier.name, p.ty))) (declares_none c.args.layout.now c.args.code.now (λ (p : Parameter TypeExpr). (p.identifier.name, p.ty))) (declares_next c.args.layout.now c.args.code.now (λ (p : Parameter TypeExpr). (p.identifier.name, p.ty))) c.args.choices.now c.args.results.now c.loop-parameter.parameter-index c.loop-parameter.here c.parameter-item.result c.parameter-item.result c.loop-parameter-test.true c.parameter-item.is c.in_ok-end.end c.in_ok-end.ensures
    c.in-Goes.next _ c.in-Goes.is c.loop-parameter.invariant

pub returns-in_default : goal.returns-in_default
returns-in_default c =
    runs_out (declare_one c.args.layout.now c.args.code.now (λ (p : Parameter TypeExpr). (p.identifier.name, p.ty))) (declare_all c.args.layout.now c.args.code.now (λ (p : Parameter TypeExpr). (p.identifier.name, p.ty))) (declares_none c.args.layout.now c.args.code.now (λ (p : Parameter TypeExpr). (p.identifier.name, p.ty))) (declares_next c.args.layout.now c.args.code.now (λ (p : Parameter TypeExpr). (p.identifier.name, p.ty))) c.args.choices.now c.args.results.now c.loop-parameter.parameter-index c.loop-parameter.here c.parameter-item.result c.parameter-item.result c.loop-parameter-test.true c.parameter-item.is c.in_ok-end.end c.in_ok-end.ensures
    _ c.in_default.not-Goes c.loop-parameter.invariant

pub returns : goal.returns
returns c = runs_end (declare_one c.args.layout.now c.args.code.now (λ (p : Parameter TypeExpr). (p.identifier.name, p.ty))) (declare_all c.args.layout.now c.args.code.now (λ (p : Parameter TypeExpr). (p.identifier.name, p.ty))) (declares_none c.args.layout.now c.args.code.now (λ (p : Parameter TypeExpr). (p.identifier.name, p.ty))) (declares_next c.args.layout.now c.args.code.now (λ (p : Parameter TypeExpr). (p.identifier.name, p.ty))) c.args.choices.now c.args.results.now c.loop-parameter.parameter-index c.loop-parameter.here _ c.loop-parameter-test.false c.loop-parameter.invariant
