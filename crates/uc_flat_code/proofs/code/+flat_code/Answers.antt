use Rattle.std.proofs.Common.{rules, subst, ◌≡◌, Some}
use Rattle.uc_flat_expressions.specs.Answers.{IsAnswer}
use Rattle.uc_flat_code.specs.Code.{code_of}
use Rattle.uc_flat_code.proofs.Arms.{next_arm}
use Rattle.uc_flat_code.proofs.code.+flat_code.Goals as goal

pub flat_arms-loop-arm-preserved : goal.flat_arms-loop-arm-preserved
flat_arms-loop-arm-preserved t c =
    let body : code_of c.args.names.now c.args.writing c.as_slice.result.now ≡ Some c.in_ok-test-3.body = subst (IsAnswer (code_of c.args.names.now c.args.writing c.as_slice.result.now)) c.in_ok-test-3.ensures.1 c.flat_code-body.ensures in
    let own : code_of c.args.names.now c.args.writing c.arm-item.result.body ≡ Some c.in_ok-test-3.body = subst (λ b. code_of c.args.names.now c.args.writing b ≡ Some c.in_ok-test-3.body) c.as_slice.ensures body in
    next_arm c.args.names.now c.args.writing c.args.arms.now c.loop-arm.arm-index c.arm-item.result c.loop-arm.all c.push.new.self c.in_ok-test.test c.in_ok-test-3.test c.is_boolean.result c.in_ok-test-3.body c.loop-arm-test.true c.arm-item.is
    (search rules) c.is_boolean.ensures (search rules) own c.in_ok-push.ensures.ok c.loop-arm.invariant
