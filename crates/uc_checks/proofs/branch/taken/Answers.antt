use Rattle.std.proofs.Common.{◌≡◌, ◌∙◌, Bool, List, true, false, sym, rules}
use Rattle.uc_syntax.specs.declared.statement.Stmt.{Stmt}
use Rattle.uc_readings.specs.Scopes.{scope_in}
use Rattle.uc_runs.proofs.Sites.{taken_end, conditions_end, taken_here, taken_later, conditions_told, conditions_here, conditions_later}
use Rattle.uc_checks.proofs.branch.taken.Goals as goal

pub returns-in_err-holds-clause-wide : goal.returns-in_err-holds-clause-wide
returns-in_err-holds-clause-wide c =
    let told = conditions_told c.args.layout.now (scope_in c.args.scope.now) c.args.arms.now c.args.otherwise.now c.loop-arm.arm-index c.arm-item.result c.loop-arm-test.true c.arm-item.is
    Bool (List Stmt) _ c.in_err-holds.field-0.0 c.loop-arm.invariant.wide c.in_err-holds.ensures.wide in
    search (rules, told)

pub returns-then-holds-clause-value : goal.returns-then-holds-clause-value
returns-then-holds-clause-value c =
    let here : c.in_ok-holds.holds ≡ true = search rules in
    c.as_slice.ensures
    ∙ taken_here c.args.layout.now (scope_in c.args.scope.now) c.args.arms.now c.args.otherwise.now c.loop-arm.arm-index c.arm-item.result c.loop-arm-test.true c.arm-item.is _ (sym here ∙ c.in_ok-holds.ensures.value) c.loop-arm.invariant.value

pub returns-then-holds-clause-wide : goal.returns-then-holds-clause-wide
returns-then-holds-clause-wide c =
    let here : c.in_ok-holds.holds ≡ true = search rules in
    conditions_here c.args.layout.now (scope_in c.args.scope.now) c.args.arms.now c.args.otherwise.now c.loop-arm.arm-index c.arm-item.result c.loop-arm-test.true c.arm-item.is _ (sym here ∙ c.in_ok-holds.ensures.value)
    c.in_ok-holds.ensures.wide c.loop-arm.invariant.wide

pub loop-arm-preserved : goal.loop-arm-preserved
loop-arm-preserved c =
    let here : c.in_ok-holds.holds ≡ false = search rules in
    record {
      value = taken_later c.args.layout.now (scope_in c.args.scope.now) c.args.arms.now c.args.otherwise.now c.loop-arm.arm-index c.arm-item.result c.loop-arm-test.true c.arm-item.is _ (sym here ∙ c.in_ok-holds.ensures.value) c.loop-arm.invariant.value;
      wide = conditions_later c.args.layout.now (scope_in c.args.scope.now) c.args.arms.now c.args.otherwise.now c.loop-arm.arm-index c.arm-item.result c.loop-arm-test.true c.arm-item.is _ (sym here ∙ c.in_ok-holds.ensures.value)
          c.in_ok-holds.ensures.wide c.loop-arm.invariant.wide;
    }

pub returns-clause-value : goal.returns-clause-value
returns-clause-value c = c.else_block.ensures ∙ taken_end c.args.layout.now (scope_in c.args.scope.now) c.args.arms.now c.args.otherwise.now c.loop-arm.arm-index _ c.loop-arm-test.false c.loop-arm.invariant.value

pub returns-clause-wide : goal.returns-clause-wide
returns-clause-wide c = conditions_end c.args.layout.now (scope_in c.args.scope.now) c.args.arms.now c.args.otherwise.now c.loop-arm.arm-index _ c.loop-arm-test.false c.loop-arm.invariant.wide
