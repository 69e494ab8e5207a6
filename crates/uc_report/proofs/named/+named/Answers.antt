use Rattle.std.proofs.lemmas.Result.{on_ok_weaker}
use Rattle.uc_report.proofs.NamedForms.{named_arms_alone, named_arms_else}
use Rattle.uc_report.proofs.named.+named.Goals as goal

pub add_named_in-returns-in-None : goal.add_named_in-returns-in-None
add_named_in-returns-in-None t c =
    named_arms_alone c.args.statement.now c.in-If.arms c.as_slice-arm-items.result.now c.in-If.otherwise c.loop-arm.arm-index c.args.named.now.items c.loop-arm.named.items
    c.in-If.is c.as_slice-arm-items.ensures c.loop-arm-test.false c.in-None.is c.loop-arm.invariant

pub add_named_in-returns-in-Some : goal.add_named_in-returns-in-Some
add_named_in-returns-in-Some t c =
    on_ok_weaker c.add_named-in-Some.result
    (named_arms_else c.args.statement.now c.in-If.arms c.as_slice-arm-items.result.now c.in-If.otherwise c.in-Some.block c.as_slice-in-Some.result.now c.loop-arm.arm-index
    c.args.named.now.items c.loop-arm.named.items c.add_named-in-Some.new.named.items
    c.in-If.is c.as_slice-arm-items.ensures c.loop-arm-test.false c.in-Some.is c.as_slice-in-Some.ensures c.loop-arm.invariant)
    c.add_named-in-Some.ensures
