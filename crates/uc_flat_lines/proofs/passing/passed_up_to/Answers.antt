use Rattle.std.proofs.Common.{◌≤◌, arith}
use Rattle.uc_flat_lines.proofs.Judged.{lines_begin, lines_more, lines_last}
use Rattle.uc_flat_lines.proofs.passing.passed_up_to.Goals as goal

pub loop-steps-init : goal.loop-steps-init
loop-steps-init c = λ start unrefuted budget at. lines_begin c.args.f.now start budget at _ c.new-lines.ensures

pub loop-steps-preserved : goal.loop-steps-preserved
loop-steps-preserved c = λ start unrefuted budget at.
    let within : c.loop-steps.steps ≤ c.args.depth = omega (arith, c.loop-steps-test.true) in
    lines_more c.args.f.now start budget at at at c.loop-steps.steps _ _ _ (c.loop-steps.invariant start unrefuted budget at) (c.in_ok-more.ensures start (unrefuted c.loop-steps.steps within) budget at) c.in_ok-append.ensures

pub returns : goal.returns
returns c = λ start unrefuted budget at.
    lines_last c.args.f.now start budget at at at c.args.depth c.loop-steps.steps _ _ _ (c.loop-steps.invariant start unrefuted budget at) (omega (arith, c.loop-steps.auto)) c.loop-steps-test.false
    (c.in_ok-last.ensures start (unrefuted c.args.depth (omega arith)) budget at) c.in_ok-append-2.ensures
