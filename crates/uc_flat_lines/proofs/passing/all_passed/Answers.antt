use Rattle.std.proofs.Common.{◌<◌, length, arith}
use Rattle.uc_flat_lines.proofs.Judged.{step_begin, step_more, step_end}
use Rattle.uc_flat_lines.proofs.passing.all_passed.Goals as goal

pub loop-k-init : goal.loop-k-init
loop-k-init c = λ start unrefuted budget at. step_begin c.args.f.now start budget at c.args.steps _ c.new-lines.ensures

pub loop-k-preserved : goal.loop-k-preserved
loop-k-preserved c = λ start unrefuted budget at.
    let within : c.loop-k.k < length c.args.f.now.formulas = omega (arith, c.loop-k-test.true, c.len-count.ensures) in
    step_more c.args.f.now start budget at at at c.args.steps c.loop-k.k _ _ _ (c.loop-k.invariant start unrefuted budget at) (c.in_ok-more.ensures start (unrefuted c.loop-k.k within) budget at) c.in_ok-append.ensures

pub returns : goal.returns
returns c = λ start unrefuted budget at.
    step_end c.args.f.now start budget at at c.args.steps c.loop-k.k _ (c.loop-k.invariant start unrefuted budget at) (omega (arith, c.loop-k.auto, c.len-count.ensures)) (omega (arith, c.loop-k-test.false, c.len-count.ensures))
