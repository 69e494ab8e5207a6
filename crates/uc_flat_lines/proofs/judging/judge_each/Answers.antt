use Rattle.std.proofs.Common.{arith, refl}
use Rattle.uc_symstep.proofs.Grown.{grows_not, grows_on}
use Rattle.uc_obligations.proofs.Unrollings.{unrolled_grows}
use Rattle.uc_flat_lines.proofs.Judged.{step_begin, step_more, step_end}
use Rattle.uc_flat_lines.proofs.judging.judge_each.Goals as goal

pub loop-k-init : goal.loop-k-init
loop-k-init g c = (grows_not _ _ refl, step_begin c.args.f.now c.args.run.now.start c.args.budget _ c.args.steps _ c.new-lines.ensures)

pub judge_formula-requires-clause-unrolled : goal.judge_formula-requires-clause-unrolled
judge_formula-requires-clause-unrolled g c = unrolled_grows c.args.f.now _ _ c.args.steps _ c.loop-k.invariant.0 c.requires.unrolled

pub loop-k-preserved : goal.loop-k-preserved
loop-k-preserved g c = (
  grows_on _ _ _ c.loop-k.invariant.0 c.in_ok-more.ensures.grown,
  step_more c.args.f.now c.args.run.now.start c.args.budget _ _ _ c.args.steps c.loop-k.k _ _ _ c.loop-k.invariant.1 c.in_ok-more.ensures.judged c.in_ok-append.ensures,
)

pub returns-clause-judged : goal.returns-clause-judged
returns-clause-judged g c =
    step_end c.args.f.now c.args.run.now.start c.args.budget _ _ c.args.steps c.loop-k.k _ c.loop-k.invariant.1 (omega (arith, c.loop-k.auto, c.len-count.ensures)) (omega (arith, c.loop-k-test.false, c.len-count.ensures))
