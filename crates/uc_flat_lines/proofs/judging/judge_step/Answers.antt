use Rattle.uc_symstep.proofs.Grown.{grows_on}
use Rattle.uc_obligations.proofs.Unrollings.{unrolled_grows}
use Rattle.uc_flat_lines.proofs.judging.judge_step.Goals as goal

pub judge_each-requires-clause-unrolled : goal.judge_each-requires-clause-unrolled
judge_each-requires-clause-unrolled g c = unrolled_grows c.args.f.now _ _ c.args.steps c.args.run.now c.none_refuted.ensures.grown c.requires.unrolled

pub returns-then-none_refuted-clause-judged : goal.returns-then-none_refuted-clause-judged
returns-then-none_refuted-clause-judged g c = c.in_ok-lines.ensures c.args.run.now.start (c.none_refuted.ensures.unrefuted c.if-none_refuted.true) c.args.budget _

pub returns-clause-grown : goal.returns-clause-grown
returns-clause-grown g c = grows_on _ _ _ c.none_refuted.ensures.grown c.in_ok-lines-2.ensures.grown
