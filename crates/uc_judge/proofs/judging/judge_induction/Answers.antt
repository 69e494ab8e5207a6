use Rattle.std.proofs.Common.{arith}
use Rattle.uc_judge.proofs.Lined.{induction_judged}
use Rattle.uc_judge.proofs.judging.judge_induction.Goals as goal

pub returns-clause-judged : goal.returns-clause-judged
returns-clause-judged g c =
    induction_judged c.args.d.now c.args.number c.args.budget _ _ _ c.args.depth _ _ _ _ (omega (arith, c.requires.linked)) c.in_ok-lines.ensures.judged c.in_ok-step.ensures.judged c.in_ok-append.ensures
