use Rattle.uc_judge.proofs.Lined.{unroll_told, induction_told, not_verified, few_steps, is_linked_run}
use Rattle.uc_judge.proofs.judging.judge_run.Goals as goal

pub steps_of-steps-requires : goal.steps_of-steps-requires
steps_of-steps-requires g c = few_steps c.args.run _ c.in-Unroll.is c.requires.judged

pub linked_by-linked-requires : goal.linked_by-linked-requires
linked_by-linked-requires g c = is_linked_run c.args.run _ c.in-Induction.is c.requires.judged

pub unreachable-requires : goal.unreachable-requires
unreachable-requires g c = not_verified c.args.run _ c.in-Verify.is c.requires.judged
