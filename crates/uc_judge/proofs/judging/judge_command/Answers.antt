use Rattle.uc_judge.proofs.Joined.{none_judged}
use Rattle.uc_judge.proofs.judging.judge_command.Goals as goal
