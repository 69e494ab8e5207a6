use Rattle.uc_flat_copies.specs.declared.trace.Start.TheVariants.{Anywhere}
use Rattle.uc_flat_lines.proofs.Judged.{begun_as}
use Rattle.uc_flat_lines.proofs.judging.judge_linked.Goals as goal

pub returns-clause-judged : goal.returns-clause-judged
returns-clause-judged g c = begun_as c.args.f.now _ Anywhere c.args.budget _ _ _ _ c.in_ok-run.ensures.start c.in_ok-lines.ensures.judged
