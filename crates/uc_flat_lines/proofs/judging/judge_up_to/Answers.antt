use Rattle.uc_flat_copies.specs.declared.trace.Start.TheVariants.{Initially}
use Rattle.uc_flat_lines.proofs.judging.judge_up_to.Goals as goal

pub returns-then-none_refuted_up_to-clause-judged : goal.returns-then-none_refuted_up_to-clause-judged
returns-then-none_refuted_up_to-clause-judged g c = c.in_ok-lines.ensures Initially (c.none_refuted_up_to.ensures c.if-none_refuted_up_to.true) c.args.budget _
