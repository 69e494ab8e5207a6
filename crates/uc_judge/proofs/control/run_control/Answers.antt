use Rattle.std.proofs.Common.{◌∙◌, ap}
use Rattle.uc_report.specs.Prints.{prints_of}
use Rattle.uc_judge.proofs.Listed.{counts_are}
use Rattle.uc_judge.proofs.Reported.{judged_report}
use Rattle.uc_judge.proofs.control.run_control.Goals as goal

pub prints_of-requires-clause-counts : goal.prints_of-requires-clause-counts
prints_of-requires-clause-counts g c =
    counts_are c.args.d.now c.commands_of-commands.result.now c.count_followed-count.result _ _ c.in_ok-judged.ensures.counts c.count_followed-count.ensures.count c.as_slice-2.ensures

pub returns-clause-report : goal.returns-clause-report
returns-clause-report g c =
    judged_report c.args.d.now c.args.budget _ _ c.count_followed-count.result c.commands_of-commands.result.now _ c.in_ok-prints.prints c.commands_of-commands.ensures.are c.count_followed-count.ensures.count
    c.in_ok-judged.ensures.judged (c.in_ok-prints.ensures ∙ ap (prints_of c.args.d.now) c.as_slice.ensures)
