use Rattle.uc_judge.proofs.Controls.{run_there}
use Rattle.uc_judge.proofs.Walked.{walked_begin, walked_more, walked_end}
use Rattle.uc_judge.proofs.walk.prints_of.Goals as goal

pub loop-number-init : goal.loop-number-init
loop-number-init c = walked_begin c.args.d.now c.args.lines.now c.args.commands.now _ c.requires.are c.new-prints.ensures

pub add_printed-requires-clause-runs : goal.add_printed-requires-clause-runs
add_printed-requires-clause-runs c = run_there c.args.commands.now c.loop-number.number c.index-commands-number.result c.requires.run c.loop-number-test.true c.index-commands-number.is

pub loop-number-preserved : goal.loop-number-preserved
loop-number-preserved c =
    walked_more c.args.d.now c.args.lines.now c.args.commands.now c.args.counts.now c.loop-number.number c.loop-number.checked.first c.loop-number.checked.end _ _ c.loop-number.prints _ c.index-commands-number.result c.requires.counts
    c.loop-number-test.true c.index-commands-number.is c.in_ok-add_printed.ensures c.checked_after-checked.ensures.first c.checked_after-checked.ensures.end c.loop-number.invariant

pub returns : goal.returns
returns c = walked_end c.args.d.now c.args.lines.now c.args.commands.now c.loop-number.number c.loop-number.checked.first c.loop-number.checked.end _ c.loop-number-test.false c.loop-number.invariant
