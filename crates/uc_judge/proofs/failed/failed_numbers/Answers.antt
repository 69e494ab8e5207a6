use Rattle.std.proofs.Common.{arith, sym, ap, ◌∙◌, ◌++◌}
use Rattle.std.specs.List.{flat_map}
use Rattle.uc_meaning.specs.Lines.{numbered}
use Rattle.uc_judge.specs.Prints.{failed_at}
use Rattle.uc_judge.proofs.Numbered.{numbered_more, numbered_end}
use Rattle.uc_judge.proofs.Printed.{failed_one_by_one}
use Rattle.uc_judge.proofs.failed.failed_numbers.Goals as goal

pub loop-number-init : goal.loop-number-init
loop-number-init c = ap (λ ns. ns ++ flat_map (failed_at c.args.wanted) (numbered 0 c.args.lines.now)) c.new-numbers.ensures ∙ sym (failed_one_by_one c.args.wanted c.args.lines.now)

pub loop-number-preserved : goal.loop-number-preserved
loop-number-preserved c =
    numbered_more (failed_at c.args.wanted) c.args.lines.now c.loop-number.number c.index-lines-number.result c.loop-number.numbers c.add_failed.new.numbers _
    (omega (arith, c.loop-number-test.true, c.in_ok-count.ensures)) c.index-lines-number.is c.loop-number.invariant c.in_ok-add_failed.ensures

pub returns : goal.returns
returns c = numbered_end (failed_at c.args.wanted) c.args.lines.now c.loop-number.number c.loop-number.numbers _ (omega (arith, c.loop-number-test.false, c.in_ok-count.ensures)) c.loop-number.invariant
