use Rattle.std.proofs.Common.{◌≤◌, length, sym, subst}
use Rattle.uc_judge.proofs.Listed.{followed_within, followed_begin, followed_more, followed_end}
use Rattle.uc_judge.proofs.commands.count_followed.Goals as goal

pub loop-number-init : goal.loop-number-init
loop-number-init c = followed_begin c.args.commands.now

pub loop-number-preserved : goal.loop-number-preserved
loop-number-preserved c =
    followed_more c.args.commands.now c.loop-number.number c.index-commands-number.result c.loop-number.count c.last_check-count.result c.loop-number.invariant c.loop-number-test.true c.index-commands-number.is c.last_check-count.ensures

pub returns-clause-count : goal.returns-clause-count
returns-clause-count c = followed_end c.args.commands.now c.loop-number.number c.loop-number.count c.loop-number-test.false c.loop-number.invariant

pub returns-clause-within : goal.returns-clause-within
returns-clause-within c =
    subst (λ n. n ≤ length c.args.commands.now) (sym (followed_end c.args.commands.now c.loop-number.number c.loop-number.count c.loop-number-test.false c.loop-number.invariant)) (followed_within c.args.commands.now)
