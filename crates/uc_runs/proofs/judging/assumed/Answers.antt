use Rattle.std.proofs.Common.{◌≡◌, true, false, rules}
use Rattle.uc_runs.proofs.Sites.{assumes_true, assumes_false}
use Rattle.uc_runs.proofs.judging.assumed.Goals as goal

pub returns-then-holds-clause-value : goal.returns-then-holds-clause-value
returns-then-holds-clause-value c =
    let here : c.in_ok-holds.holds ≡ true = search rules in
    assumes_true c.args.layout.now c.args.run c.args.formula.now c.in_ok-holds.holds c.in_ok-holds.ensures.value here

pub returns-else-holds-clause-value : goal.returns-else-holds-clause-value
returns-else-holds-clause-value c =
    let here : c.in_ok-holds.holds ≡ false = search rules in
    assumes_false c.args.layout.now c.args.run c.args.formula.now c.in_ok-holds.holds c.in_ok-holds.ensures.value here
