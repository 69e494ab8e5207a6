use Rattle.std.proofs.Common.{◌≡◌, ◌+◌, rules}
use Rattle.uc_simplify_steps.proofs.Combined.{signs_twice_found}
use Rattle.uc_simplify_steps.proofs.extracts.with_signs.Goals as goal

pub returns : goal.returns
returns c =
    let all : c.in_ok-all.all ≡ c.in-SignExt.own + c.args.more = search rules in
    signs_twice_found c.args.width c.args.more c.in-SignExt.own c.in_ok-all.all c.args.inner.now c.in-SignExt.is all
