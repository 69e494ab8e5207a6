use Rattle.std.proofs.Common.{◌≡◌, ◌+◌, rules}
use Rattle.uc_simplify_steps.proofs.Combined.{zeros_twice_found}
use Rattle.uc_simplify_steps.proofs.extracts.with_zeros.Goals as goal

pub returns : goal.returns
returns c =
    let all : c.in_ok-all.all ≡ c.in-ZeroExt.own + c.args.more = search rules in
    zeros_twice_found c.args.width c.args.more c.in-ZeroExt.own c.in_ok-all.all c.args.inner.now c.in-ZeroExt.is all
