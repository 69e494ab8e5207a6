use Rattle.std.proofs.Common.{◌≡◌, rules}
use Rattle.uc_simplify_steps.proofs.Booleans.{same_known}
use Rattle.uc_simplify_steps.proofs.truths.unchosen.Goals as goal

pub returns-then-eq : goal.returns-then-eq
returns-then-eq c =
    let e : c.args.then ≡ c.args.other = search rules in
    same_known c.args.terms.now c.args.condition c.args.then c.args.other c.requires.taken e
