use Rattle.std.proofs.Common.{◌≡◌, sym, rules}
use Rattle.uc_simplify_steps.proofs.Twos.{itself_right}
use Rattle.uc_simplify_steps.proofs.pairs.compared_to_itself.Goals as goal

pub returns-in-Some : goal.returns-in-Some
returns-in-Some c =
    let e : c.args.a ≡ c.args.b = search rules in
    itself_right c.args.terms.now c.args.op.now c.args.a c.args.b c.in-Some.truth c.boolean.result c.len-count.ensures.well c.requires.left e (sym c.in-Some.ensures) c.boolean.ensures
