use Rattle.uc_simplify_steps.proofs.Twos.{constants_right}
use Rattle.uc_simplify_steps.proofs.pairs.compared_constants.Goals as goal

pub returns : goal.returns
returns c =
    constants_right c.args.terms.now c.args.a c.args.b c.in-Some.left.now c.in-Some-constant.right.now c.same_scalar.result c.boolean.result c.in-Some.ensures c.in-Some-constant.ensures c.same_scalar.ensures c.boolean.ensures
