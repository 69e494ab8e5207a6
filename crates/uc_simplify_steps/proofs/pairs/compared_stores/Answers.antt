use Rattle.std.proofs.Common.{rules}
use Rattle.uc_simplify_steps.proofs.Made.{stores_replace}
use Rattle.uc_simplify_steps.proofs.pairs.compared_stores.Goals as goal

pub returns : goal.returns
returns c =
    stores_replace c.args.terms.now c.args.a c.args.b _ _ _ _ _ _ c.in_ok-parts.parts c.len-count.ensures.well c.in-Some.ensures.applied c.in-Some-stored.ensures.applied (search rules) (search rules) c.in_ok-parts.ensures
