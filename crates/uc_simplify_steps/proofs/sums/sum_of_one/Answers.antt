use Rattle.uc_simplify_steps.proofs.Integers.{alone_known}
use Rattle.uc_simplify_steps.proofs.sums.sum_of_one.Goals as goal

pub returns : goal.returns
returns c = alone_known c.args.terms.now c.args.a c.len-count.ensures.well c.requires.there c.requires.suits
