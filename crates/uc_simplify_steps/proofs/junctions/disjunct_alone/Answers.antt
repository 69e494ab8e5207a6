use Rattle.uc_simplify_steps.proofs.Joins.{alone_any}
use Rattle.uc_simplify_steps.proofs.junctions.disjunct_alone.Goals as goal

pub returns : goal.returns
returns c = alone_any c.args.terms.now c.args.a c.len-count.ensures.well c.requires.there c.requires.suits
