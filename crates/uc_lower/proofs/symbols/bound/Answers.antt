use Rattle.uc_lower.proofs.Standing.{last_suits, bound_suits, bound_is, bound_within}
use Rattle.uc_lower.proofs.symbols.bound.Goals as goal

pub made-requires-clause-suits : goal.made-requires-clause-suits
made-requires-clause-suits c = last_suits c.args.labels c.label_width-width.result c.from.result c.requires.some c.label_width-width.ensures.width c.label_width-width.ensures.high c.from.ensures

pub made-requires-2-clause-there : goal.made-requires-2-clause-there
made-requires-2-clause-there c = bound_within c.args.terms.now c.made.new.terms c.args.symbol c.in_ok-last.last c.label_width-width.result c.from.result c.requires.there c.in_ok-last.ensures.made

pub made-requires-2-clause-suits : goal.made-requires-2-clause-suits
made-requires-2-clause-suits c =
    bound_suits c.args.terms.now c.made.new.terms c.args.symbol c.in_ok-last.last c.label_width-width.result c.from.result c.args.labels c.made.ensures.grown c.requires.there c.requires.typed c.label_width-width.ensures.width c.in_ok-last.ensures.made

pub returns-clause-bound : goal.returns-clause-bound
returns-clause-bound c =
    bound_is c.args.terms.now c.made.new.terms c.made-2.new.terms c.args.symbol c.args.labels c.label_width-width.result c.from.result c.in_ok-last.last c.in_ok-bound.bound c.requires.well c.requires.there c.from.ensures c.in_ok-last.ensures.made c.in_ok-bound.ensures.made
