use Rattle.uc_simplify_steps.proofs.Booleans.{turned_replaces}
use Rattle.uc_simplify_steps.proofs.truths.turned.Goals as goal

pub returns : goal.returns
returns c =
    turned_replaces c.args.terms.now c.args.condition c.in-Some.part c.args.then c.args.other c.in_ok-parts.parts c.requires.taken c.requires.other c.requires.suits c.in-Some.ensures c.in_ok-parts.ensures
