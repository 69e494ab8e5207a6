use Rattle.uc_simplify.proofs.Sides.{turned_called}
use Rattle.uc_simplify.proofs.linear.turned.Goals as goal

pub returns-clause-rebuilt : goal.returns-clause-rebuilt
returns-clause-rebuilt c =
    turned_called c.compared.new.terms c.args.terms.now c.args.a c.args.b c.compared.result c.len-count.ensures.well c.requires.left c.requires.right c.requires.left_integer c.requires.right_integer c.compared.ensures.rebuilt
