use Rattle.std.proofs.Common.{sym, ◌∙◌, Some, None}
use Rattle.uc_ops.specs.Differences.{listed_in}
use Rattle.uc_ops.proofs.Differing.{first_difference-append}
use Rattle.uc_ops.proofs.difference.listed_difference.Goals as goal

pub returns-in-Some : goal.returns-in-Some
returns-in-Some c =
    let e = rw c.rows.ensures at c.in-Some.ensures in
    sym (first_difference-append c.args.element.now c.args.left.now c.args.right.now (listed_in c.args.left.now) (listed_in c.args.right.now) (Some c.in-Some.at.now) e)

pub returns-in-None : goal.returns-in-None
returns-in-None c =
    let e = rw c.rows.ensures at c.in-None.ensures in
    rw c.rows-in-None.ensures at c.first_difference-in-None.ensures
    ∙ sym (first_difference-append c.args.element.now c.args.left.now c.args.right.now (listed_in c.args.left.now) (listed_in c.args.right.now) None e)
