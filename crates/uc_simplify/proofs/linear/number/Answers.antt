use Rattle.std.proofs.lemmas.Int.{to_z-of_z}
use Rattle.std.specs.Int.{w128}
use mir.Val.{SFits}
use Rattle.uc_simplify.proofs.Gathered.{number_called}
use Rattle.uc_simplify.proofs.linear.number.Goals as goal

pub returns-clause-number : goal.returns-clause-number
returns-clause-number c =
    let fits : SFits w128 c.args.number = c.ranges.number in
    let s = simp to_z-of_z at c.put.ensures.rebuilt in
    number_called c.put.new.terms c.args.terms.now c.new.result c.args.number c.put.result c.new.ensures s
