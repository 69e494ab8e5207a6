use Rattle.std.proofs.lemmas.Int.{to_z-of_z}
use Rattle.std.specs.Int.{w128}
use mir.Val.{SFits}
use Rattle.uc_simplify.proofs.Gathered.{times_called}
use Rattle.uc_simplify.proofs.linear.times.Goals as goal

pub returns-clause-times : goal.returns-clause-times
returns-clause-times c =
    let fits : SFits w128 c.args.factor = c.ranges.factor in
    let s = simp to_z-of_z at c.put.ensures.rebuilt in
    times_called c.put.new.terms c.args.terms.now c.args.variable c.in_ok-alone.alone c.args.factor c.put.result c.in_ok-alone.ensures s
