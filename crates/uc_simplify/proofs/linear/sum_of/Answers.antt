use Rattle.std.proofs.Common.{◌+ℤ◌}
use Rattle.std.proofs.lemmas.Int.{to_z-of_z}
use Rattle.std.specs.Int.{w128}
use mir.Val.{SFits}
use Rattle.uc_linear.specs.Linear.{sum_at}
use Rattle.uc_simplify.specs.Forms.{number_at}
use Rattle.uc_simplify.proofs.Gathered.{adding_suits, sum_called}
use Rattle.uc_simplify.proofs.linear.sum_of.Goals as goal

pub put-requires-clause-there : goal.put-requires-clause-there
put-requires-clause-there c = rw c.from_vec.ensures c.in_ok-parts.ensures.adding.there

pub put-requires-clause-suits : goal.put-requires-clause-suits
put-requires-clause-suits c = rw c.from_vec.ensures (adding_suits c.args.terms.now c.addends.new.terms c.in_ok-parts.parts.items c.args.pairs.now _ c.in_ok-parts.ensures.some c.in_ok-parts.ensures.adding)

pub returns-clause-sum : goal.returns-clause-sum
returns-clause-sum c =
    let fits : SFits w128 c.args.constant = c.ranges.constant in
    let a = simp to_z-of_z at c.in_ok-parts.ensures.adding in
    sum_called c.args.terms.now c.addends.new.terms c.put.new.terms c.in_ok-parts.parts.items c.from_vec.result c.args.pairs.now (λ m. c.args.constant +ℤ sum_at (number_at m c.args.terms.now) c.args.pairs.now) c.put.result a c.from_vec.ensures c.put.ensures.rebuilt
