use Rattle.std.proofs.lemmas.Int.{to_z-of_z}
use Rattle.std.specs.Int.{w128}
use mir.Val.{SFits}
use Rattle.std.proofs.Common.{rules}
use Rattle.uc_simplify.proofs.Standing.{Grows-trans}
use Rattle.uc_simplify.proofs.Gathered.{addends_more}
use Rattle.uc_simplify.proofs.linear.addends.Goals as goal

pub returns-clause-adding : goal.returns-clause-adding
returns-clause-adding c =
    let fits : SFits w128 c.args.constant = c.ranges.constant in
    let n = simp to_z-of_z at c.in_ok-last.ensures.number in
    addends_more c.args.terms.now c.multiples.new.terms c.number.new.terms c.in_ok-parts.parts.items c.push.new.self.items c.args.pairs.now c.args.constant c.in_ok-last.last c.in_ok-parts.ensures.adding c.number.ensures.well c.number.ensures.grown n (search rules)

pub returns-in_err-last-clause-grown : goal.returns-in_err-last-clause-grown
returns-in_err-last-clause-grown c = Grows-trans _ _ _ c.multiples.ensures.grown c.number.ensures.grown

pub returns-in_err-push-clause-grown : goal.returns-in_err-push-clause-grown
returns-in_err-push-clause-grown c = Grows-trans _ _ _ c.multiples.ensures.grown c.number.ensures.grown

pub returns-clause-grown : goal.returns-clause-grown
returns-clause-grown c = Grows-trans _ _ _ c.multiples.ensures.grown c.number.ensures.grown
