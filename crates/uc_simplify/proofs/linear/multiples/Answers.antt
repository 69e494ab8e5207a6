use Rattle.std.proofs.Common.{pos, get_or, rules, arith, subst, ap, ◌∙◌}
use Rattle.std.proofs.lemmas.Int.{to_z-of_z}
use Rattle.std.proofs.lemmas.List.{get_or_default}
use Rattle.std.specs.Int.{w128}
use mir.Val.{SFits}
use Rattle.uc_linear.specs.Linear.{Pair}
use Rattle.uc_ops.specs.Typing.{type_at}
use Rattle.uc_simplify.specs.Integers.{IsTimes}
use Rattle.uc_simplify.proofs.Standing.{Grows-trans}
use Rattle.uc_simplify.proofs.Gathered.{Adding-start, multiples_next, multiples_end, variable_there}
use Rattle.uc_simplify.proofs.linear.multiples.Goals as goal

pub times-requires-clause-there : goal.times-requires-clause-there
times-requires-clause-there c =
    let x : Pair = get_or c.args.pairs.now c.loop-place.place (0, pos 0) in
    let r = variable_there c.args.terms.now c.loop-place.terms c.args.pairs.now c.loop-place.place x c.loop-place.invariant.grown c.requires.integers c.loop-place-test.true (get_or_default c.args.pairs.now c.loop-place.place (0, pos 0) x c.loop-place-test.true) in
    omega (arith, r.0, c.new.ensures)

pub times-requires-clause-integer : goal.times-requires-clause-integer
times-requires-clause-integer c =
    let x : Pair = get_or c.args.pairs.now c.loop-place.place (0, pos 0) in
    let r = variable_there c.args.terms.now c.loop-place.terms c.args.pairs.now c.loop-place.place x c.loop-place.invariant.grown c.requires.integers c.loop-place-test.true (get_or_default c.args.pairs.now c.loop-place.place (0, pos 0) x c.loop-place-test.true) in
    ap (type_at c.loop-place.terms) c.new.ensures ∙ r.1

pub loop-place-init : goal.loop-place-init
loop-place-init c = Adding-start c.args.terms.now c.new-parts.result.items c.args.pairs.now c.len-count.ensures.well c.new-parts.ensures.items

pub loop-place-preserved : goal.loop-place-preserved
loop-place-preserved c =
    let x : Pair = get_or c.args.pairs.now c.loop-place.place (0, pos 0) in
    let fits : SFits w128 x.1 = search rules in
    let t = simp to_z-of_z at c.in_ok-part.ensures.times in
    multiples_next c.args.terms.now c.loop-place.terms c.times.new.terms c.loop-place.parts.items c.push.new.self.items c.args.pairs.now c.loop-place.place c.in_ok-part.part x c.len-count.ensures.well c.requires.integers c.loop-place-test.true
    (get_or_default c.args.pairs.now c.loop-place.place (0, pos 0) x c.loop-place-test.true) c.loop-place.invariant c.times.ensures.well c.times.ensures.grown (subst (IsTimes c.times.new.terms c.in_ok-part.part c.loop-place.terms x.1) c.new.ensures t) (search rules)

pub returns-clause-adding : goal.returns-clause-adding
returns-clause-adding c =
    multiples_end c.args.terms.now c.loop-place.terms c.loop-place.parts.items c.args.pairs.now c.loop-place.place (omega (arith, c.loop-place-test.false)) c.loop-place.invariant

pub returns-in_err-part-clause-grown : goal.returns-in_err-part-clause-grown
returns-in_err-part-clause-grown c = Grows-trans _ _ _ c.loop-place.invariant.grown c.times.ensures.grown

pub returns-in_err-push-clause-grown : goal.returns-in_err-push-clause-grown
returns-in_err-push-clause-grown c = Grows-trans _ _ _ c.loop-place.invariant.grown c.times.ensures.grown

pub returns-clause-grown : goal.returns-clause-grown
returns-clause-grown c = c.loop-place.invariant.grown
