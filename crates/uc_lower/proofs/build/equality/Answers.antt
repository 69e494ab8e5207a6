use Rattle.std.proofs.Common.{◌≡◌, subst, arith, length}
use Rattle.uc_lower.specs.Steps.{IsConjunction}
use Rattle.uc_lower.proofs.Building.{equality_one, equality_all, one_item}
use Rattle.uc_lower.proofs.build.equality.Goals as goal

pub returns-then-len-eq1-clause-equality : goal.returns-then-len-eq1-clause-equality
returns-then-len-eq1-clause-equality c =
    let tests = c.in_ok-tests.tests.items in
    let one : length tests ≡ 1 = omega (arith, c.if-len-eq1.true, c.len.ensures, c.in_ok-tests.tests.ok.0) in
    equality_one c.args.terms.now c.tests.new.terms c.args.left.now c.args.right.now tests c.index.result.now c.in_ok-tests.ensures.tests c.requires.same (one_item tests c.index.result.now one c.index.ensures)

pub returns-clause-equality : goal.returns-clause-equality
returns-clause-equality c =
    equality_all c.args.terms.now c.tests.new.terms c.conjunction.new.terms c.args.left.now c.args.right.now c.in_ok-tests.tests.items c.in_ok-t.t c.in_ok-tests.ensures.tests c.requires.same
    (subst (λ ts. IsConjunction c.tests.new.terms c.conjunction.new.terms ts c.in_ok-t.t) c.as_slice.ensures.value c.in_ok-t.ensures.conjunction)
