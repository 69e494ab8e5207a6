use Rattle.std.proofs.Common.{◌≡◌, ◌∙◌, rules, true, false, length, ◌+◌, ◌<◌, arith, sym}
use Rattle.uc_meaning.specs.Operators.{implied}
use Rattle.uc_operators.proofs.Chains.{implied_last, implied_false, implied_more, implied_end}
use Rattle.uc_operators.proofs.truth.implied.Goals as goal

pub returns-then-place-values : goal.returns-then-place-values
returns-then-place-values c =
    c.holds.ensures
    ∙ implied_last c.args.values.now c.loop-place.place c.index-values-place.result c.index-values-place.result (implied c.args.values.now) c.loop-place-test.true c.index-values-place.is c.if-place-values.true c.loop-place.invariant

pub returns-then-not-holds : goal.returns-then-not-holds
returns-then-not-holds c =
    let no : c.holds-in-loop-place.result ≡ false = search rules in
    let more : c.loop-place.place + 1 < length c.args.values.now = omega (arith, c.loop-place-test.true, c.if-place-values.false) in
    implied_false c.args.values.now c.loop-place.place c.index-values-place.result c.index-values-place.result (implied c.args.values.now) more c.index-values-place.is (sym c.holds-in-loop-place.ensures ∙ no) c.loop-place.invariant

pub loop-place-preserved : goal.loop-place-preserved
loop-place-preserved c =
    let yes : c.holds-in-loop-place.result ≡ true = search rules in
    let more : c.loop-place.place + 1 < length c.args.values.now = omega (arith, c.loop-place-test.true, c.if-place-values.false) in
    implied_more c.args.values.now c.loop-place.place c.index-values-place.result c.index-values-place.result (implied c.args.values.now) more c.index-values-place.is (sym c.holds-in-loop-place.ensures ∙ yes) c.loop-place.invariant

pub returns : goal.returns
returns c = implied_end c.args.values.now c.loop-place.place (implied c.args.values.now) c.loop-place-test.false c.loop-place.invariant
