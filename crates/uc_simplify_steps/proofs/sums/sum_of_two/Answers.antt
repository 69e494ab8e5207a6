use Rattle.std.proofs.Common.{◌≡◌, refl, pos, inl, rules}
use Rattle.uc_simplify_steps.proofs.Integers.{first_known, second_known, opposite_right}
use Rattle.uc_simplify_steps.proofs.sums.sum_of_two.Goals as goal

pub returns-then-are_opposite : goal.returns-then-are_opposite
returns-then-are_opposite c = opposite_right c.args.terms.now c.args.a c.args.b (pos 0) c.integer.result (inl (c.if-are_opposite.ensures refl)) refl c.integer.ensures

pub returns-in-Some-eq0 : goal.returns-in-Some-eq0
returns-in-Some-eq0 c =
    let z : c.in-Some-eq0.field-0 ≡ pos 0 = search rules in
    first_known c.args.terms.now c.args.a c.args.b c.in-Some-eq0.field-0 c.len-count.ensures.well c.requires.left c.requires.suits c.in-Some-eq0.ensures z

pub returns-in-Some-eq0-number : goal.returns-in-Some-eq0-number
returns-in-Some-eq0-number c =
    let z : c.in-Some-eq0-number.field-0 ≡ pos 0 = search rules in
    second_known c.args.terms.now c.args.a c.args.b c.in-Some-eq0-number.field-0 c.len-count.ensures.well c.requires.right c.requires.suits c.in-Some-eq0-number.ensures z
