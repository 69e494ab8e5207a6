use Rattle.std.proofs.Common.{◌≡◌, ◌<◌, ◌≤◌, ◌-◌, [], ◌∷◌, refl, arith, rules}
use Rattle.uc_values.specs.declared.ty.Ty.TheVariants.{Bv}
use Rattle.uc_ops.specs.Typing.{type_at}
use Rattle.uc_simplify_steps.proofs.Singles.{left_replaces, right_replaces}
use Rattle.uc_simplify_steps.proofs.extracts.from_concatenation.Goals as goal

pub returns-then-high-width : goal.returns-then-high-width
returns-then-high-width c =
    let typed : type_at c.args.terms.now c.in-Some.right ≡ Bv c.in-Bv.width = search rules in
    let own : c.in_ok-parts.parts ≡ c.in-Some.right ∷ [] = search rules in
    right_replaces c.args.terms.now c.args.a c.in-Some.left c.in-Some.right c.in-Bv.width c.args.high c.args.low c.in_ok-parts.parts c.len-count.ensures.well c.in-Some.ensures'.applied c.requires.suits typed (omega arith) own

pub returns : goal.returns
returns c =
    let typed : type_at c.args.terms.now c.in-Some.right ≡ Bv c.in-Bv.width = search rules in
    let own : c.in_ok-parts-2.parts ≡ c.in-Some.left ∷ [] = search rules in
    let low : c.saturating_sub.result ≡ c.args.low - c.in-Bv.width = search rules in
    left_replaces c.args.terms.now c.args.a c.in-Some.left c.in-Some.right c.in-Bv.width c.args.high c.args.low (c.args.high - c.in-Bv.width) c.saturating_sub.result c.in_ok-parts-2.parts c.len-count.ensures.well c.in-Some.ensures'.applied c.requires.suits typed
    (omega arith) refl low own
