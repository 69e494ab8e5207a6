use Rattle.std.proofs.Common.{◌≡◌, ◌∙◌, sym, rules}
use Rattle.uc_simplify_steps.proofs.Identities.{idempotent_known, cancels_right}
use Rattle.uc_simplify_steps.proofs.words.with_itself.Goals as goal

pub returns-then-is_idempotent : goal.returns-then-is_idempotent
returns-then-is_idempotent c =
    let e : c.args.a ≡ c.args.b = search rules in
    idempotent_known c.args.terms.now c.args.op.now c.args.a c.args.b c.len-count.ensures.well c.requires.left e c.requires.suits (sym c.if-is_idempotent.ensures)

pub returns : goal.returns
returns c =
    let e : c.args.a ≡ c.args.b = search rules in
    cancels_right c.args.terms.now c.args.op.now c.args.a c.args.b c.in-Bv.width c.zero.result c.len-count.ensures.well c.requires.left e c.requires.suits (sym c.if-not-cancels.ensures) (sym c.ty.ensures.ty ∙ c.in-Bv.is)
    c.zero.ensures
