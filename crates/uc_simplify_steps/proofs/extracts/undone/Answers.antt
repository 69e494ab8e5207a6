use Rattle.std.proofs.Common.{◌≡◌, true, [], ◌∷◌, rules}
use Rattle.uc_simplify_steps.specs.Steps.{IsKnown}
use Rattle.uc_simplify_steps.proofs.Singles.{undone_known}
use Rattle.uc_simplify_steps.proofs.extracts.undone.Goals as goal

pub returns : goal.returns
returns c =
    let e : c.undoes.result ≡ true = search rules in
    let known : IsKnown c.args.terms.now c.in-Some.part c.args.op.now (c.args.a ∷ []) =
    undone_known c.args.terms.now c.args.op.now c.in-Some.inner.now c.args.a c.in-Some.part c.len-count.ensures.well (c.undoes.ensures e) c.in-Some.ensures.applied c.in-Some.ensures.there in
    search rules
