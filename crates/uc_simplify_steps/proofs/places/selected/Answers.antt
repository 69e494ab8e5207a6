use Rattle.std.proofs.Common.{◌∙◌, sym, ap, refl, rules}
use Rattle.uc_simplify_steps.proofs.Made.{stored_known, passed_replaces}
use Rattle.uc_simplify_steps.proofs.places.selected.Goals as goal

pub returns-then-eq : goal.returns-then-eq
returns-then-eq c =
    stored_known c.args.terms.now c.args.a _ _ _ c.args.i c.len-count.ensures.well c.in-Some.ensures.applied (search rules) c.requires.index

pub returns : goal.returns
returns c =
    passed_replaces c.args.terms.now c.args.a _ _ _ c.args.i c.in_ok-parts.parts c.len-count.ensures.well c.in-Some.ensures.applied c.requires.index c.requires.suits (c.if-not-differ.ensures refl) c.in_ok-parts.ensures
