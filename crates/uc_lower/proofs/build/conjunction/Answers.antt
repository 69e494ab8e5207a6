use Rattle.std.proofs.Common.{◌≡◌, [], sym, subst}
use Rattle.uc_lower.specs.Steps.{IsConjunction}
use Rattle.uc_lower.proofs.Building.{conjunction_none, conjunction_some, truths_types, no_types, no_items, some_items}
use Rattle.uc_lower.proofs.build.conjunction.Goals as goal

pub made-requires-2-clause-suits : goal.made-requires-2-clause-suits
made-requires-2-clause-suits c = ((λ e. some_items c.args.tests.now c.is_empty.result c.is_empty.ensures c.if-is_empty.false (no_types c.args.terms.now c.args.tests.now e)), truths_types c.args.terms.now c.args.tests.now c.requires.booleans)

pub returns-then-is_empty-clause-conjunction : goal.returns-then-is_empty-clause-conjunction
returns-then-is_empty-clause-conjunction c =
    let e : c.args.tests.now ≡ [] = no_items c.args.tests.now c.is_empty.result c.is_empty.ensures c.if-is_empty.true in
    subst (λ ts. IsConjunction c.args.terms.now c.made.new.terms ts c.in_ok-t.t) (sym e) (conjunction_none c.args.terms.now c.made.new.terms c.in_ok-t.t c.requires.well c.in_ok-t.ensures.made)

pub returns-clause-conjunction : goal.returns-clause-conjunction
returns-clause-conjunction c = conjunction_some c.args.terms.now _ c.args.tests.now c.in_ok-t-2.t c.requires.well c.requires.there c.in_ok-t-2.ensures.made
