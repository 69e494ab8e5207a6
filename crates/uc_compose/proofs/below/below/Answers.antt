use Rattle.std.proofs.Common.{◌∙◌, ◌∷◌, [], ◌++◌, ◌<◌, length, ap, sym, subst, inr, All}
use Rattle.uc_terms.specs.Tables.{parts_at}
use Rattle.uc_compose.proofs.Listing.{walking_start, walking_turn, walking_end, above_falls, below_there, taken_listed}
use Rattle.uc_compose.proofs.below.below.Goals as goal

pub walk-init : goal.walk-init
walk-init c = walking_start c.args.terms.now c.args.roots.now c.new-listed.result c.new-waiting.result c.add_all.new.waiting c.new-listed.ensures c.new-waiting.ensures c.in_ok-add_all.ensures

pub parts-requires : goal.parts-requires
parts-requires c =
    subst (λ t. t < length c.args.terms.now) (sym c.new-term.ensures)
    (below_there c.args.terms.now c.args.roots.now c.in-Some.number c.len-well_typed.ensures.well c.requires
    (c.walk.invariant.sound c.in-Some.number (inr (taken_listed c.walk.waiting c.take_greatest.new.self c.in-Some.number c.in-Some.ensures.0))))

pub walk-preserved : goal.walk-preserved
walk-preserved c =
    walking_turn c.args.terms.now c.args.roots.now c.walk.listed c.push.new.self c.walk.waiting c.take_greatest.new.self c.add_all-in-Some.new.waiting c.parts.result.now c.in-Some.number c.in-Some.ensures.0 c.in-Some.ensures.1
    (c.parts.ensures.parts ∙ ap (parts_at c.args.terms.now) c.new-term.ensures) (subst (λ n. All (λ p. p < n) c.parts.result.now) c.new-term.ensures c.parts.ensures.before) c.in_ok-add_all-2.ensures
    (c.in_ok-push.ensures.ok ∙ ap (λ n. c.walk.listed ++ n ∷ []) c.new-term.ensures) c.walk.invariant

pub walk-smaller : goal.walk-smaller
walk-smaller c =
    above_falls c.walk.waiting c.take_greatest.new.self c.add_all-in-Some.new.waiting c.parts.result.now c.in-Some.number c.in-Some.ensures.0 c.in-Some.ensures.1 c.in_ok-add_all-2.ensures
    (subst (λ n. All (λ p. p < n) c.parts.result.now) c.new-term.ensures c.parts.ensures.before)

pub returns : goal.returns
returns c = walking_end c.args.terms.now c.args.roots.now c.walk.listed c.walk.waiting c.in_default.ensures c.walk.invariant
