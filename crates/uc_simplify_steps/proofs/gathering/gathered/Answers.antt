use Rattle.std.proofs.Common.{◌≡◌, ◌≢◌, refl, subst, length, rules}
use Rattle.uc_simplify_steps.specs.Junctions.{HasComplements}
use Rattle.uc_simplify_steps.proofs.Members.{gathered_there, gathered_replaces, neutral_right, contradicted_right}
use Rattle.uc_simplify_steps.proofs.gathering.gathered.Goals as goal

pub contradicts-requires : goal.contradicts-requires
contradicts-requires c =
    rw c.deref.ensures.value (gathered_there c.args.terms.now c.args.neutral c.args.parts.now c.in_ok-all_parts.field-0.items c.in_ok-all.all.items c.requires.there c.requires.suits c.in_ok-all_parts.ensures c.in_ok-all.ensures)

pub returns-then-contradicts : goal.returns-then-contradicts
returns-then-contradicts c =
    contradicted_right c.args.terms.now c.args.neutral _ c.args.parts.now c.in_ok-all_parts.field-0.items c.in_ok-all.all.items c.boolean.result c.in_ok-all_parts.ensures c.in_ok-all.ensures
    (subst (HasComplements c.args.terms.now) c.deref.ensures.value (c.if-contradicts.ensures refl)) refl c.boolean.ensures

pub returns-then-is_empty : goal.returns-then-is_empty
returns-then-is_empty c =
    let n : length c.in_ok-all.all.items ≡ 0 = search rules in
    neutral_right c.args.terms.now c.args.neutral c.args.parts.now c.in_ok-all_parts.field-0.items c.in_ok-all.all.items c.boolean-then-is_empty.result c.in_ok-all_parts.ensures c.in_ok-all.ensures n c.boolean-then-is_empty.ensures

pub returns : goal.returns
returns c =
    let n : length c.in_ok-all.all.items ≢ 0 = search rules in
    gathered_replaces c.args.terms.now c.args.neutral c.args.parts.now c.in_ok-all_parts.field-0.items c.in_ok-all.all.items c.from_vec.result c.junction.result c.requires.there c.requires.suits c.in_ok-all_parts.ensures c.in_ok-all.ensures n
    c.from_vec.ensures c.junction.ensures
