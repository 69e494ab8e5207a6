use Rattle.std.proofs.Common.{◌∙◌}
use Rattle.uc_flat_lines.proofs.Alone.{known_alike, solved_alike, honest_alike, opened_alike}
use Rattle.uc_flat_lines.proofs.solving.sliced.Goals as goal

pub decided-requires-clause-boolean : goal.decided-requires-clause-boolean
decided-requires-clause-boolean g c = c.in_ok-root.ensures.ty ∙ c.requires.boolean

pub decided-requires-clause-known : goal.decided-requires-clause-known
decided-requires-clause-known g c = known_alike c.args.terms.now c.slice.new.own c.args.goal c.in_ok-root.root c.len-well_typed.ensures.well c.in_ok-root.ensures.there c.in_ok-root.ensures.features c.requires.known

pub returns-clause-solution : goal.returns-clause-solution
returns-clause-solution g c = solved_alike c.args.terms.now c.slice.new.own c.args.goal c.in_ok-root.root c.decided.result c.in_ok-root.ensures.same c.decided.ensures.solution

pub returns-clause-honest : goal.returns-clause-honest
returns-clause-honest g c =
    honest_alike c.args.terms.now c.slice.new.own c.args.goal c.in_ok-root.root c.args.budget c.decided.result c.len-well_typed.ensures.well c.in_ok-root.ensures.there c.in_ok-root.ensures.features c.decided.ensures.honest

pub returns-clause-opened : goal.returns-clause-opened
returns-clause-opened g c =
    opened_alike c.args.terms.now c.slice.new.own c.decided.new.terms c.args.goal c.in_ok-root.root _ _ c.args.budget c.decided.result c.in_ok-root.ensures.same c.in_ok-root.ensures.there c.decided.ensures.grown c.decided.ensures.opened
