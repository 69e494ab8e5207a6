use Rattle.std.proofs.Common.{subst, sym}
use Rattle.std.specs.Prelude.{IfOk, IfErr}
use Rattle.uc_flat_lines.specs.Deciding.{IsSolution, IsSpentFor, IsHonestFor, IsOpenedIn}
use Rattle.uc_flat_lines.proofs.Alike.{solution_is, spent_is, opened_is}
use Rattle.uc_flat_lines.proofs.Supplied.{honest_is}
use Rattle.uc_flat_lines.proofs.solving.asked.Goals as goal

pub returns-clause-solution : goal.returns-clause-solution
returns-clause-solution g c = subst (λ r. IfOk r (IsSolution c.args.terms.now c.args.goal)) (sym c.solution_of.ensures)
    (solution_is _ _ c.args.goal _ c.solve-answer.result c.len-shared.ensures.well c.len-shared.ensures.shared c.len-still_shared.ensures.well c.requires.there c.requires.even c.requires.finite c.solve-answer.ensures.grown
    c.solve-answer.ensures.kept c.solve-answer.ensures.answer)

pub returns-clause-cause : goal.returns-clause-cause
returns-clause-cause g c = subst (λ r. IfErr r (IsSpentFor c.args.budget (g.M.Meter.total c.args.meter.now) (g.M.Meter.total c.solve-answer.new.meter))) (sym c.solution_of.ensures)
    (spent_is _ c.args.goal _ _ c.args.budget _ _ c.solve-answer.result c.solve-answer.ensures.total c.solve-answer.ensures.cause)

pub returns-clause-honest : goal.returns-clause-honest
returns-clause-honest g c = subst (λ r. IfErr r (IsHonestFor c.args.budget c.args.terms.now c.args.goal)) (sym c.solution_of.ensures)
    (honest_is _ c.args.goal c.args.budget c.solve-answer.result c.len-shared.ensures.well c.len-shared.ensures.shared c.requires.there c.solve-answer.ensures.enough)

pub returns-clause-opened : goal.returns-clause-opened
returns-clause-opened g c = subst (λ r. IfErr r (IsOpenedIn c.solve-answer.new.terms c.args.goal (g.M.Meter.opened c.solve-answer.new.meter) (g.M.Meter.here c.solve-answer.new.meter) c.args.budget)) (sym c.solution_of.ensures)
    (opened_is _ c.args.goal _ _ c.args.budget _ _ c.solve-answer.result c.solve-answer.ensures.cause)
