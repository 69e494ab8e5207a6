use Rattle.std.proofs.Common.{◌≡◌, ◌∙◌, sym, ap, subst, Err, All}
use Rattle.std.specs.Result.{IfErr}
use Rattle.std.proofs.lemmas.Result.{err_from_is_err_and}
use Rattle.uc_terms.proofs.Values.{grown_keeps}
use Rattle.uc_lower.specs.Made.{Grows}
use Rattle.uc_solver.specs.Codes.{IsSymbolPair}
use Rattle.uc_solver.specs.Answers.{IsCause}
use Rattle.uc_solver.specs.Searches.{IsFound}
use Rattle.uc_solver.specs.declared.answer.SolveError.TheVariants.{Budget}
use Rattle.uc_solver.proofs.Candidates.{same_error}
use Rattle.uc_solver.proofs.Reducing.{grown_well}
use Rattle.uc_solver.proofs.Standing.{blastable, stands, refutes, cause_of, fits_budget}
use Rattle.uc_solver.proofs.solving.solve.Goals as goal

pub returns-in_err-lowered-clause-kept : goal.returns-in_err-lowered-clause-kept
returns-in_err-lowered-clause-kept g c = grown_keeps c.args.terms.now c.reduced.new.terms c.in_err-lowered.ensures.grown.more c.in_err-lowered.ensures.grown.is

pub blast-requires : goal.blast-requires
blast-requires g c = blastable c.reduced.new.terms c.in_ok-lowered.lowered.goal c.in_ok-lowered.ensures.reduced.lowered

pub returns-in_err-problem-clause-kept : goal.returns-in_err-problem-clause-kept
returns-in_err-problem-clause-kept g c = grown_keeps c.args.terms.now c.reduced.new.terms c.in_ok-lowered.ensures.grown.more c.in_ok-lowered.ensures.grown.is

pub returns-in_err-found-clause-cause : goal.returns-in_err-found-clause-cause
returns-in_err-found-clause-cause g c =
    let p = err_from_is_err_and c.from_residual-in_err-found.result c.from_residual-in_err-found.ensures.1 in
    let s = stands c.reduced.new.terms c.args.goal c.in_ok-lowered.lowered.goal c.in_ok-lowered.lowered.map.pairs c.in_ok-problem.problem c.len-shared.ensures.well c.len-shared.ensures.shared c.in_ok-lowered.ensures.reduced
    (record { stands = c.in_ok-problem.ensures.stands; inputs = c.in_ok-problem.ensures.inputs }) in
    let own = cause_of c.reduced.new.terms c.args.goal c.in_ok-problem.problem (g.M.Meter.opened c.decided.new.meter) (g.M.Meter.here c.decided.new.meter) c.args.budget (g.M.Meter.total c.args.meter.now) (g.M.Meter.total c.decided.new.meter)
    c.in_err-found.field-0.0 s c.in_err-found.ensures.cause in
    let why = IsCause c.reduced.new.terms c.args.goal (g.M.Meter.opened c.decided.new.meter) (g.M.Meter.here c.decided.new.meter) c.args.budget (g.M.Meter.total c.args.meter.now) (g.M.Meter.total c.decided.new.meter) in
    subst (λ r. IfErr r why) (sym p.1) (subst why (sym p.2) own)

pub returns-in_err-found-clause-enough : goal.returns-in_err-found-clause-enough
returns-in_err-found-clause-enough g c n bits low e =
    let p = err_from_is_err_and c.from_residual-in_err-found.result c.from_residual-in_err-found.ensures.1 in
    let cause : c.in_err-found.field-0.0 ≡ Budget = sym p.2 ∙ same_error c.from_residual-in_err-found.result p.0 Budget p.1 e in
    let fits = fits_budget c.args.terms.now c.reduced.new.terms c.args.goal c.in_ok-lowered.lowered.goal n c.args.budget c.in_ok-lowered.lowered.map.pairs c.in_ok-problem.problem c.nodes-well_typed.ensures.well c.requires.there
    (grown_well c.args.terms.now c.reduced.new.terms c.in_ok-lowered.ensures.grown c.len-shared.ensures.well) c.in_ok-lowered.ensures.reduced bits low in
    c.decided.ensures.enough fits (c.in_err-found.was ∙ ap (λ x. Err x) cause)

pub returns-in_err-found-clause-kept : goal.returns-in_err-found-clause-kept
returns-in_err-found-clause-kept g c = grown_keeps c.args.terms.now c.reduced.new.terms c.in_ok-lowered.ensures.grown.more c.in_ok-lowered.ensures.grown.is

pub through_map-requires-clause-pairs : goal.through_map-requires-clause-pairs
through_map-requires-clause-pairs g c = subst (All (IsSymbolPair c.reduced.new.terms)) (sym c.as_slice-pairs.ensures) c.in_ok-lowered.ensures.reduced.symbols

pub returns-in_err-model-in-Model-clause-kept : goal.returns-in_err-model-in-Model-clause-kept
returns-in_err-model-in-Model-clause-kept g c = grown_keeps c.args.terms.now c.reduced.new.terms c.in_ok-lowered.ensures.grown.more c.in_ok-lowered.ensures.grown.is

pub returns-in-Model-clause-kept : goal.returns-in-Model-clause-kept
returns-in-Model-clause-kept g c = grown_keeps c.args.terms.now c.reduced.new.terms c.in_ok-lowered.ensures.grown.more c.in_ok-lowered.ensures.grown.is

pub returns-clause-answer : goal.returns-clause-answer
returns-clause-answer g c =
    let found = subst (IsFound c.reduced.new.terms c.in_ok-lowered.lowered.goal c.in_ok-problem.problem (g.M.Meter.opened c.decided.new.meter)) c.in-Refuted.is c.in_ok-found.ensures.found in
    refutes c.reduced.new.terms c.args.goal c.in_ok-lowered.lowered.goal c.in_ok-lowered.lowered.map.pairs c.in_ok-problem.problem (g.M.Meter.opened c.decided.new.meter) c.in-Refuted.log c.len-shared.ensures.well c.len-shared.ensures.shared
    c.in_ok-lowered.ensures.reduced (record { stands = c.in_ok-problem.ensures.stands; inputs = c.in_ok-problem.ensures.inputs }) c.circuit-fine.ensures.kept found.0 found.1

pub returns-clause-kept : goal.returns-clause-kept
returns-clause-kept g c = grown_keeps c.args.terms.now c.reduced.new.terms c.in_ok-lowered.ensures.grown.more c.in_ok-lowered.ensures.grown.is
