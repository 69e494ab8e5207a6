use Rattle.std.proofs.Common.{◌≡◌, ◌∙◌, sym, ap, subst, Ok, Err}
use Rattle.std.proofs.lemmas.Result.{err_from_is_err_and}
use Rattle.uc_learner.specs.Learners.{valuation}
use Rattle.uc_learner.specs.declared.learn.LearnError.TheVariants.{Budget as SearchBudget}
use Rattle.uc_solver.specs.declared.answer.SolveError.TheVariants.{Budget}
use Rattle.uc_solver.proofs.Beginning.{recorded_first, taken_first}
use Rattle.uc_solver.proofs.Candidates.{problem_satisfied, enough, of_budget, same_error}
use Rattle.uc_solver.proofs.search.searched.Goals as goal

pub next-answer-requires-clause-recorded : goal.next-answer-requires-clause-recorded
next-answer-requires-clause-recorded g c =
    recorded_first c.args.terms.now (g.M.Meter.opened c.open.new.self) c.args.problem (g.M.Meter.here c.open.new.self) c.in_ok-log.log c.open.ensures.opened c.open.ensures.here c.in_ok-log.ensures

pub next-answer-requires-clause-taken : goal.next-answer-requires-clause-taken
next-answer-requires-clause-taken g c =
    taken_first (g.M.Meter.opened c.open.new.self) c.args.problem c.in_ok-log.log c.in_ok-learner.learner c.open.ensures.opened c.in_ok-log.ensures c.in_ok-learner.ensures

pub returns-in_err-found-clause-enough : goal.returns-in_err-found-clause-enough
returns-in_err-found-clause-enough g c fits e =
    let p = err_from_is_err_and c.from_residual-in_err-found.result c.from_residual-in_err-found.ensures.1 in
    let cause : c.in_err-found.field-0.0 ≡ SearchBudget = of_budget c.in_err-found.field-0.0 p.0 p.2 (same_error c.from_residual-in_err-found.result p.0 Budget p.1 e) in
    let out : c.next-answer.result ≡ Err SearchBudget = c.in_err-found.was ∙ ap (λ x. Err x) cause in
    enough c.args.terms.now c.args.u c.args.problem (g.M.Meter.opened c.open.new.self) c.in_ok-log.log c.in_ok-learner.learner (g.M.Meter.here c.open.new.self) c.args.budget c.requires.problem c.circuit-fine.ensures.kept c.requires.not_true
    c.open.ensures.opened c.in_ok-log.ensures c.open.ensures.here c.in_ok-learner.ensures fits c.requires.some (λ low. c.next-answer.ensures.enough low out) (λ low unit. c.next-answer.ensures.unit low unit out)

pub candidate-requires-clause-candidate : goal.candidate-requires-clause-candidate
candidate-requires-clause-candidate g c =
    let opened = c.next-answer.ensures.opened ∙ c.open.ensures.opened in
    record {
      question = c.args.problem;
      is = opened;
      candidate = record {
        fine = c.circuit-fine.ensures.kept;
        problem = c.requires.problem;
        not_true = c.requires.not_true;
        satisfied = problem_satisfied (valuation c.next-answer.new.self.values) c.args.problem (g.M.Meter.opened c.next-answer.new.meter) c.next-answer.new.log opened (c.next-answer.ensures.candidate (c.in_ok-found.was ∙ ap (λ x. Ok x) c.in-Candidate.is));
      };
    }
