use Rattle.std.proofs.Common.{map, ap, ◌∙◌}
use Rattle.uc_meaning.specs.Cells.{cells_of}
use Rattle.uc_meaning.specs.Runs.{AreCopies}
use Rattle.uc_checks.specs.Tellings.{OfEach}
use Rattle.uc_checks.specs.Walks.{AreStates, CopyTells}
use Rattle.uc_checks.proofs.Told.{refused, where_none, where_told}
use Rattle.uc_checks.proofs.RefutingJudging.{walk_answer}
use Rattle.uc_checks.proofs.copies.copies_list.Goals as goal

pub returns-then-not-fit-clause-value : goal.returns-then-not-fit-clause-value
returns-then-not-fit-clause-value c = λ h all. refused c.are_copies-fit.result c.are_copies-fit.ensures c.if-not-fit.true h

pub returns-then-not-fit-clause-wide : goal.returns-then-not-fit-clause-wide
returns-then-not-fit-clause-wide c =
    where_none (AreCopies c.args.trial.now.line.now.arity c.args.trial.now.steps c.args.trial.now.copies.now) (OfEach (CopyTells c.args.beginning c.args.trial.now.layout.now c.args.trial.now.interp.now) (AreStates c.args.beginning c.args.trial.now.layout.now c.args.trial.now.interp.now) c.args.trial.now.copies.now) (refused c.are_copies-fit.result c.are_copies-fit.ensures c.if-not-fit.true)

pub each_lists-requires : goal.each_lists-requires
each_lists-requires c = c.as_slice.ensures ∙ c.in_ok-types.ensures ∙ ap (λ s. map (λ d. d.type) (cells_of s)) c.tables.ensures

pub returns-clause-value : goal.returns-clause-value
returns-clause-value c =
    walk_answer c.args.beginning c.args.trial.now.layout.now c.args.trial.now.interp.now c.args.trial.now.line.now c.args.trial.now.steps c.args.trial.now.copies.now _ c.site_of.ensures c.each_lists.result (c.are_copies-fit.ensures.0 c.if-not-fit.false) c.each_lists.ensures.value

pub returns-clause-wide : goal.returns-clause-wide
returns-clause-wide c =
    where_told (AreCopies c.args.trial.now.line.now.arity c.args.trial.now.steps c.args.trial.now.copies.now) (OfEach (CopyTells c.args.beginning c.args.trial.now.layout.now c.args.trial.now.interp.now) (AreStates c.args.beginning c.args.trial.now.layout.now c.args.trial.now.interp.now) c.args.trial.now.copies.now) c.each_lists.result (c.are_copies-fit.ensures.0 c.if-not-fit.false) c.each_lists.ensures.wide
