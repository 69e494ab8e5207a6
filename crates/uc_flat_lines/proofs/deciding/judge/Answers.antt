use Rattle.std.proofs.Common.{subst, sym}
use Rattle.uc_flat_lines.specs.Lines.{IsFlatVerdict, IsHonestVerdict}
use Rattle.uc_flat_lines.specs.Deciding.{IsSpentOn, IsOpenedOn}
use Rattle.uc_flat_lines.proofs.Outcomes.{verdict_right, verdict_spent, verdict_honest, verdict_opened}
use Rattle.uc_flat_lines.proofs.deciding.judge.Goals as goal

pub returns-clause-right : goal.returns-clause-right
returns-clause-right g c x at = subst (IsFlatVerdict c.args.f.now c.args.run.now.start x c.args.steps) (sym c.verdict_of.ensures)
    (verdict_right c.args.f.now c.args.run.now.start x c.args.steps c.args.k c.refutation-outcome.result c.refutation-outcome.ensures.outcome at)

pub returns-clause-spent : goal.returns-clause-spent
returns-clause-spent g c = subst (IsSpentOn c.args.budget (g.M.Meter.total c.args.meter.now) (g.M.Meter.total c.refutation-outcome.new.meter)) (sym c.verdict_of.ensures)
    (verdict_spent c.args.budget _ _ c.refutation-outcome.result c.refutation-outcome.ensures.later c.refutation-outcome.ensures.cause)

pub returns-clause-honest : goal.returns-clause-honest
returns-clause-honest g c = subst (IsHonestVerdict c.args.f.now c.args.run.now.start c.args.budget c.args.steps) (sym c.verdict_of.ensures)
    (verdict_honest c.args.f.now c.args.run.now.start c.args.budget c.args.steps c.refutation-outcome.result c.refutation-outcome.ensures.honest)

pub returns-clause-opened : goal.returns-clause-opened
returns-clause-opened g c = subst (IsOpenedOn c.args.f.now c.args.run.now.start c.args.k c.args.steps (g.M.Meter.opened c.refutation-outcome.new.meter) (g.M.Meter.here c.refutation-outcome.new.meter) c.args.budget) (sym c.verdict_of.ensures)
    (verdict_opened c.args.f.now c.args.run.now.start c.args.k c.args.steps _ _ c.args.budget c.refutation-outcome.result c.refutation-outcome.ensures.opened)
