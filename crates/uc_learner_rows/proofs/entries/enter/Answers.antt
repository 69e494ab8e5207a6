use Rattle.std.proofs.Common.{subst, sym, ap, ◌∙◌, ◌+◌, List, Option, length}
use Rattle.std.proofs.lemmas.List.{length_push}
use Rattle.uc_log.specs.declared.entry.Entry.{Entry}
use Rattle.uc_log.specs.Problems.{Question}
use Rattle.uc_log.specs.Meters.{IsValidFor}
use Rattle.uc_learner.proofs.Opening.{valid_for_push}
use Rattle.uc_learner_rows.proofs.entries.enter.Goals as goal

pub spend-requires-clause-valid : goal.spend-requires-clause-valid
spend-requires-clause-valid g c =
    subst (λ (k : List Entry). IsValidFor c.args.terms.now (g.M.Meter.opened c.args.meter.now) k) (sym c.in_ok-push.ensures.ok)
    (valid_for_push c.args.terms.now (g.M.Meter.opened c.args.meter.now) c.args.log.now c.args.entry c.requires.recorded.valid c.requires.meets c.requires.new)

pub returns-clause-recorded : goal.returns-clause-recorded
returns-clause-recorded g c =
    let valid : IsValidFor c.args.terms.now (g.M.Meter.opened c.args.meter.now) c.push.new.self =
    subst (λ (k : List Entry). IsValidFor c.args.terms.now (g.M.Meter.opened c.args.meter.now) k) (sym c.in_ok-push.ensures.ok)
    (valid_for_push c.args.terms.now (g.M.Meter.opened c.args.meter.now) c.args.log.now c.args.entry c.requires.recorded.valid c.requires.meets c.requires.new) in
    record {
      valid = subst (λ (o : Option Question). IsValidFor c.args.terms.now o c.push.new.self) (sym c.spend.ensures.opened) valid;
      count = ap length c.in_ok-push.ensures.ok ∙ length_push c.args.log.now c.args.entry ∙ ap (λ k. k + 1) c.requires.recorded.count ∙ sym c.spend.ensures.here;
    }
