use Rattle.std.proofs.Common.{subst, sym, ap, arith, ◌∙◌, ◌≡◌, ◌+◌, List, Option, length, [], ◌∷◌}
use Rattle.std.proofs.lemmas.List.{length_push}
use Rattle.uc_log.specs.declared.entry.Entry.{Entry}
use Rattle.uc_log.specs.declared.entry.Entry.TheVariants.{Learnt}
use Rattle.uc_log.specs.Problems.{Question}
use Rattle.uc_log.specs.Meters.{IsValidFor}
use Rattle.uc_learner.specs.Recorded.{RecordsOne}
use Rattle.uc_learner.proofs.Opening.{valid_for_push}
use Rattle.uc_learner.proofs.Answering.{none_recorded}
use Rattle.uc_learner.proofs.learn.record.Goals as goal

pub spend-requires-clause-valid : goal.spend-requires-clause-valid
spend-requires-clause-valid g c =
    subst (λ (k : List Entry). IsValidFor c.args.terms.now (g.M.Meter.opened c.args.meter.now) k) (sym c.in_ok-push.ensures.ok)
    (valid_for_push c.args.terms.now (g.M.Meter.opened c.args.meter.now) c.args.log.now (Learnt c.args.clause c.args.hints) c.requires.recorded.valid c.requires.learnt c.requires.new)

pub spend-requires-clause-count : goal.spend-requires-clause-count
spend-requires-clause-count g c = ap length c.in_ok-push.ensures.ok ∙ length_push c.args.log.now (Learnt c.args.clause c.args.hints) ∙ ap (λ k. k + 1) c.requires.recorded.count

pub spend-requires-clause-total : goal.spend-requires-clause-total
spend-requires-clause-total g c = c.requires.total

pub returns-in_err-push-clause-records : goal.returns-in_err-push-clause-records
returns-in_err-push-clause-records g c =
    subst (λ (k : List Entry). RecordsOne g.M.Meter.opened g.M.Meter.here g.M.Meter.total c.args.terms.now c.args.meter.now c.args.log.now c.args.meter.now k) (sym c.in_err-push.ensures.err)
    (none_recorded g.M.Meter.opened g.M.Meter.here g.M.Meter.total c.args.terms.now c.args.meter.now c.args.log.now c.requires.recorded)

pub returns-clause-records : goal.returns-clause-records
returns-clause-records g c =
    let valid : IsValidFor c.args.terms.now (g.M.Meter.opened c.args.meter.now) c.push.new.self =
    subst (λ (k : List Entry). IsValidFor c.args.terms.now (g.M.Meter.opened c.args.meter.now) k) (sym c.in_ok-push.ensures.ok)
    (valid_for_push c.args.terms.now (g.M.Meter.opened c.args.meter.now) c.args.log.now (Learnt c.args.clause c.args.hints) c.requires.recorded.valid c.requires.learnt c.requires.new) in
    record {
      kept = record {
        recorded = record {
          valid = subst (λ (o : Option Question). IsValidFor c.args.terms.now o c.push.new.self) (sym c.spend.ensures.opened) valid;
          count = ap length c.in_ok-push.ensures.ok ∙ length_push c.args.log.now (Learnt c.args.clause c.args.hints) ∙ ap (λ k. k + 1) c.requires.recorded.count ∙ sym c.spend.ensures.here;
        };
        still_open = c.spend.ensures.opened;
        spent = omega (arith, c.spend.ensures.here, c.spend.ensures.total);
        stay = record { more = Learnt c.args.clause c.args.hints ∷ []; is = c.in_ok-push.ensures.ok };
      };
      few = omega (arith, c.spend.ensures.here);
    }

pub returns-clause-ok : goal.returns-clause-ok
returns-clause-ok g c = c.in_ok-push.ensures.ok
