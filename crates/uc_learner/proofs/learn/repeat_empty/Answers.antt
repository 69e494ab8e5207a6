use Rattle.std.proofs.Common.{subst, ap, ◌∙◌, ◌++◌, ◌∷◌, [], List, ℕ}
use Rattle.std.specs.Prelude.{Contains}
use Rattle.std.proofs.lemmas.Result.{on_ok_weaker}
use Rattle.uc_circuit.specs.declared.literal.Lit.{Lit}
use Rattle.uc_log.specs.declared.entry.Entry.TheVariants.{Learnt}
use Rattle.uc_log.proofs.Growth.{new_empty}
use Rattle.uc_learner.specs.Opened.{opened_known}
use Rattle.uc_learner.proofs.Opening.{meet_of}
use Rattle.uc_learner.proofs.Answering.{none_recorded}
use Rattle.uc_learner.proofs.learn.repeat_empty.Goals as goal

pub record-requires-clause-new : goal.record-requires-clause-new
record-requires-clause-new g c =
    λ has. new_empty c.args.terms.now (opened_known (g.M.Meter.opened c.args.meter.now)) c.args.log.now c.args.number
    (meet_of c.args.terms.now (g.M.Meter.opened c.args.meter.now) c.args.log.now c.requires.recorded.valid) c.requires.last
    (subst (λ (h : List ℕ). Contains c.args.log.now (Learnt [] h)) c.in_ok-hints.ensures
    (subst (λ (k : List Lit). Contains c.args.log.now (Learnt k c.in_ok-hints.hints)) c.new.ensures has))

pub returns-in_err-hints-clause-records : goal.returns-in_err-hints-clause-records
returns-in_err-hints-clause-records g c = none_recorded g.M.Meter.opened g.M.Meter.here g.M.Meter.total c.args.terms.now c.args.meter.now c.args.log.now c.requires.recorded

pub returns-clause-records : goal.returns-clause-records
returns-clause-records g c = c.record.ensures.records

pub returns-clause-ok : goal.returns-clause-ok
returns-clause-ok g c =
    on_ok_weaker c.record.result
    (λ is. record { before = c.args.log.now; hints = c.in_ok-hints.hints; is = is ∙ ap (λ (k : List Lit). c.args.log.now ++ Learnt k c.in_ok-hints.hints ∷ []) c.new.ensures })
    c.record.ensures.ok
