use Rattle.std.proofs.Common.{arith, ap, sym, refl, ◌∙◌, ◌≡◌, ◌≤◌, ◌+◌, ◌^◌, Ok}
use Rattle.std.proofs.lemmas.Grind.{common_steps}
use Rattle.uc_circuit.specs.Circuits.{inputs_of}
use Rattle.uc_learner.specs.Opened.{known_now}
use Rattle.uc_learner.specs.Answered.{inputs_count}
use Rattle.uc_learner.specs.declared.learn.Search.{Search}
use Rattle.uc_learner.proofs.Opening.{counted_for, taken_now}
use Rattle.uc_learner.proofs.Answering.{extends_same, not_stopped, one_end}
use Rattle.uc_learner.proofs.learner.Learner.next.Goals as goal

pub returns-in_err-next-clause-enough : goal.returns-in_err-next-clause-enough
returns-in_err-next-clause-enough g c =
    λ room.
    let same : inputs_count c.in_ok-state.state.inputs.items ≡ inputs_of (known_now (g.M.Meter.opened c.args.meter.now) c.args.log.now).circuit =
    counted_for (g.M.Meter.opened c.args.meter.now) c.args.log.now c.args.self.now c.in_ok-state.state.inputs.items c.requires.taken c.in_ok-state.ensures.inputs in
    let power : 2 ^ inputs_count c.in_ok-state.state.inputs.items ≡ 2 ^ inputs_of (known_now (g.M.Meter.opened c.args.meter.now) c.args.log.now).circuit = ap (λ k. 2 ^ k) same in
    let room' : g.M.Meter.here c.args.meter.now + 2 ^ inputs_count c.in_ok-state.state.inputs.items ≤ c.args.budget = omega (arith, room, power) in
    let never = c.in_err-next.ensures.enough room' in
    grind (arith, common_steps, never)

pub returns-in_err-state-clause-recorded : goal.returns-in_err-state-clause-recorded
returns-in_err-state-clause-recorded g c = c.requires.recorded

pub returns-in_err-state-clause-opened : goal.returns-in_err-state-clause-opened
returns-in_err-state-clause-opened g c = refl

pub returns-in_err-state-clause-total : goal.returns-in_err-state-clause-total
returns-in_err-state-clause-total g c = refl

pub returns-in_err-state-clause-stay : goal.returns-in_err-state-clause-stay
returns-in_err-state-clause-stay g c = extends_same c.args.log.now

pub returns-in_err-state-clause-within : goal.returns-in_err-state-clause-within
returns-in_err-state-clause-within g c = λ room. room

pub returns-in_err-next-clause-recorded : goal.returns-in_err-next-clause-recorded
returns-in_err-next-clause-recorded g c = c.in_err-next.ensures.kept.recorded

pub returns-in_err-next-clause-opened : goal.returns-in_err-next-clause-opened
returns-in_err-next-clause-opened g c = c.in_err-next.ensures.kept.still_open

pub returns-in_err-next-clause-total : goal.returns-in_err-next-clause-total
returns-in_err-next-clause-total g c = c.in_err-next.ensures.kept.spent

pub returns-in_err-next-clause-stay : goal.returns-in_err-next-clause-stay
returns-in_err-next-clause-stay g c = c.in_err-next.ensures.kept.stay

pub returns-in_err-next-clause-within : goal.returns-in_err-next-clause-within
returns-in_err-next-clause-within g c = c.in_err-next.ensures.within

pub returns-in-Candidate : goal.returns-in-Candidate
returns-in-Candidate g c =
    let found = c.in_ok-next.ensures.candidate (ap (λ (s : Search). Ok s) c.in-Candidate.is) in
    record {
      recorded = c.in_ok-next.ensures.kept.recorded;
      opened = c.in_ok-next.ensures.kept.still_open;
      total = c.in_ok-next.ensures.kept.spent;
      stay = c.in_ok-next.ensures.kept.stay;
      taken = λ _. taken_now (g.M.Meter.opened c.args.meter.now) (g.M.Meter.opened c.next.new.meter) c.args.log.now c.next.new.log c.args.self.now _
          c.in_ok-next.ensures.kept.still_open c.requires.taken found.holds.inputs found.holds.clauses (omega arith);
      candidate = λ _. found.satisfies;
      refuted = λ is. absurd (one_end _ refl is);
      budget = λ is. absurd (not_stopped _ _ is);
      within = c.in_ok-next.ensures.within;
      enough = λ _ is. not_stopped _ _ is;
      unit = λ _ _ is. not_stopped _ _ is;
    }

pub returns-in-Refuted : goal.returns-in-Refuted
returns-in-Refuted g c = record {
  recorded = c.in_ok-next.ensures.kept.recorded;
  opened = c.in_ok-next.ensures.kept.still_open;
  total = c.in_ok-next.ensures.kept.spent;
  stay = c.in_ok-next.ensures.kept.stay;
  taken = λ is. absurd (one_end _ is refl);
  candidate = λ is. absurd (one_end _ is refl);
  refuted = λ _. c.in_ok-next.ensures.refuted (ap (λ (s : Search). Ok s) c.in-Refuted.is);
  budget = λ is. absurd (not_stopped _ _ is);
  within = c.in_ok-next.ensures.within;
  enough = λ _ is. not_stopped _ _ is;
  unit = λ _ _ is. not_stopped _ _ is;
}
