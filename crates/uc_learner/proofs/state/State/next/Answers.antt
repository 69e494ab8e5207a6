use Rattle.std.proofs.Common.{arith, refl, subst, sym, inr, ◌∙◌, false, Option}
use Rattle.std.proofs.lemmas.Nat.{pow_pos}
use Rattle.uc_log.specs.Problems.{Question}
use Rattle.uc_learner.specs.Opened.{known_now, HasQuestion}
use Rattle.uc_learner.specs.Moves.{Ready, left_of}
use Rattle.uc_learner.specs.Answered.{Holds, GoesOn, inputs_count}
use Rattle.uc_learner.proofs.Opening.{accepted}
use Rattle.uc_learner.proofs.Completion.{candidate_true}
use Rattle.uc_learner.proofs.Answering.{kept_same, kept_on, not_found, not_stopped, one_end, went_on, refuted_by, settled_on, used_up}
use Rattle.uc_learner.specs.Learners.{input_flags}
use Rattle.uc_learner.specs.Roamed.{Back}
use Rattle.uc_learner.proofs.Roaming.{back_by, roam_refuted, settled_from, within_limit, spared, holds_now, holds_for}
use Rattle.std.proofs.Common.{length}
use Rattle.uc_learner.proofs.state.State.next.Goals as goal

pub returns-then-len-budget-clause-kept : goal.returns-then-len-budget-clause-kept
returns-then-len-budget-clause-kept g c = kept_same g.M.Meter.opened g.M.Meter.here g.M.Meter.total c.args.terms.now c.args.meter.now c.args.log.now c.requires.recorded

pub returns-then-len-budget-clause-candidate : goal.returns-then-len-budget-clause-candidate
returns-then-len-budget-clause-candidate g c = λ is. absurd (not_found _ _ is)

pub returns-then-len-budget-clause-refuted : goal.returns-then-len-budget-clause-refuted
returns-then-len-budget-clause-refuted g c = λ is. absurd (not_found _ _ is)

pub returns-then-len-budget-clause-within : goal.returns-then-len-budget-clause-within
returns-then-len-budget-clause-within g c = λ room. room

pub returns-then-len-budget-clause-enough : goal.returns-then-len-budget-clause-enough
returns-then-len-budget-clause-enough g c = λ room _. omega (arith, pow_pos (inputs_count c.args.self.now.inputs.items), c.requires.recorded.count)

pub returns-then-len-budget-clause-unit : goal.returns-then-len-budget-clause-unit
returns-then-len-budget-clause-unit g c = λ room _ _. omega (arith, c.requires.recorded.count)

pub returns-in_err-repeat_empty-clause-kept : goal.returns-in_err-repeat_empty-clause-kept
returns-in_err-repeat_empty-clause-kept g c = c.in_err-repeat_empty.ensures.records.kept

pub returns-in_err-repeat_empty-clause-within : goal.returns-in_err-repeat_empty-clause-within
returns-in_err-repeat_empty-clause-within g c = λ room. omega (arith, c.in_err-repeat_empty.ensures.records.few, c.requires.recorded.count)

pub returns-in-Some : goal.returns-in-Some
returns-in-Some g c = record {
  kept = c.in_ok-repeat_empty.ensures.records.kept;
  candidate = λ is. absurd (one_end _ is refl);
  refuted =
      λ _. accepted c.args.terms.now (g.M.Meter.opened c.repeat_empty.new.meter) c.repeat_empty.new.log c.in_ok-repeat_empty.ensures.records.kept.recorded.valid c.in_ok-repeat_empty.ensures.ok;
  budget = λ is. absurd (not_stopped _ _ is);
  within = λ room. omega (arith, c.in_ok-repeat_empty.ensures.records.few, c.requires.recorded.count);
  enough = λ _ is. not_stopped _ _ is;
  unit = λ _ _ is. not_stopped _ _ is;
}

pub returns-in_err-roam-clause-kept : goal.returns-in_err-roam-clause-kept
returns-in_err-roam-clause-kept g c = c.in_err-roam.ensures.kept

pub returns-in_err-roam-clause-within : goal.returns-in_err-roam-clause-within
returns-in_err-roam-clause-within g c =
    λ room. within_limit (g.M.Meter.here c.args.meter.now) (g.M.Meter.here c.roam.new.meter) _ _ c.args.budget (sym c.requires.recorded.count ∙ sym c.len-2.ensures) c.limit_of-limit.ensures.inside c.limit_of-limit.ensures.at_most c.in_err-roam.ensures.within room

pub returns-then-branch : goal.returns-then-branch
returns-then-branch g c = record {
  kept = c.in_ok-roam.ensures.kept;
  candidate = λ is. absurd (one_end _ is refl);
  refuted =
      λ _. accepted c.args.terms.now (g.M.Meter.opened c.roam.new.meter) c.roam.new.log c.in_ok-roam.ensures.kept.recorded.valid
      (roam_refuted c.cut.new.self c.roam.new.self c.args.log.now c.roam.new.log _ c.in_ok-roam.field-0 c.if-branch.true c.in_ok-roam.ensures.ok);
  budget = λ is. absurd (not_stopped _ _ is);
  within = λ room. within_limit (g.M.Meter.here c.args.meter.now) (g.M.Meter.here c.roam.new.meter) _ _ c.args.budget (sym c.requires.recorded.count ∙ sym c.len-2.ensures) c.limit_of-limit.ensures.inside c.limit_of-limit.ensures.at_most c.in_ok-roam.ensures.within room;
  enough = λ _ is. not_stopped _ _ is;
  unit = λ _ _ is. not_stopped _ _ is;
}

pub loop-conflict-init : goal.loop-conflict-init
loop-conflict-init g c =
    let b : Back c.cut.new.self c.args.log.now (known_now (g.M.Meter.opened c.roam.new.meter) c.roam.new.log) c.roam.new.self c.roam.new.log =
    back_by c.cut.new.self c.roam.new.self c.args.log.now c.roam.new.log _ c.in_ok-roam.field-0 c.if-branch.false c.in_ok-roam.ensures.ok in
    record {
      ready = b.ready;
      waiting = b.waiting;
      inputs = b.inputs ∙ c.cut.ensures.cut.inputs;
      kept = c.in_ok-roam.ensures.kept;
      holds = b.holds;
      within = λ room. within_limit (g.M.Meter.here c.args.meter.now) (g.M.Meter.here c.roam.new.meter) _ _ c.args.budget (sym c.requires.recorded.count ∙ sym c.len-2.ensures) c.limit_of-limit.ensures.inside c.limit_of-limit.ensures.at_most c.in_ok-roam.ensures.within room;
      none_empty = b.none_empty;
      count = λ room. spared c.args.self.now.inputs.items c.as_slice.result.now c.cut.new.self.inputs.items (g.M.Meter.here c.args.meter.now) (g.M.Meter.here c.roam.new.meter)
          c.len-2.result c.limit_of-limit.result c.args.budget (length c.args.log.now) (length c.roam.new.log) (left_of c.roam.new.self)
          c.requires.recorded.count c.in_ok-roam.ensures.kept.recorded.count (sym c.len-2.ensures) c.as_slice.ensures.value c.cut.ensures.cut.inputs c.limit_of-limit.ensures.spares c.in_ok-roam.ensures.within b.all_left room;
      settled = settled_from c.args.self.now c.cut.new.self c.roam.new.self c.args.log.now c.roam.new.log c.cut.ensures.cut.clauses b.settled;
    }

pub returns-then-len-budget-2-clause-kept : goal.returns-then-len-budget-2-clause-kept
returns-then-len-budget-2-clause-kept g c = c.loop-conflict.invariant.kept

pub returns-then-len-budget-2-clause-candidate : goal.returns-then-len-budget-2-clause-candidate
returns-then-len-budget-2-clause-candidate g c = λ is. absurd (not_found _ _ is)

pub returns-then-len-budget-2-clause-refuted : goal.returns-then-len-budget-2-clause-refuted
returns-then-len-budget-2-clause-refuted g c = λ is. absurd (not_found _ _ is)

pub returns-then-len-budget-2-clause-budget : goal.returns-then-len-budget-2-clause-budget
returns-then-len-budget-2-clause-budget g c = λ _. sym c.loop-conflict.invariant.kept.recorded.count ∙ (sym c.len-in-loop-conflict.ensures ∙ c.if-len-budget-2.true)

pub returns-then-len-budget-2-clause-within : goal.returns-then-len-budget-2-clause-within
returns-then-len-budget-2-clause-within g c = c.loop-conflict.invariant.within

pub returns-then-len-budget-2-clause-unit : goal.returns-then-len-budget-2-clause-unit
returns-then-len-budget-2-clause-unit g c =
    λ room refutable _. used_up c.args.self.now c.loop-conflict.self c.loop-conflict.log c.args.log.now c.args.budget (g.M.Meter.here c.args.meter.now)
    c.loop-conflict.invariant.settled (sym c.len-in-loop-conflict.ensures ∙ c.if-len-budget-2.true) c.requires.recorded.count room refutable

pub returns-in_err-conclude-clause-kept : goal.returns-in_err-conclude-clause-kept
returns-in_err-conclude-clause-kept g c =
    kept_on g.M.Meter.opened g.M.Meter.here g.M.Meter.total c.args.terms.now _ _ _ _ _ _ c.loop-conflict.invariant.kept c.in_err-conclude.ensures.records.kept

pub returns-in_err-conclude-clause-within : goal.returns-in_err-conclude-clause-within
returns-in_err-conclude-clause-within g c =
    λ room. omega (
      arith,
      c.loop-conflict.invariant.within room,
      c.if-len-budget-2.false,
      c.len-in-loop-conflict.ensures,
      c.loop-conflict.invariant.kept.recorded.count,
      c.in_err-conclude.ensures.records.few,
    )

pub returns-then-branch-2 : goal.returns-then-branch-2
returns-then-branch-2 g c = record {
  kept = kept_on g.M.Meter.opened g.M.Meter.here g.M.Meter.total c.args.terms.now _ _ _ _ _ _ c.loop-conflict.invariant.kept c.in_ok-conclude.ensures.records.kept;
  candidate = λ is. absurd (one_end _ is refl);
  refuted =
      λ _. accepted c.args.terms.now (g.M.Meter.opened c.conclude.new.meter) c.conclude.new.log c.in_ok-conclude.ensures.records.kept.recorded.valid
      (refuted_by _ c.descend.new.self c.conclude.new.self c.loop-conflict.log c.conclude.new.log _ c.in_ok-conclude.field-0 c.if-branch-2.true c.in_ok-conclude.ensures.ok);
  budget = λ is. absurd (not_stopped _ _ is);
  within =
      λ room. omega (
        arith,
        c.loop-conflict.invariant.within room,
        c.if-len-budget-2.false,
        c.len-in-loop-conflict.ensures,
        c.loop-conflict.invariant.kept.recorded.count,
        c.in_ok-conclude.ensures.records.few,
      );
  enough = λ _ is. not_stopped _ _ is;
  unit = λ _ _ is. not_stopped _ _ is;
}

pub loop-conflict-preserved : goal.loop-conflict-preserved
loop-conflict-preserved g c =
    let inv = c.loop-conflict.invariant in
    let on : GoesOn (input_flags (known_now (g.M.Meter.opened c.loop-conflict.meter) c.loop-conflict.log).circuit) c.descend.new.self c.loop-conflict.log (known_now (g.M.Meter.opened c.loop-conflict.meter) c.conclude.new.log) c.conclude.new.self c.conclude.new.log false =
    went_on _ c.descend.new.self c.conclude.new.self c.loop-conflict.log c.conclude.new.log _ c.in_ok-conclude.field-0 c.if-branch-2.false c.in_ok-conclude.ensures.ok in
    record {
      ready = on.1;
      waiting = on.6;
      inputs = on.4 ∙ c.descend.ensures.onward.inputs ∙ inv.inputs;
      kept = kept_on g.M.Meter.opened g.M.Meter.here g.M.Meter.total c.args.terms.now _ _ _ _ _ _ inv.kept c.in_ok-conclude.ensures.records.kept;
      holds =
          subst (λ (k : Option Question). Holds c.conclude.new.self (known_now k c.conclude.new.log)) (sym c.in_ok-conclude.ensures.records.kept.still_open)
          (record { inputs = on.4 ∙ c.descend.ensures.onward.inputs ∙ inv.holds.inputs ∙ on.0.inputs; clauses = on.0.clauses });
      within = λ room. omega (arith, inv.within room, c.if-len-budget-2.false, c.len-in-loop-conflict.ensures, inv.kept.recorded.count, c.in_ok-conclude.ensures.records.few);
      none_empty = on.2;
      count = λ room. omega (arith, inv.count room, on.3, c.descend.ensures.onward.left_le, c.in_ok-conclude.ensures.ok.one_more);
      settled = inr (settled_on c.args.self.now c.loop-conflict.self c.descend.new.self c.loop-conflict.log c.args.log.now inv.settled c.descend.ensures.decided on.5);
    }

pub returns-in_default-descend : goal.returns-in_default-descend
returns-in_default-descend g c =
    let inv = c.loop-conflict.invariant in
    let ready : Ready c.descend.new.self = c.descend.ensures.onward.ready in
    record {
      kept = inv.kept;
      candidate = λ _. record {
        whole = record { sound = ready.sound; watched = ready.watched; room = ready.room };
        holds = record { inputs = c.descend.ensures.onward.inputs ∙ inv.holds.inputs; clauses = c.descend.ensures.onward.clauses ∙ inv.holds.clauses };
        satisfies =
            candidate_true c.loop-conflict.self c.descend.new.self c.args.terms.now (g.M.Meter.opened c.loop-conflict.meter) c.loop-conflict.log c.descend.result c.in_default-descend.is c.descend.ensures
            inv.holds inv.kept.recorded.valid
            (subst HasQuestion (sym inv.kept.still_open) c.look_at_problem.ensures);
      };
      refuted = λ is. absurd (one_end _ refl is);
      budget = λ is. absurd (not_stopped _ _ is);
      within = inv.within;
      enough = λ _ is. not_stopped _ _ is;
      unit = λ _ _ is. not_stopped _ _ is;
    }

pub conclude-requires-clause-holds : goal.conclude-requires-clause-holds
conclude-requires-clause-holds g c =
    holds_now _ c.loop-conflict.self c.descend.new.self (known_now (g.M.Meter.opened c.loop-conflict.meter) c.loop-conflict.log) c.descend.ensures.onward.inputs c.descend.ensures.onward.clauses
    (holds_for c.loop-conflict.self (known_now (g.M.Meter.opened c.loop-conflict.meter) c.loop-conflict.log) c.loop-conflict.invariant.holds)
