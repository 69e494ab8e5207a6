-- One step of the walk back over the trail keeps what `Walked` says.
use Rattle.std.proofs.Common.{◌≡◌, ℕ, ◌+◌, ◌<◌, Bool, true, false, not, List, [], ◌∷◌, ◌++◌, ◌⊎◌, inl, inr, Option, None, Some, length, get_or, replicate, reverse, refl, sym, ◌∙◌, ap, subst, arith}
use Rattle.std.specs.Prelude.{All, MatchOption}
use Rattle.std.proofs.lemmas.Bool.{cases_eq}
use Rattle.std.proofs.lemmas.List.{get_or_read, reverse-append}
use Rattle.std.proofs.lemmas.List.Elements.{All-push, All-nil}
use Rattle.uc_circuit.specs.declared.literal.Lit.{Lit}
use Rattle.uc_circuit.specs.Literals.{negate}
use Rattle.uc_circuit.specs.Values.{assign, IsFalse, HasNoValue}
use Rattle.uc_learner.specs.declared.state.Step.{Step}
use Rattle.uc_learner.specs.declared.state.State.{State}
use Rattle.uc_learner.specs.Trail.{values_at, IsImplied, IsInput, StepFits}
use Rattle.uc_learner.specs.Analysis.{Explains}
use Rattle.uc_learner.specs.Sound.{Sound}
use Rattle.uc_learner.specs.Walked.{IsDecision, FirstIsOpen, HasShape, Walked}
use Rattle.uc_learner.proofs.Walk.{assign_here, unset_before, walk_unmarked, walk_resolved, walk_kept}
use Rattle.uc_learner.proofs.Steps.{length-values_at, values_at-next, fits_at, values_at-later, unset_at-earlier}

-- what is known of the step at a place
pub record StepAt (s : State) (i : ℕ) (step : Step) : Type 0 where
  pub fits : StepFits s.inputs.items s.clauses.items (values_at (length s.inputs.items) s.trail.items i) step
  pub next : values_at (length s.inputs.items) s.trail.items (i + 1) ≡ assign (values_at (length s.inputs.items) s.trail.items i) step.literal

pub step_at : (s : State) (i : ℕ) (step : Step) → Sound s → i < length s.trail.items → step ≡ get_or s.trail.items i step → StepAt s i step
step_at s i step sound h is = record {
  fits =
      subst (λ (k : Step). StepFits s.inputs.items s.clauses.items (values_at (length s.inputs.items) s.trail.items i) k) (sym is)
      (fits_at s.inputs.items s.clauses.items (replicate (length s.inputs.items) None) s.trail.items i step sound.trail h);
  next =
      values_at-next (length s.inputs.items) s.trail.items i step h
      ∙ ap (λ (k : Step). assign (values_at (length s.inputs.items) s.trail.items i) k.literal) (sym is);
}

-- the kept literals have no value before the step either
kept_before : (w : List (Option Bool)) (t : Lit) (kept : List Lit) → t.var < length w → All (HasNoValue (assign w t)) kept → All (HasNoValue w) kept
kept_before w t kept inside all k d h = (unset_before w t _ inside (all k d h)).1

first_before :
    (trail : List Step) (n i target : ℕ) (rest : List Lit)
    → ((l : Lit) → IsDecision trail i l → length rest ≡ 0 → ⊥) → FirstIsOpen trail n (i + 1) target rest → FirstIsOpen trail n i target rest
first_before trail n i target [] not_bare first = λ j l is h.
    let le : j < i + 1 = first j l is h in
    elim (cases_eq j i) [ inl same ↦ absurd (not_bare l (subst (λ k. IsDecision trail k l) same is) refl) | inr ne ↦ omega (arith, le, ne) ]
first_before trail n i target (m ∷ rest) not_bare first = first

shape_before :
    (trail : List Step) (n i : ℕ) (kept : List Lit) (target : ℕ)
    → ((l : Lit) → IsDecision trail i l → length kept ≡ 1 → ⊥) → HasShape trail n (i + 1) kept target → HasShape trail n i kept target
shape_before trail n i [] target not_bare shape = tt
shape_before trail n i (l ∷ rest) target not_bare shape = record {
  place = shape.place;
  decided = shape.decided;
  decision = shape.decision;
  negates = shape.negates;
  undone = shape.undone;
  target_decided = shape.target_decided;
  target_le = shape.target_le;
  at_le = omega (arith, shape.at_le);
  rest_false = shape.rest_false;
  first_open = first_before trail n i target rest (λ k is none. not_bare k is (let e : length (l ∷ rest) ≡ 1 = omega (arith, none) in e)) shape.first_open;
}

-- a step with a reason is no decision
step_decides : (trail : List Step) (i : ℕ) (step : Step) (l : Lit) → step ≡ get_or trail i step → IsDecision trail i l → step.reason ≡ None
step_decides trail i step l is decision = ap (λ (k : Step). k.reason) is ∙ decision.reason step

-- a decision of the trail
decision_at : (trail : List Step) (i : ℕ) (step : Step) → i < length trail → step ≡ get_or trail i step → step.reason ≡ None → IsDecision trail i step.literal
decision_at trail i step h is none = record {
  inside = h;
  reason = λ d. let e : step ≡ get_or trail i d = get_or_read trail i step h is d in ap (λ (k : Step). k.reason) (sym e) ∙ none;
  literal = λ d. let e : step ≡ get_or trail i d = get_or_read trail i step h is d in ap (λ (k : Step). k.literal) (sym e);
}

pub walked_resolved :
    (s : State) (i : ℕ) (step : Step) (marks after : List Bool) (kept : List Lit) (hints : List ℕ) (n target : ℕ)
    → Sound s → i < length s.trail.items → step ≡ get_or s.trail.items i step → step.reason ≡ Some n
    → length after ≡ length marks
    → ((x : ℕ) → get_or marks x false ≡ true → get_or after x false ≡ true)
    → All (λ l. get_or after l.var false ≡ true) (get_or s.clauses.items n [])
    → Walked s (i + 1) marks kept hints target
    → Walked s i after kept (n ∷ hints) target
walked_resolved s i step marks after kept hints n target sound h is reason same_length grows all walked =
    let at : StepAt s i step = step_at s i step sound h is in
    let w : List (Option Bool) = values_at (length s.inputs.items) s.trail.items i in
    let implied : IsImplied s.clauses.items w step.literal n =
    subst (λ (r : Option ℕ). MatchOption r (IsInput s.inputs.items step.literal) (IsImplied s.clauses.items w step.literal)) reason at.fits.cause in
    let unvalued : All (HasNoValue (assign w step.literal)) kept = subst (λ (k : List (Option Bool)). All (HasNoValue k) kept) at.next walked.unvalued in
    record {
      marks_cover = same_length ∙ walked.marks_cover;
      explains =
          walk_resolved s.clauses.items w step.literal marks after kept hints n at.fits.inside implied.0 implied.1 grows all unvalued
          (subst (λ (k : List (Option Bool)). Explains s.clauses.items k marks kept hints) at.next walked.explains);
      unvalued = kept_before w step.literal kept at.fits.inside unvalued;
      shape =
          shape_before s.trail.items (length s.inputs.items) i kept target
          (λ l decision one. let e : Some n ≡ None = sym reason ∙ step_decides s.trail.items i step l is decision in cc) walked.shape;
    }

-- what does not speak of the clause's shape, where the walk does not need the step
unneeded_parts :
    (s : State) (i : ℕ) (step : Step) (marks : List Bool) (kept : List Lit) (hints : List ℕ) (target after : ℕ)
    → Sound s → i < length s.trail.items → step ≡ get_or s.trail.items i step → get_or marks step.literal.var false ≡ false
    → Walked s (i + 1) marks kept hints target
    → HasShape s.trail.items (length s.inputs.items) i kept after
    → Walked s i marks kept hints after
unneeded_parts s i step marks kept hints target after sound h is unmarked walked shape =
    let at : StepAt s i step = step_at s i step sound h is in
    let w : List (Option Bool) = values_at (length s.inputs.items) s.trail.items i in
    record {
      marks_cover = walked.marks_cover;
      explains =
          walk_unmarked s.clauses.items w step.literal marks kept hints at.fits.inside unmarked at.fits.unset
          (subst (λ (k : List (Option Bool)). Explains s.clauses.items k marks kept hints) at.next walked.explains);
      unvalued = kept_before w step.literal kept at.fits.inside (subst (λ (k : List (Option Bool)). All (HasNoValue k) kept) at.next walked.unvalued);
      shape = shape;
    }

pub walked_unneeded :
    (s : State) (i : ℕ) (step : Step) (marks : List Bool) (kept : List Lit) (hints : List ℕ) (target : ℕ)
    → Sound s → i < length s.trail.items → step ≡ get_or s.trail.items i step → get_or marks step.literal.var false ≡ false
    → (step.reason ≡ None → length kept ≡ 1 → ⊥)
    → Walked s (i + 1) marks kept hints target
    → Walked s i marks kept hints target
walked_unneeded s i step marks kept hints target sound h is unmarked not_bare walked =
    unneeded_parts s i step marks kept hints target target sound h is unmarked walked
    (shape_before s.trail.items (length s.inputs.items) i kept target (λ l decision one. not_bare (step_decides s.trail.items i step l is decision) one) walked.shape)

-- the part of a kept literal that does not speak of the clause's shape
kept_parts :
    (s : State) (i : ℕ) (step : Step) (marks : List Bool) (kept : List Lit) (hints : List ℕ) (target after : ℕ)
    → Sound s → i < length s.trail.items → step ≡ get_or s.trail.items i step
    → Walked s (i + 1) marks kept hints target
    → HasShape s.trail.items (length s.inputs.items) i (kept ++ negate step.literal ∷ []) after
    → Walked s i marks (kept ++ negate step.literal ∷ []) hints after
kept_parts s i step marks kept hints target after sound h is walked shape =
    let at : StepAt s i step = step_at s i step sound h is in
    let w : List (Option Bool) = values_at (length s.inputs.items) s.trail.items i in
    record {
      marks_cover = walked.marks_cover;
      explains =
          walk_kept s.clauses.items w step.literal marks kept hints at.fits.inside at.fits.unset
          (subst (λ (k : List (Option Bool)). Explains s.clauses.items k marks kept hints) at.next walked.explains);
      unvalued =
          All-push (HasNoValue w) kept (negate step.literal)
          (kept_before w step.literal kept at.fits.inside (subst (λ (k : List (Option Bool)). All (HasNoValue k) kept) at.next walked.unvalued))
          at.fits.unset;
      shape = shape;
    }

pub walked_first :
    (s : State) (i : ℕ) (step : Step) (marks : List Bool) (hints : List ℕ) (target : ℕ)
    → Sound s → i < length s.trail.items → step ≡ get_or s.trail.items i step → step.reason ≡ None
    → Walked s (i + 1) marks [] hints target
    → Walked s i marks (negate step.literal ∷ []) hints i
walked_first s i step marks hints target sound h is none walked =
    kept_parts s i step marks [] hints target i sound h is walked (record {
      place = i;
      decided = step.literal;
      decision = decision_at s.trail.items i step h is none;
      negates = refl;
      undone = step.literal;
      target_decided = decision_at s.trail.items i step h is none;
      target_le = omega arith;
      at_le = omega arith;
      rest_false = All-nil (IsFalse (values_at (length s.inputs.items) s.trail.items i));
      first_open = λ j l decision below. below;
    })

-- the first literal behind the asserted one is kept
first_more :
    (s : State) (n i target : ℕ) (rest : List Lit) (m : Lit) → Sound s → n ≡ length s.inputs.items
    → HasNoValue (values_at n s.trail.items i) m
    → FirstIsOpen s.trail.items n (i + 1) target rest → FirstIsOpen s.trail.items n i target (rest ++ m ∷ [])
first_more s n i target [] m sound is unset first = λ j l decision below.
    let le : j < i + 1 = first j l decision below in
    subst (λ k. HasNoValue (values_at k s.trail.items j) m) (sym is)
    (unset_at-earlier s.inputs.items s.clauses.items (replicate (length s.inputs.items) None) s.trail.items j i m.var sound.trail (omega (arith, le))
    (subst (λ k. HasNoValue (values_at k s.trail.items i) m) is unset))
first_more s n i target (k ∷ rest) m sound is unset first = first

pub walked_more :
    (s : State) (i : ℕ) (step : Step) (marks : List Bool) (kept : List Lit) (hints : List ℕ) (target : ℕ)
    → Sound s → i < length s.trail.items → step ≡ get_or s.trail.items i step → 0 < length kept
    → Walked s (i + 1) marks kept hints target
    → Walked s i marks (kept ++ negate step.literal ∷ []) hints target
walked_more s i step marks [] hints target sound h is some walked = absurd (omega arith)
walked_more s i step marks (l ∷ rest) hints target sound h is some walked =
    let n : ℕ = length s.inputs.items in
    let at : StepAt s i step = step_at s i step sound h is in
    let inside : step.literal.var < length (values_at n s.trail.items i) = at.fits.inside in
    let here : get_or (values_at n s.trail.items (i + 1)) step.literal.var None ≡ Some (not step.literal.neg) =
    ap (λ k. get_or k step.literal.var None) at.next ∙ assign_here (values_at n s.trail.items i) step.literal inside in
    let later : get_or (values_at n s.trail.items target) step.literal.var None ≡ Some (not step.literal.neg) =
    values_at-later s.inputs.items s.clauses.items (replicate n None) s.trail.items (i + 1) target step.literal.var (not step.literal.neg) sound.trail walked.shape.at_le here in
    kept_parts s i step marks (l ∷ rest) hints target target sound h is walked (record {
      place = walked.shape.place;
      decided = walked.shape.decided;
      decision = walked.shape.decision;
      negates = walked.shape.negates;
      undone = walked.shape.undone;
      target_decided = walked.shape.target_decided;
      target_le = walked.shape.target_le;
      at_le = omega (arith, walked.shape.at_le);
      rest_false = All-push (IsFalse (values_at n s.trail.items target)) rest (negate step.literal) walked.shape.rest_false later;
      first_open = first_more s n i target rest (negate step.literal) sound refl at.fits.unset walked.shape.first_open;
    })

pub walked_retargeted :
    (s : State) (i : ℕ) (step : Step) (marks : List Bool) (kept : List Lit) (hints : List ℕ) (target : ℕ)
    → Sound s → i < length s.trail.items → step ≡ get_or s.trail.items i step → step.reason ≡ None
    → get_or marks step.literal.var false ≡ false → length kept ≡ 1
    → Walked s (i + 1) marks kept hints target
    → Walked s i marks kept hints i
walked_retargeted s i step marks [] hints target sound h is none unmarked one walked = absurd (omega arith)
walked_retargeted s i step marks (l ∷ m ∷ rest) hints target sound h is none unmarked one walked = absurd (omega arith)
walked_retargeted s i step marks (l ∷ []) hints target sound h is none unmarked one walked =
    unneeded_parts s i step marks (l ∷ []) hints target i sound h is unmarked walked (record {
      place = walked.shape.place;
      decided = walked.shape.decided;
      decision = walked.shape.decision;
      negates = walked.shape.negates;
      undone = step.literal;
      target_decided = decision_at s.trail.items i step h is none;
      target_le = omega (arith, walked.shape.at_le, walked.shape.target_le);
      at_le = omega arith;
      rest_false = All-nil (IsFalse (values_at (length s.inputs.items) s.trail.items i));
      first_open = λ j l decision below. below;
    })

-- the same at what the code has pushed
pub walked_resolved_by :
    (s : State) (i : ℕ) (step : Step) (marks after : List Bool) (kept : List Lit) (hints pushed : List ℕ) (n target : ℕ)
    → Sound s → i < length s.trail.items → step ≡ get_or s.trail.items i step → step.reason ≡ Some n
    → length after ≡ length marks
    → ((x : ℕ) → get_or marks x false ≡ true → get_or after x false ≡ true)
    → All (λ l. get_or after l.var false ≡ true) (get_or s.clauses.items n [])
    → pushed ≡ hints ++ n ∷ []
    → Walked s (i + 1) marks kept (reverse hints) target
    → Walked s i after kept (reverse pushed) target
walked_resolved_by s i step marks after kept hints pushed n target sound h is reason same_length grows all push walked =
    let e : reverse pushed ≡ n ∷ reverse hints = ap reverse push ∙ reverse-append hints (n ∷ []) in
    subst (λ (k : List ℕ). Walked s i after kept k target) (sym e)
    (walked_resolved s i step marks after kept (reverse hints) n target sound h is reason same_length grows all walked)

pub walked_first_by :
    (s : State) (i : ℕ) (step : Step) (marks : List Bool) (kept pushed : List Lit) (hints : List ℕ) (target : ℕ)
    → Sound s → i < length s.trail.items → step ≡ get_or s.trail.items i step → step.reason ≡ None
    → length kept ≡ 0
    → pushed ≡ kept ++ negate step.literal ∷ []
    → Walked s (i + 1) marks kept hints target
    → Walked s i marks pushed hints i
walked_first_by s i step marks (l ∷ kept) pushed hints target sound h is reason none push walked = absurd (omega arith)
walked_first_by s i step marks [] pushed hints target sound h is reason none push walked =
    subst (λ (k : List Lit). Walked s i marks k hints i) (sym push) (walked_first s i step marks hints target sound h is reason walked)

pub walked_more_by :
    (s : State) (i : ℕ) (step : Step) (marks : List Bool) (kept pushed : List Lit) (hints : List ℕ) (target : ℕ)
    → Sound s → i < length s.trail.items → step ≡ get_or s.trail.items i step
    → 0 < length kept
    → pushed ≡ kept ++ negate step.literal ∷ []
    → Walked s (i + 1) marks kept hints target
    → Walked s i marks pushed hints target
walked_more_by s i step marks kept pushed hints target sound h is some push walked =
    subst (λ (k : List Lit). Walked s i marks k hints target) (sym push) (walked_more s i step marks kept hints target sound h is some walked)

-- the places that a step reads are there
pub step_inside :
    (s : State) (i : ℕ) (step : Step) → Sound s → i < length s.trail.items → step ≡ get_or s.trail.items i step
    → step.literal.var < length s.inputs.items
step_inside s i step sound h is =
    omega (arith, (step_at s i step sound h is).fits.inside, length-values_at (length s.inputs.items) s.trail.items i)

pub reason_inside :
    (s : State) (i : ℕ) (step : Step) (n : ℕ) → Sound s → i < length s.trail.items → step ≡ get_or s.trail.items i step
    → step.reason ≡ Some n → n < length s.clauses.items
reason_inside s i step n sound h is reason =
    (subst (λ (r : Option ℕ). MatchOption r (IsInput s.inputs.items step.literal) (IsImplied s.clauses.items (values_at (length s.inputs.items) s.trail.items i) step.literal)) reason
    (step_at s i step sound h is).fits.cause).0

-- what was read of the clauses
pub clause_read : (s : State) (n : ℕ) (read slice : List Lit) → n < length s.clauses.items → read ≡ get_or s.clauses.items n read → slice ≡ read → slice ≡ get_or s.clauses.items n []
clause_read s n read slice h is same = same ∙ get_or_read s.clauses.items n read h is []
