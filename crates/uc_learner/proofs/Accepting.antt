-- A clause that was found without proof may be learnt where these checks pass.
use Rattle.std.proofs.Common.{◌≡◌, ℕ, suc, ◌+◌, ◌<◌, ◌≤◌, inl, inr, Bool, true, false, not, List, [], ◌∷◌, Option, None, Some, length, get_or, replicate, refl, sym, ◌∙◌, ap, subst, arith}
use Rattle.std.proofs.lemmas.Bool.{cases_eq, cases_lt}
use Rattle.std.proofs.lemmas.List.{get_or_default, get_or_read}
use Rattle.uc_circuit.specs.declared.literal.Lit.{Lit}
use Rattle.uc_circuit.specs.Literals.{negate}
use Rattle.uc_circuit.specs.Values.{assign, IsFalse, IsFalsified, HasNoValue}
use Rattle.uc_learner.specs.declared.state.Step.{Step}
use Rattle.uc_learner.specs.declared.state.State.{State}
use Rattle.uc_learner.specs.Trail.{values_at, IsInput, StepFits}
use Rattle.uc_learner.specs.Sound.{Sound}
use Rattle.uc_learner.specs.Walked.{IsDecision, FirstIsOpen}
use Rattle.uc_learner.specs.Teaching.{Teaches, CanTeach}
use Rattle.uc_learner.specs.Accepted.{FalsifiedAt, FalsifiedBefore, RestFalsified, FirstDecision, BehindSecond}
use Rattle.uc_learner.proofs.Walk.{assign_here}
use Rattle.uc_learner.proofs.Steps.{length-values_at, values_at-next, fits_at, values_at-later, unset_at-earlier}

twice : (b : Bool) → not (not b) ≡ b
twice true = refl
twice false = refl

negated : (l m : Lit) → m ≡ negate l → (m.var ≡ l.var) × (not m.neg ≡ l.neg)
negated l m is = (ap (λ (k : Lit). k.var) is, ap (λ (k : Lit). not k.neg) is ∙ twice l.neg)

-- from the place on the literal is false
pub false_after :
    (s : State) (l : Lit) (p t : ℕ) → Sound s → FalsifiedAt s.trail.items l p → p < t → IsFalse (values_at (length s.inputs.items) s.trail.items t) l
false_after s l p t sound at h =
    let n : ℕ = length s.inputs.items in
    let none : List (Option Bool) = replicate n None in
    let w : List (Option Bool) = values_at n s.trail.items p in
    let d : Step = record { literal = l; reason = None } in
    let m : Lit = (get_or s.trail.items p d).literal in
    let is : (m.var ≡ l.var) × (not m.neg ≡ l.neg) = negated l m (at.is d) in
    let fits : StepFits s.inputs.items s.clauses.items w (get_or s.trail.items p d) = fits_at s.inputs.items s.clauses.items none s.trail.items p d sound.trail at.inside in
    let here : get_or (values_at n s.trail.items (p + 1)) l.var None ≡ Some l.neg =
    ap (λ x. get_or (values_at n s.trail.items (p + 1)) x None) (sym is.0) ∙ ap (λ k. get_or k m.var None) (values_at-next n s.trail.items p d at.inside)
    ∙ assign_here w m fits.inside ∙ ap (λ b. Some b) is.1 in
    values_at-later s.inputs.items s.clauses.items none s.trail.items (p + 1) t l.var l.neg sound.trail (omega (arith, h)) here

-- up to the place the literal has no value
pub unset_before_place :
    (s : State) (l : Lit) (p t : ℕ) → Sound s → FalsifiedAt s.trail.items l p → t ≤ p → HasNoValue (values_at (length s.inputs.items) s.trail.items t) l
unset_before_place s l p t sound at le =
    let n : ℕ = length s.inputs.items in
    let none : List (Option Bool) = replicate n None in
    let w : List (Option Bool) = values_at n s.trail.items p in
    let d : Step = record { literal = l; reason = None } in
    let m : Lit = (get_or s.trail.items p d).literal in
    let is : (m.var ≡ l.var) × (not m.neg ≡ l.neg) = negated l m (at.is d) in
    let fits : StepFits s.inputs.items s.clauses.items w (get_or s.trail.items p d) = fits_at s.inputs.items s.clauses.items none s.trail.items p d sound.trail at.inside in
    unset_at-earlier s.inputs.items s.clauses.items none s.trail.items t p l.var sound.trail le (ap (λ x. get_or w x None) (sym is.0) ∙ fits.unset)

inside_at : (s : State) (l : Lit) (p : ℕ) → Sound s → FalsifiedAt s.trail.items l p → l.var < length s.inputs.items
inside_at s l p sound at =
    let n : ℕ = length s.inputs.items in
    let d : Step = record { literal = l; reason = None } in
    let m : Lit = (get_or s.trail.items p d).literal in
    let is : (m.var ≡ l.var) × (not m.neg ≡ l.neg) = negated l m (at.is d) in
    let fits : StepFits s.inputs.items s.clauses.items (values_at n s.trail.items p) (get_or s.trail.items p d) =
    fits_at s.inputs.items s.clauses.items (replicate n None) s.trail.items p d sound.trail at.inside in
    omega (arith, fits.inside, is.0, length-values_at n s.trail.items p)

-- where the trail is cut for the second literal, or for none
abbrev pub OpenFrom : List Step → ℕ → List Lit → Type 0
OpenFrom trail from [] = from ≡ 0
OpenFrom trail from (m ∷ rest) = (p : ℕ) × FalsifiedAt trail m p × (from ≡ p + 1)

open_from :
    (s : State) (from t : ℕ) (rest : List Lit) → Sound s → OpenFrom s.trail.items from rest → FirstDecision s.trail.items from t
    → FirstIsOpen s.trail.items (length s.inputs.items) 0 t rest
open_from s from t [] sound is first = λ j l decision h. absurd (first.none_before j l decision (omega (arith, is)) h)
open_from s from t (m ∷ rest) sound is first = λ j l decision h.
    unset_before_place s m is.0 j sound is.1 (elim (cases_lt is.0 j) [ inl gt ↦ absurd (first.none_before j l decision (omega (arith, gt, is.2)) h) | inr past ↦ omega (arith, past) ])

pub teaches_by :
    (s : State) (l : Lit) (rest : List Lit) (p from t : ℕ)
    → Sound s → FalsifiedAt s.trail.items l p → OpenFrom s.trail.items from rest → FirstDecision s.trail.items from t
    → t ≤ p → IsInput s.inputs.items l → IsFalsified (values_at (length s.inputs.items) s.trail.items t) rest
    → Teaches s l rest t
teaches_by s l rest p from t sound at is first le input rest_false =
    let d : Step = record { literal = l; reason = None } in
    record {
      undone = (get_or s.trail.items t d).literal;
      decision = record {
        inside = first.inside;
        reason = first.reason;
        literal = λ e. ap (λ (k : Step). k.literal) (get_or_default s.trail.items t e d first.inside);
      };
      inside = inside_at s l p sound at;
      input = input;
      unset = unset_before_place s l p t sound at le;
      rest_false = rest_false;
      first_open = open_from s from t rest sound is first;
    }

-- what the code has checked of a clause
pub record Checked (clause : List Lit) (p from t : ℕ) (l : Lit) (trail : List Step) (choices : List Bool) : Type 0 where
  pub at : FalsifiedAt trail l p
  pub behind : BehindSecond trail clause from
  pub first : FirstDecision trail from t
  pub input : IsInput choices l
  pub before : RestFalsified trail t clause (length clause)

teaches_checked :
    (s : State) (clause : List Lit) (l : Lit) (p from t : ℕ)
    → l ≡ get_or clause 0 l → 0 < length clause → t ≤ p → Sound s → Checked clause p from t l s.trail.items s.inputs.items
    → CanTeach s clause t
teaches_checked s [] l p from t first some le sound checked = absurd (omega arith)
teaches_checked s (m ∷ []) l p from t first some le sound checked =
    subst (λ (k : Lit). Teaches s k [] t) first
    (teaches_by s l [] p from t sound checked.at checked.behind checked.first le checked.input (λ k d h. absurd (omega (arith, h))))
teaches_checked s (m ∷ q ∷ rest) l p from t first some le sound checked =
    subst (λ (k : Lit). Teaches s k (q ∷ rest) t) first
    (teaches_by s l (q ∷ rest) p from t sound checked.at checked.behind checked.first le checked.input
    (λ k d h. let f : FalsifiedBefore s.trail.items t (get_or (q ∷ rest) k d) = checked.before (suc k) d (omega arith) (omega (arith, h)) in false_after s (get_or (q ∷ rest) k d) f.place t sound f.at f.before))

-- a clause that passed may be taken over by each state with that trail
pub can_teach :
    (trail : List Step) (choices : List Bool) (clause : List Lit) (l : Lit) (p from t : ℕ)
    → l ≡ get_or clause 0 l → 0 < length clause → t ≤ p → Checked clause p from t l trail choices
    → (s : State) → s.trail.items ≡ trail → s.inputs.items ≡ choices → Sound s → CanTeach s clause t
can_teach trail choices clause l p from t first some le checked s same same_choices sound =
    teaches_checked s clause l p from t first some le sound
    (subst (λ (k : List Bool). Checked clause p from t l s.trail.items k) (sym same_choices)
    (subst (λ (k : List Step). Checked clause p from t l k choices) (sym same) checked))

-- one step of the search for a decision
pub none_more :
    (trail : List Step) (from place : ℕ) (step : Step) (n : ℕ)
    → step ≡ get_or trail place step → step.reason ≡ Some n
    → ((j : ℕ) (m : Lit) → IsDecision trail j m → from ≤ j → j < place → ⊥)
    → (j : ℕ) (m : Lit) → IsDecision trail j m → from ≤ j → j < place + 1 → ⊥
none_more trail from place step n is some below j m decision ge lt =
    elim (cases_eq j place) [
      | inl same ↦
          let e : (get_or trail place step).reason ≡ None = subst (λ k. (get_or trail k step).reason ≡ None) same (decision.reason step) in
          let f : Some n ≡ None = sym some ∙ ap (λ (k : Step). k.reason) is ∙ e in
          absurd cc
      | inr ne ↦ below j m decision ge (omega (arith, ne, lt))
    ]

pub first_decision :
    (trail : List Step) (from place : ℕ) (step : Step)
    → from ≤ place → place < length trail → step ≡ get_or trail place step → step.reason ≡ None
    → ((j : ℕ) (m : Lit) → IsDecision trail j m → from ≤ j → j < place → ⊥)
    → FirstDecision trail from place
first_decision trail from place step le inside is none below = record {
  le = le;
  inside = inside;
  reason = λ d. let e : step ≡ get_or trail place d = get_or_read trail place step inside is d in ap (λ (k : Step). k.reason) (sym e) ∙ none;
  none_before = below;
}

pub falsified_before : (trail : List Step) (target p : ℕ) (l : Lit) → FalsifiedAt trail l p → p < target → FalsifiedBefore trail target l
falsified_before trail target p l at before = record { place = p; before = before; at = at }

-- one literal more
pub rest_more :
    (trail : List Step) (target : ℕ) (clause : List Lit) (place : ℕ) (l : Lit)
    → place < length clause → l ≡ get_or clause place l → FalsifiedBefore trail target l
    → RestFalsified trail target clause place → RestFalsified trail target clause (place + 1)
rest_more trail target clause place l inside is here before i d some lt =
    elim (cases_eq i place) [
      | inl same ↦ subst (λ k. FalsifiedBefore trail target (get_or clause k d)) (sym same) (subst (FalsifiedBefore trail target) (get_or_read clause place l inside is d) here)
      | inr ne ↦ before i d some (omega (arith, ne, lt))
    ]

-- the same where the step was read in place
pub none_more_at :
    (trail : List Step) (from place : ℕ) (d : Step) (n : ℕ)
    → (get_or trail place d).reason ≡ Some n
    → ((j : ℕ) (m : Lit) → IsDecision trail j m → from ≤ j → j < place → ⊥)
    → (j : ℕ) (m : Lit) → IsDecision trail j m → from ≤ j → j < place + 1 → ⊥
none_more_at trail from place d n some below j m decision ge lt =
    elim (cases_eq j place) [
      | inl same ↦
          let e : (get_or trail place d).reason ≡ None = subst (λ k. (get_or trail k d).reason ≡ None) same (decision.reason d) in
          let f : Some n ≡ None = sym some ∙ e in
          absurd cc
      | inr ne ↦ below j m decision ge (omega (arith, ne, lt))
    ]
