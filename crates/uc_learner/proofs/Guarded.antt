-- Propagation was complete before each decision: how the trail keeps that.
use Rattle.std.proofs.Common.{◌≡◌, ℕ, ◌+◌, ◌*◌, ◌<◌, ◌≤◌, ◌⊎◌, inl, inr, Bool, List, [], ◌∷◌, ◌++◌, Option, None, Some, length, get_or, take, replicate, refl, sym, ◌∙◌, ap, subst, arith}
use Rattle.std.proofs.lemmas.Bool.{cases_lt}
use Rattle.std.proofs.lemmas.List.{get_or_append_left, get_or_push, get_or-take, length_push, length-take-le, take-append-le, take-take, take_at}
use Rattle.uc_circuit.specs.declared.literal.Lit.{Lit}
use Rattle.uc_circuit.specs.Values.{IsFalse}
use Rattle.uc_rings.specs.Watched.{AllGuard}
use Rattle.uc_rings.proofs.Linking.{guards_more}
use Rattle.uc_learner.specs.declared.state.Step.{Step}
use Rattle.uc_learner.specs.declared.state.State.{State}
use Rattle.uc_learner.specs.Trail.{values_after, values_at}
use Rattle.uc_learner.specs.Walked.{IsDecision}
use Rattle.uc_learner.specs.Guarded.{DecisionsAreGuarded}

-- a state made of such lists is guarded
pub guarded_made :
    (s : State) (inputs : List Bool) (trail : List Step) (watched : List (Option Lit))
    → s.inputs.items ≡ inputs → s.trail.items ≡ trail → s.watches.watched.items ≡ watched
    → DecisionsAreGuarded (length inputs) trail watched → DecisionsAreGuarded (length s.inputs.items) s.trail.items s.watches.watched.items
guarded_made s inputs trail watched i t w guarded =
    subst (λ (k : List (Option Lit)). DecisionsAreGuarded (length s.inputs.items) s.trail.items k) (sym w)
    (subst (λ (k : List Step). DecisionsAreGuarded (length s.inputs.items) k watched) (sym t)
    (subst (λ (k : List Bool). DecisionsAreGuarded (length k) trail watched) (sym i) guarded))

pub guarded_none : (n : ℕ) (trail : List Step) (watched : List (Option Lit)) → trail ≡ [] → DecisionsAreGuarded n trail watched
guarded_none n trail watched none = λ i l is. absurd (omega (arith, is.inside, ap length none))

-- a decision among the steps and one more
decision_cases : (trail : List Step) (step : Step) (i : ℕ) (l : Lit) → IsDecision (trail ++ step ∷ []) i l → IsDecision trail i l ⊎ ((i ≡ length trail) × (step.reason ≡ None))
decision_cases trail step i l is =
    elim (cases_lt i (length trail)) [
      | inl h ↦ inl (record {
        inside = h;
        reason = λ d. ap (λ (k : Step). k.reason) (sym (get_or_append_left trail (step ∷ []) d i h)) ∙ is.reason d;
        literal = λ d. ap (λ (k : Step). k.literal) (sym (get_or_append_left trail (step ∷ []) d i h)) ∙ is.literal d;
      })
      | inr past ↦
          let at : i ≡ length trail = omega (arith, is.inside, length_push trail step, past) in
          inr (at, ap (λ (k : Step). k.reason) (sym (get_or_push trail step step i (sym at))) ∙ is.reason step)
    ]

early : (n : ℕ) (trail : List Step) (step : Step) (i : ℕ) → i ≤ length trail → values_at n (trail ++ step ∷ []) i ≡ values_at n trail i
early n trail step i le = ap (values_after (replicate n None)) (take-append-le i trail (step ∷ []) le)

guarded_before :
    (n : ℕ) (trail : List Step) (step : Step) (watched : List (Option Lit)) (i : ℕ) (l : Lit)
    → DecisionsAreGuarded n trail watched → IsDecision trail i l → AllGuard (values_at n (trail ++ step ∷ []) i) (values_at n (trail ++ step ∷ []) i) watched
guarded_before n trail step watched i l guarded is =
    subst (λ p. AllGuard p p watched) (sym (early n trail step i (omega (arith, is.inside)))) (guarded i l is)

pub guarded_implied :
    (n : ℕ) (trail : List Step) (step : Step) (watched : List (Option Lit)) (r : ℕ)
    → step.reason ≡ Some r → DecisionsAreGuarded n trail watched → DecisionsAreGuarded n (trail ++ step ∷ []) watched
guarded_implied n trail step watched r reason guarded = λ i l is.
    elim (decision_cases trail step i l is) [
      | inl before ↦ guarded_before n trail step watched i l guarded before
      | inr last ↦ absurd (let e : Some r ≡ None = sym reason ∙ last.1 in cc)
    ]

pub guarded_decided :
    (n : ℕ) (trail : List Step) (step : Step) (watched : List (Option Lit))
    → AllGuard (values_after (replicate n None) trail) (values_after (replicate n None) trail) watched
    → DecisionsAreGuarded n trail watched → DecisionsAreGuarded n (trail ++ step ∷ []) watched
guarded_decided n trail step watched now guarded = λ i l is.
    elim (decision_cases trail step i l is) [
      | inl before ↦ guarded_before n trail step watched i l guarded before
      | inr last ↦
          let same : values_at n (trail ++ step ∷ []) i ≡ values_after (replicate n None) trail = ap (values_after (replicate n None)) (take_at trail (step ∷ []) i (sym last.0)) in
          subst (λ p. AllGuard p p watched) (sym same) now
    ]

-- a decision among the first steps
pub record AmongFirst (trail : List Step) (n t i : ℕ) (l : Lit) : Type 0 where
  pub before : i < t
  pub decision : IsDecision trail i l
  pub values : values_at n (take t trail) i ≡ values_at n trail i

pub among_first : (trail : List Step) (n t i : ℕ) (l : Lit) → t ≤ length trail → IsDecision (take t trail) i l → AmongFirst trail n t i l
among_first trail n t i l le is =
    let h : i < t = omega (arith, is.inside, length-take-le t trail le) in
    record {
      before = h;
      decision = record {
        inside = omega (arith, h, le);
        reason = λ d. ap (λ (k : Step). k.reason) (sym (get_or-take t trail i d h)) ∙ is.reason d;
        literal = λ d. ap (λ (k : Step). k.literal) (sym (get_or-take t trail i d h)) ∙ is.literal d;
      };
      values = ap (values_after (replicate n None)) (take-take i t trail (omega (arith, h)));
    }

pub guarded_first : (n : ℕ) (trail : List Step) (t : ℕ) (watched : List (Option Lit)) → t ≤ length trail → DecisionsAreGuarded n trail watched → DecisionsAreGuarded n (take t trail) watched
guarded_first n trail t watched le guarded = λ i l is.
    let at : AmongFirst trail n t i l = among_first trail n t i l le is in
    subst (λ p. AllGuard p p watched) (sym at.values) (guarded i l at.decision)

-- a clause whose watched literals are not false at any decision
pub guarded_more :
    (n : ℕ) (trail : List Step) (watched : List (Option Lit)) (o q : Option Lit) (k : ℕ)
    → length watched ≡ 2 * k
    → ((i : ℕ) (l : Lit) → IsDecision trail i l → (m : Lit) → o ≡ Some m → IsFalse (values_at n trail i) m → ⊥)
    → ((i : ℕ) (l : Lit) → IsDecision trail i l → (m : Lit) → q ≡ Some m → IsFalse (values_at n trail i) m → ⊥)
    → DecisionsAreGuarded n trail watched → DecisionsAreGuarded n trail ((watched ++ o ∷ []) ++ q ∷ [])
guarded_more n trail watched o q k even first second guarded = λ i l is.
    guards_more (values_at n trail i) (values_at n trail i) watched o q k even (guarded i l is)
    (λ m e f. absurd (first i l is m e f)) (λ m e f. absurd (second i l is m e f))
