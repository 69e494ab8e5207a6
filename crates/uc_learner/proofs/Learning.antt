-- The end of the walk: the clause is learnt.
use Rattle.std.proofs.Common.{◌≡◌, ℕ, ◌+◌, ◌<◌, Bool, true, false, List, [], ◌∷◌, Option, None, Some, length, get_or, replicate, reverse, sym, ◌∙◌, ap, subst, arith}
use Rattle.std.specs.Prelude.{All, MatchOption}
use Rattle.std.proofs.lemmas.List.{take_all, length-replicate}
use Rattle.std.proofs.lemmas.List.Elements.{All-nil, All-cons}
use Rattle.uc_circuit.specs.declared.literal.Lit.{Lit}
use Rattle.uc_circuit.specs.Literals.{negate}
use Rattle.uc_circuit.specs.Values.{assign, IsFalse, IsFalsified, HasNoValue}
use Rattle.uc_log.specs.Refutes.{deny}
use Rattle.uc_log.proofs.Deny.{length-deny, no_value, value_inside}
use Rattle.uc_learner.proofs.Denied.{deny_elsewhere, deny_false}
use Rattle.uc_learner.specs.declared.state.Step.{Step}
use Rattle.uc_learner.specs.declared.state.State.{State}
use Rattle.uc_learner.specs.Trail.{values_after, values_at, IsImplied, IsInput, StepFits}
use Rattle.uc_learner.specs.Sound.{Sound}
use Rattle.uc_learner.specs.Walked.{IsDecision, Shape, HasShape, Walked}
use Rattle.uc_learner.specs.Teaching.{Teaches, CanTeach}
use Rattle.uc_learner.specs.Learns.{Learns}
use Rattle.uc_learner.proofs.Walk.{assign_here, walk_conflict}
use Rattle.uc_learner.proofs.Steps.{length-values_at, values_at-next, fits_at, falsified_later, unset_at-earlier}

-- the values at the end of the trail
pub values_now : (s : State) → Sound s → s.values.items ≡ values_at (length s.inputs.items) s.trail.items (length s.trail.items)
values_now s sound =
    sound.values ∙ ap (values_after (replicate (length s.inputs.items) None)) (sym (take_all (length s.trail.items) s.trail.items (omega arith)))

pub length-values : (s : State) → Sound s → length s.values.items ≡ length s.inputs.items
length-values s sound = ap length (values_now s sound) ∙ length-values_at (length s.inputs.items) s.trail.items (length s.trail.items)

pub walked_start :
    (s : State) (marks : List Bool) (n target : ℕ)
    → Sound s → n < length s.clauses.items → IsFalsified s.values.items (get_or s.clauses.items n [])
    → length marks ≡ length s.inputs.items
    → All (λ l. get_or marks l.var false ≡ true) (get_or s.clauses.items n [])
    → Walked s (length s.trail.items) marks [] (n ∷ []) target
walked_start s marks n target sound h conflict cover all =
    let w : List (Option Bool) = values_at (length s.inputs.items) s.trail.items (length s.trail.items) in
    record {
      marks_cover = cover;
      explains = walk_conflict s.clauses.items w marks n h (subst (λ (v : List (Option Bool)). IsFalsified v (get_or s.clauses.items n [])) (values_now s sound) conflict) all;
      unvalued = All-nil (HasNoValue w);
      shape = tt;
    }

-- what is known at a decision
pub record DecidedAt (s : State) (place : ℕ) (l : Lit) : Type 0 where
  pub inside : l.var < length s.inputs.items
  pub input : IsInput s.inputs.items l
  pub unset : HasNoValue (values_at (length s.inputs.items) s.trail.items place) l
  pub next : values_at (length s.inputs.items) s.trail.items (place + 1) ≡ assign (values_at (length s.inputs.items) s.trail.items place) l

pub decided_at : (s : State) (place : ℕ) (l : Lit) → Sound s → IsDecision s.trail.items place l → DecidedAt s place l
decided_at s place l sound decision =
    let n : ℕ = length s.inputs.items in
    let w : List (Option Bool) = values_at n s.trail.items place in
    let d : Step = record { literal = l; reason = None } in
    let fits : StepFits s.inputs.items s.clauses.items w (get_or s.trail.items place d) =
    fits_at s.inputs.items s.clauses.items (replicate n None) s.trail.items place d sound.trail decision.inside in
    let same : (get_or s.trail.items place d).literal ≡ l = decision.literal d in
    let is : IsInput s.inputs.items (get_or s.trail.items place d).literal =
    subst (λ (r : Option ℕ). MatchOption r (IsInput s.inputs.items (get_or s.trail.items place d).literal) (IsImplied s.clauses.items w (get_or s.trail.items place d).literal)) (decision.reason d) fits.cause in
    record {
      inside = omega (arith, fits.inside, ap (λ (k : Lit). k.var) same, length-values_at n s.trail.items place);
      input = subst (λ (k : Lit). IsInput s.inputs.items k) same is;
      unset = subst (λ (k : Lit). HasNoValue w k) same fits.unset;
      next = values_at-next n s.trail.items place d decision.inside ∙ ap (assign w) same;
    }

-- the asserted literal is false just after the decision that it negates
pub asserted_false :
    (s : State) (place : ℕ) (decided asserted : Lit) → Sound s → IsDecision s.trail.items place decided → asserted ≡ negate decided
    → IsFalse (values_at (length s.inputs.items) s.trail.items (place + 1)) asserted
asserted_false s place decided asserted sound decision negates =
    let n : ℕ = length s.inputs.items in
    let w : List (Option Bool) = values_at n s.trail.items place in
    let at : DecidedAt s place decided = decided_at s place decided sound decision in
    let here : IsFalse (values_at n s.trail.items (place + 1)) (negate decided) =
    ap (λ k. get_or k decided.var None) at.next ∙ assign_here w decided (rw length-values_at at.inside) in
    subst (λ (k : Lit). IsFalse (values_at n s.trail.items (place + 1)) k) (sym negates) here

-- each literal of the clause is false just after the decision
pub shape_false_at :
    (s : State) (i : ℕ) (l : Lit) (rest : List Lit) (target : ℕ) → Sound s → (shape : HasShape s.trail.items (length s.inputs.items) i (l ∷ rest) target)
    → IsFalsified (values_at (length s.inputs.items) s.trail.items (shape.place + 1)) (l ∷ rest)
shape_false_at s i l rest target sound shape =
    let n : ℕ = length s.inputs.items in
    All-cons (IsFalse (values_at n s.trail.items (shape.place + 1))) l rest
    (asserted_false s shape.place shape.decided l sound shape.decision shape.negates)
    (falsified_later s.inputs.items s.clauses.items (replicate n None) s.trail.items target (shape.place + 1) rest sound.trail (omega (arith, shape.target_le)) shape.rest_false)

-- each literal of the clause is false at the conflict
shape_false :
    (s : State) (i : ℕ) (kept : List Lit) (target : ℕ) → Sound s → HasShape s.trail.items (length s.inputs.items) i kept target
    → IsFalsified (values_at (length s.inputs.items) s.trail.items (length s.trail.items)) kept
shape_false s i [] target sound shape = All-nil (IsFalse (values_at (length s.inputs.items) s.trail.items (length s.trail.items)))
shape_false s i (l ∷ rest) target sound shape =
    falsified_later s.inputs.items s.clauses.items (replicate (length s.inputs.items) None) s.trail.items (shape.place + 1) (length s.trail.items) (l ∷ rest)
    sound.trail (omega (arith, shape.decision.inside)) (shape_false_at s i l rest target sound shape)

falsified_within : (w : List (Option Bool)) (n : ℕ) (c : List Lit) → length w ≡ n → IsFalsified w c → All (λ l. l.var < n) c
falsified_within w n c same false' k d h = omega (arith, value_inside w _ _ (false' k d h), same)

-- a clause of that shape may be taken over
shape_teaches : (s : State) (l : Lit) (rest : List Lit) (target : ℕ) → Sound s → Shape s.trail.items (length s.inputs.items) 0 l rest target → Teaches s l rest target
shape_teaches s l rest target sound shape =
    let n : ℕ = length s.inputs.items in
    let w : List (Option Bool) = values_at n s.trail.items target in
    let at : DecidedAt s shape.place shape.decided = decided_at s shape.place shape.decided sound shape.decision in
    let same : l.var ≡ shape.decided.var = ap (λ (k : Lit). k.var) shape.negates in
    let early : get_or w shape.decided.var None ≡ None =
    unset_at-earlier s.inputs.items s.clauses.items (replicate n None) s.trail.items target shape.place shape.decided.var sound.trail shape.target_le at.unset in
    record {
      undone = shape.undone;
      decision = shape.target_decided;
      inside = omega (arith, at.inside, same);
      input = ap (λ x. get_or s.inputs.items x false) same ∙ at.input;
      unset = ap (λ x. get_or w x None) same ∙ early;
      rest_false = shape.rest_false;
      first_open = shape.first_open;
    }

can_teach : (s : State) (kept : List Lit) (target : ℕ) → Sound s → HasShape s.trail.items (length s.inputs.items) 0 kept target → CanTeach s kept target
can_teach s [] target sound shape = tt
can_teach s (l ∷ rest) target sound shape = shape_teaches s l rest target sound shape

pub walked_end :
    (s : State) (marks : List Bool) (kept : List Lit) (hints : List ℕ) (target : ℕ)
    → Sound s → Walked s 0 marks kept hints target → Learns s kept hints target
walked_end s marks kept hints target sound walked =
    let n : ℕ = length s.inputs.items in
    let none : List (Option Bool) = replicate n None in
    let now : List (Option Bool) = values_at n s.trail.items (length s.trail.items) in
    let false' : IsFalsified now kept = shape_false s 0 kept target sound walked.shape in
    let within : All (λ (l : Lit). l.var < n) kept = falsified_within now n kept (length-values_at n s.trail.items (length s.trail.items)) false' in
    let length-none : length none ≡ n = length-replicate n None in
    let fail : IsFalsified (deny none kept) kept = deny_false now none kept (subst (λ m. All (λ (l : Lit). l.var < m) kept) (sym length-none) within) false' in
    record {
      learnt = record {
        within = within;
        contradicts = record {
          falsified = fail;
          refutes = walked.explains.from (deny none kept) (record {
            same_length = length-deny none kept;
            marked = λ x b is_marked is. absurd (let e : Some b ≡ None = sym is ∙ no_value n x in cc);
            kept_false = fail;
            unset = λ x is away. deny_elsewhere none kept x away ∙ no_value n x;
          });
        };
      };
      teaches = can_teach s kept target sound walked.shape;
    }

-- the start at what the code has made
pub walked_start_by :
    (s : State) (marks : List Bool) (kept slice : List Lit) (hints : List ℕ) (n at target : ℕ)
    → Sound s → n < length s.clauses.items → IsFalsified s.values.items (get_or s.clauses.items n [])
    → at ≡ length s.trail.items
    → length marks ≡ length s.inputs.items
    → slice ≡ get_or s.clauses.items n []
    → All (λ l. get_or marks l.var false ≡ true) slice
    → kept ≡ [] → hints ≡ n ∷ []
    → Walked s at marks kept (reverse hints) target
walked_start_by s marks kept slice hints n at target sound h conflict here cover same all none one =
    let start : Walked s (length s.trail.items) marks [] (n ∷ []) target =
    walked_start s marks n target sound h conflict cover (subst (λ (c : List Lit). All (λ (l : Lit). get_or marks l.var false ≡ true) c) same all) in
    let a : Walked s (length s.trail.items) marks kept (n ∷ []) target = subst (λ (k : List Lit). Walked s (length s.trail.items) marks k (n ∷ []) target) (sym none) start in
    let b : Walked s (length s.trail.items) marks kept (reverse hints) target =
    subst (λ (k : List ℕ). Walked s (length s.trail.items) marks kept (reverse k) target) (sym one) a in
    subst (λ k. Walked s k marks kept (reverse hints) target) (sym here) b

pub walked_end_by :
    (s : State) (marks : List Bool) (kept : List Lit) (hints reversed : List ℕ) (at target : ℕ)
    → Sound s → at ≡ 0 → reversed ≡ reverse hints → Walked s at marks kept (reverse hints) target → Learns s kept reversed target
walked_end_by s marks kept hints reversed at target sound zero' same walked =
    walked_end s marks kept reversed target sound
    (subst (λ (k : List ℕ). Walked s 0 marks kept k target) (sym same) (subst (λ k. Walked s k marks kept (reverse hints) target) zero' walked))
