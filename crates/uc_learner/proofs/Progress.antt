-- How the search's state keeps what it keeps.
use Rattle.std.proofs.Common.{◌≡◌, ℕ, zero, suc, ◌+◌, ◌-◌, ◌^◌, ◌<◌, ◌≤◌, ◌⊎◌, inl, inr, Bool, true, false, not, List, [], ◌∷◌, ◌++◌, Option, None, Some, length, set, get_or, take, replicate, refl, sym, ◌∙◌, ap, subst, arith, get_or-set_same, get_or-set_other, below_more, vec_capacity}
use Rattle.std.specs.Option.{is_some}
use Rattle.std.specs.Prelude.{All, Contains, MatchOption}
use Rattle.std.proofs.lemmas.Bool.{cases_eq}
use Rattle.std.proofs.lemmas.List.{take_all, take-take, length-take-le, set-set, set-get_or, get_or_read, length_push, get_or_push, take_at}
use Rattle.std.proofs.lemmas.List.Elements.{All-push, All-nil, All-cons, All-head, All-tail, All-contains, All-weaker, Contains-get_or, Contains-append_right}
use Rattle.uc_circuit.specs.declared.literal.Lit.{Lit}
use Rattle.uc_circuit.specs.Literals.{negate}
use Rattle.uc_circuit.specs.Values.{assign, IsFalse, IsFalsified, HasNoValue, Forces}
use Rattle.uc_learner.specs.declared.state.Step.{Step}
use Rattle.uc_learner.specs.declared.state.State.{State}
use Rattle.uc_learner.specs.Trail.{values_after, values_at, IsImplied, IsInput, StepFits, TrailFits, DecisionsAreSettled, one_if_free, left}
use Rattle.uc_log.specs.Refutes.{AllWithin}
use Rattle.uc_learner.specs.Sound.{Sound}
use Rattle.uc_learner.specs.Moves.{Pushed, Cut, Ready, Onward, NoDecision, SettledOnce, left_of, unset_count}
use Rattle.uc_circuit.specs.Values.{IsSettled}
use Rattle.uc_learner.specs.ClauseStates.{AllSettled, ConflictIs}
use Rattle.uc_rings.specs.declared.watches.Watches.{Watches}
use Rattle.uc_rings.specs.Watched.{AllGuard}
use Rattle.uc_learner.specs.Guarded.{DecisionsAreGuarded, IsGuarded}
use Rattle.uc_learner.proofs.Guarded.{guarded_made, guarded_implied, guarded_decided}
use Rattle.uc_learner.proofs.Linked.{watched_made}
use Rattle.uc_learner.proofs.Walking.{StepAt, step_at, step_inside}
use Rattle.uc_learner.proofs.Learning.{length-values}
use Rattle.uc_learner.proofs.Steps.{values_after-append, fits_push, fits_take, open_push}
use Rattle.uc_circuit.proofs.Scan.{literal_from_parts}
use Rattle.uc_learner.proofs.Measure.{left_implied, left_decided}

-- taking back the last step
pub cut_more :
    (before s after : State) (step : Step)
    → Cut before (length s.trail.items) s
    → 0 < length s.trail.items
    → step ≡ get_or s.trail.items (length s.trail.items - 1) step
    → after.clauses.items ≡ s.clauses.items
    → after.inputs.items ≡ s.inputs.items
    → after.trail.items ≡ take (length s.trail.items - 1) s.trail.items
    → after.values.items ≡ set s.values.items step.literal.var None
    → after.watches ≡ s.watches
    → vec_capacity after.trail ≡ vec_capacity s.trail
    → Cut before (length after.trail.items) after
cut_more before s after step cut some last clauses inputs trail values watches capacity =
    let n : ℕ = length s.inputs.items in
    let m : ℕ = length s.trail.items - 1 in
    let w : List (Option Bool) = values_at n s.trail.items m in
    let at : StepAt s m step = step_at s m step cut.sound (omega arith) last in
    let m_next : m + 1 ≡ length s.trail.items = omega arith in
    let now : s.values.items ≡ assign w step.literal =
    cut.sound.values
    ∙ ap (values_after (replicate n None)) (sym (take_all (m + 1) s.trail.items (omega arith)))
    ∙ at.next in
    let unset : set w step.literal.var None ≡ w =
    ap (λ o. set w step.literal.var o) (sym at.fits.unset) ∙ set-get_or w step.literal.var None in
    let back : after.values.items ≡ w =
    values ∙ ap (λ v. set v step.literal.var None) now ∙ set-set w step.literal.var (Some (not step.literal.neg)) None ∙ unset in
    let short : length after.trail.items ≡ m = ap length trail ∙ length-take-le m s.trail.items (omega arith) in
    record {
      clauses = clauses ∙ cut.clauses;
      inputs = inputs ∙ cut.inputs;
      trail =
          trail ∙ ap (take m) cut.trail ∙ take-take m (length s.trail.items) before.trail.items (omega arith)
          ∙ ap (λ k. take k before.trail.items) (sym short);
      watches = watches ∙ cut.watches;
      capacity = capacity ∙ cut.capacity;
      sound = record {
        values =
            back ∙ ap (values_after (replicate n None)) (sym trail)
            ∙ ap (λ (k : List Bool). values_after (replicate (length k) None) after.trail.items) (sym inputs);
        trail =
            subst (λ (k : List Step). TrailFits after.inputs.items after.clauses.items (replicate (length after.inputs.items) None) k) (sym trail)
            (subst (λ (c : List (List Lit)). TrailFits after.inputs.items c (replicate (length after.inputs.items) None) (take m s.trail.items)) (sym clauses)
            (subst (λ (k : List Bool). TrailFits k s.clauses.items (replicate (length k) None) (take m s.trail.items)) (sym inputs)
            (fits_take s.inputs.items s.clauses.items (replicate n None) m s.trail.items cut.sound.trail)));
        within =
            subst (λ (c : List (List Lit)). AllWithin (length after.inputs.items) c) (sym clauses)
            (subst (λ (k : List Bool). AllWithin (length k) s.clauses.items) (sym inputs) cut.sound.within);
        numbered = omega (arith, cut.sound.numbered, ap length clauses);
        variables = omega (arith, cut.sound.variables, ap length inputs);
      };
    }

pub cut_none : (s : State) → Sound s → Cut s (length s.trail.items) s
cut_none s sound = record {
  clauses = refl;
  inputs = refl;
  trail = sym (take_all (length s.trail.items) s.trail.items (omega arith));
  watches = refl;
  capacity = refl;
  sound = sound;
}

pub cut_more_by :
    (before s after : State) (step : Step)
    → Cut before (length s.trail.items) s
    → s.trail.items ≡ after.trail.items ++ step ∷ []
    → after.clauses.items ≡ s.clauses.items
    → after.inputs.items ≡ s.inputs.items
    → after.values.items ≡ set s.values.items step.literal.var None
    → after.watches ≡ s.watches
    → vec_capacity after.trail ≡ vec_capacity s.trail
    → Cut before (length after.trail.items) after
cut_more_by before s after step cut popped clauses inputs values watches capacity =
    let long : length s.trail.items ≡ length after.trail.items + 1 = ap length popped ∙ length_push after.trail.items step in
    let place : length s.trail.items - 1 ≡ length after.trail.items = omega arith in
    let last : get_or s.trail.items (length s.trail.items - 1) step ≡ step =
    ap (λ k. get_or s.trail.items k step) place ∙ ap (λ xs. get_or xs (length after.trail.items) step) popped ∙ get_or_push after.trail.items step step (length after.trail.items) refl in
    let front : take (length s.trail.items - 1) s.trail.items ≡ after.trail.items =
    ap (λ k. take k s.trail.items) place ∙ ap (take (length after.trail.items)) popped ∙ take_at after.trail.items (step ∷ []) (length after.trail.items) refl in
    cut_more before s after step cut (omega arith) (sym last) clauses inputs (sym front) values watches capacity

pub popped_inside : (s : State) (rest : List Step) (step : Step) → Sound s → s.trail.items ≡ rest ++ step ∷ [] → step.literal.var < length s.values.items
popped_inside s rest step sound popped =
    let long : length s.trail.items ≡ length rest + 1 = ap length popped ∙ length_push rest step in
    let last : get_or s.trail.items (length rest) step ≡ step =
    ap (λ xs. get_or xs (length rest) step) popped ∙ get_or_push rest step step (length rest) refl in
    omega (arith, step_inside s (length rest) step sound (omega arith) (sym last), length-values s sound)

-- a state made of such lists is sound
pub sound_made :
    (s : State) (inputs : List Bool) (clauses : List (List Lit)) (values : List (Option Bool)) (trail : List Step)
    → s.inputs.items ≡ inputs → s.clauses.items ≡ clauses → s.values.items ≡ values → s.trail.items ≡ trail
    → values ≡ values_after (replicate (length inputs) None) trail
    → TrailFits inputs clauses (replicate (length inputs) None) trail
    → AllWithin (length inputs) clauses
    → length clauses < 2 ^ 32 → length inputs < 2 ^ 32
    → Sound s
sound_made s inputs clauses values trail i c v t is fits within numbered variables = record {
  values =
      v ∙ is ∙ ap (values_after (replicate (length inputs) None)) (sym t)
      ∙ ap (λ (k : List Bool). values_after (replicate (length k) None) s.trail.items) (sym i);
  trail =
      subst (λ (k : List Step). TrailFits s.inputs.items s.clauses.items (replicate (length s.inputs.items) None) k) (sym t)
      (subst (λ (k : List (List Lit)). TrailFits s.inputs.items k (replicate (length s.inputs.items) None) trail) (sym c)
      (subst (λ (k : List Bool). TrailFits k clauses (replicate (length k) None) trail) (sym i) fits));
  within =
      subst (λ (k : List (List Lit)). AllWithin (length s.inputs.items) k) (sym c)
      (subst (λ (k : List Bool). AllWithin (length k) clauses) (sym i) within);
  numbered = omega (arith, numbered, ap length c);
  variables = omega (arith, variables, ap length i);
}

-- the same state, but for its watches and its queue
pub sound_same :
    (s after : State) → after.inputs.items ≡ s.inputs.items → after.clauses.items ≡ s.clauses.items → after.values.items ≡ s.values.items → after.trail.items ≡ s.trail.items → Sound s → Sound after
sound_same s after i c v t sound =
    sound_made after s.inputs.items s.clauses.items s.values.items s.trail.items i c v t sound.values sound.trail sound.within sound.numbered sound.variables

pub cut_same :
    (before : State) (target : ℕ) (s after : State)
    → after.inputs.items ≡ s.inputs.items → after.clauses.items ≡ s.clauses.items → after.values.items ≡ s.values.items → after.trail.items ≡ s.trail.items → after.watches ≡ s.watches
    → vec_capacity after.trail ≡ vec_capacity s.trail
    → Cut before target s → Cut before target after
cut_same before target s after i c v t w capacity cut = record {
  clauses = c ∙ cut.clauses;
  inputs = i ∙ cut.inputs;
  trail = t ∙ cut.trail;
  watches = w ∙ cut.watches;
  capacity = capacity ∙ cut.capacity;
  sound = sound_same s after i c v t cut.sound;
}

pub open_made :
    (s : State) (inputs : List Bool) (clauses : List (List Lit)) (trail : List Step)
    → s.inputs.items ≡ inputs → s.clauses.items ≡ clauses → s.trail.items ≡ trail
    → DecisionsAreSettled clauses (replicate (length inputs) None) trail
    → DecisionsAreSettled s.clauses.items (replicate (length s.inputs.items) None) s.trail.items
open_made s inputs clauses trail i c t are_settled =
    subst (λ (k : List Step). DecisionsAreSettled s.clauses.items (replicate (length s.inputs.items) None) k) (sym t)
    (subst (λ (k : List (List Lit)). DecisionsAreSettled k (replicate (length s.inputs.items) None) trail) (sym c)
    (subst (λ (k : List Bool). DecisionsAreSettled clauses (replicate (length k) None) trail) (sym i) are_settled))

pub left_made :
    (s : State) (inputs : List Bool) (trail : List Step) → s.inputs.items ≡ inputs → s.trail.items ≡ trail
    → left_of s ≡ left inputs (replicate (length inputs) None) trail
left_made s inputs trail i t =
    ap (λ (k : List Step). left s.inputs.items (replicate (length s.inputs.items) None) k) t
    ∙ ap (λ (k : List Bool). left k (replicate (length k) None) trail) i

pub unset-set : (v : List (Option Bool)) (x : ℕ) (b : Bool) → x < length v → get_or v x None ≡ None → unset_count (set v x (Some b)) + 1 ≡ unset_count v
unset-set [] x b h unset = absurd (omega arith)
unset-set (o ∷ v) zero b h unset =
    let e : one_if_free true o ≡ 1 = ap (one_if_free true) unset in
    omega arith
unset-set (o ∷ v) (suc x) b h unset =
    let e : unset_count (set v x (Some b)) + 1 ≡ unset_count v = unset-set v x b (omega arith) unset in
    omega arith

-- each step of the trail gave a variable its value
unset-after :
    (inputs : List Bool) (clauses : List (List Lit)) (v : List (Option Bool)) (xs : List Step)
    → TrailFits inputs clauses v xs → unset_count (values_after v xs) + length xs ≡ unset_count v
unset-after inputs clauses v [] fits = omega arith
unset-after inputs clauses v (s ∷ xs) fits =
    let rest : unset_count (values_after (assign v s.literal) xs) + length xs ≡ unset_count (assign v s.literal) = unset-after inputs clauses (assign v s.literal) xs fits.1 in
    let here : unset_count (assign v s.literal) + 1 ≡ unset_count v = unset-set v s.literal.var (not s.literal.neg) fits.0.inside fits.0.unset in
    omega arith

unset-none : (n : ℕ) → unset_count (replicate n None) ≡ n
unset-none zero = refl
unset-none (suc n) = let e : unset_count (replicate n None) ≡ n = unset-none n in omega arith

pub unset_and_steps : (s : State) → Sound s → unset_count s.values.items + length s.trail.items ≡ length s.inputs.items
unset_and_steps s sound =
    let none : List (Option Bool) = replicate (length s.inputs.items) None in
    omega (arith, ap unset_count sound.values, unset-after s.inputs.items s.clauses.items none s.trail.items sound.trail, unset-none (length s.inputs.items))

-- the trail has room for a literal without a value
pub has_room : (s : State) (l : Lit) → Ready s → l.var < length s.values.items → HasNoValue s.values.items l → length s.trail.items < vec_capacity s.trail
has_room s l ready inside unset =
    omega (arith, unset_and_steps s ready.sound, unset-set s.values.items l.var true inside unset, ready.room)

pub forced_room :
    (s : State) (l : Lit) (n : ℕ) → Ready s → n < length s.clauses.items → Forces s.values.items (get_or s.clauses.items n []) l → length s.trail.items < vec_capacity s.trail
forced_room s l n ready h forces =
    has_room s l ready
    (omega (arith, length-values s ready.sound, All-contains (λ (k : Lit). k.var < length s.inputs.items) (get_or s.clauses.items n []) l (ready.sound.within n [] h) forces.there))
    forces.unset

-- one more step on the trail
pub record Stepped (before after : State) : Type 0 where
  pub onward : Onward before after
  pub unset_less : unset_count after.values.items + 1 ≡ unset_count before.values.items

step_taken :
    (s after : State) (step : Step)
    → Ready s → Pushed s step after
    → StepFits s.inputs.items s.clauses.items (values_after (replicate (length s.inputs.items) None) s.trail.items) step
    → MatchOption step.reason (All (IsSettled (values_after (replicate (length s.inputs.items) None) s.trail.items)) s.clauses.items) (λ _. Unit {0})
    → left s.inputs.items (replicate (length s.inputs.items) None) (s.trail.items ++ step ∷ []) ≤ left_of s
    → DecisionsAreGuarded (length s.inputs.items) (s.trail.items ++ step ∷ []) s.watches.watched.items
    → Stepped s after
step_taken s after step ready pushed fits is_open le guarded =
    let none : List (Option Bool) = replicate (length s.inputs.items) None in
    let now : s.values.items ≡ values_after none s.trail.items = ready.sound.values in
    let values : assign s.values.items step.literal ≡ values_after none (s.trail.items ++ step ∷ []) =
    ap (λ v. assign v step.literal) now ∙ sym (values_after-append none s.trail.items (step ∷ [])) in
    let less : unset_count after.values.items + 1 ≡ unset_count s.values.items =
    ap (λ v. unset_count v + 1) pushed.values
    ∙ unset-set s.values.items step.literal.var (not step.literal.neg) (omega (arith, fits.inside, ap length now)) (ap (λ v. get_or v step.literal.var None) now ∙ fits.unset) in
    record {
      onward = record {
        clauses = pushed.clauses;
        inputs = pushed.inputs;
        ready = record {
          sound =
              sound_made after s.inputs.items s.clauses.items (assign s.values.items step.literal) (s.trail.items ++ step ∷ []) pushed.inputs pushed.clauses pushed.values pushed.trail values
              (fits_push s.inputs.items s.clauses.items none s.trail.items step ready.sound.trail fits) ready.sound.within ready.sound.numbered ready.sound.variables;
          are_settled =
              open_made after s.inputs.items s.clauses.items (s.trail.items ++ step ∷ []) pushed.inputs pushed.clauses pushed.trail
              (open_push s.clauses.items none s.trail.items step ready.are_settled is_open);
          watched = watched_made after s.inputs.items s.clauses.items s.watches pushed.inputs pushed.clauses pushed.watches ready.watched;
          guarded = guarded_made after s.inputs.items (s.trail.items ++ step ∷ []) s.watches.watched.items pushed.inputs pushed.trail (ap (λ (w : Watches). w.watched.items) pushed.watches) guarded;
          room = omega (arith, ready.room, ap length pushed.inputs, pushed.capacity);
        };
        left_le = omega (arith, le, left_made after s.inputs.items (s.trail.items ++ step ∷ []) pushed.inputs pushed.trail);
        unset_le = omega arith;
      };
      unset_less = less;
    }

pub implied_step :
    (s after : State) (step : Step) (n : ℕ)
    → Ready s → Pushed s step after
    → step.reason ≡ Some n → n < length s.clauses.items → Forces s.values.items (get_or s.clauses.items n []) step.literal
    → Stepped s after
implied_step s after step n ready pushed reason h forces =
    let none : List (Option Bool) = replicate (length s.inputs.items) None in
    let w : List (Option Bool) = values_after none s.trail.items in
    let forces' : Forces w (get_or s.clauses.items n []) step.literal = subst (λ (v : List (Option Bool)). Forces v (get_or s.clauses.items n []) step.literal) ready.sound.values forces in
    let inside : step.literal.var < length s.inputs.items =
    All-contains (λ (l : Lit). l.var < length s.inputs.items) (get_or s.clauses.items n []) step.literal (ready.sound.within n [] h) forces.there in
    let inside' : step.literal.var < length w = omega (arith, inside, ap length ready.sound.values, length-values s ready.sound) in
    step_taken s after step ready pushed
    (record {
      inside = inside';
      unset = forces'.unset;
      cause = subst (λ (r : Option ℕ). MatchOption r (IsInput s.inputs.items step.literal) (IsImplied s.clauses.items w step.literal)) (sym reason) (h, forces');
    })
    (subst (λ (r : Option ℕ). MatchOption r (All (IsSettled w) s.clauses.items) (λ _. Unit {0})) (sym reason) tt)
    (left_implied s.inputs.items none s.trail.items step n reason inside' forces'.unset)
    (guarded_implied (length s.inputs.items) s.trail.items step s.watches.watched.items n reason ready.guarded)

pub decided_step :
    (s after : State) (step : Step)
    → Ready s → Pushed s step after
    → step.reason ≡ None → IsInput s.inputs.items step.literal → step.literal.var < length s.inputs.items → HasNoValue s.values.items step.literal
    → AllSettled s.clauses.items s.values.items → IsGuarded s
    → Stepped s after
decided_step s after step ready pushed reason input inside unset settled guards =
    let none : List (Option Bool) = replicate (length s.inputs.items) None in
    let w : List (Option Bool) = values_after none s.trail.items in
    let inside' : step.literal.var < length w = omega (arith, inside, ap length ready.sound.values, length-values s ready.sound) in
    let unset' : HasNoValue w step.literal = subst (λ (v : List (Option Bool)). HasNoValue v step.literal) ready.sound.values unset in
    let settled' : AllSettled s.clauses.items w = subst (λ (v : List (Option Bool)). AllSettled s.clauses.items v) ready.sound.values settled in
    step_taken s after step ready pushed
    (record {
      inside = inside';
      unset = unset';
      cause = subst (λ (r : Option ℕ). MatchOption r (IsInput s.inputs.items step.literal) (IsImplied s.clauses.items w step.literal)) (sym reason) input;
    })
    (subst (λ (r : Option ℕ). MatchOption r (All (IsSettled w) s.clauses.items) (λ _. Unit {0})) (sym reason) settled')
    (omega (arith, left_decided s.inputs.items none s.trail.items step reason input inside' unset'))
    (guarded_decided (length s.inputs.items) s.trail.items step s.watches.watched.items
    (subst (λ (v : List (Option Bool)). AllGuard v v s.watches.watched.items) ready.sound.values guards) ready.guarded)

pub onward_refl : (s : State) → Ready s → Onward s s
onward_refl s ready = record { clauses = refl; inputs = refl; ready = ready; left_le = omega arith; unset_le = omega arith }

pub onward_trans : (a b c : State) → Onward a b → Onward b c → Onward a c
onward_trans a b c p q = record {
  clauses = q.clauses ∙ p.clauses;
  inputs = q.inputs ∙ p.inputs;
  ready = q.ready;
  left_le = omega (arith, p.left_le, q.left_le);
  unset_le = omega (arith, p.unset_le, q.unset_le);
}

pub undecided_more : (s after : State) (step : Step) (n : ℕ) → NoDecision s → Pushed s step after → step.reason ≡ Some n → NoDecision after
undecided_more s after step n all pushed reason =
    subst (All (λ (k : Step). k.reason ≡ None → ⊥)) (sym pushed.trail)
    (All-push (λ (k : Step). k.reason ≡ None → ⊥) s.trail.items step all (λ e. let f : Some n ≡ None = sym reason ∙ e in cc))

pub chosen_more :
    (s : State) (n : ℕ)
    → ((x : ℕ) → x < n → get_or s.inputs.items x false ≡ true → get_or s.values.items x None ≡ None → ⊥)
    → (get_or s.inputs.items n false ≡ true → get_or s.values.items n None ≡ None → ⊥)
    → (x : ℕ) → x < n + 1 → get_or s.inputs.items x false ≡ true → get_or s.values.items x None ≡ None → ⊥
chosen_more s n below here = below_more _ n below here

pub implied_inside : (s : State) (l : Lit) (n : ℕ) → Sound s → n < length s.clauses.items → Forces s.values.items (get_or s.clauses.items n []) l → l.var < length s.values.items
implied_inside s l n sound h forces =
    omega (
      arith,
      length-values s sound,
      All-contains (λ (k : Lit). k.var < length s.inputs.items) (get_or s.clauses.items n []) l (sound.within n [] h) forces.there,
    )

pub settled_once : (s after : State) → Onward s after → AllSettled after.clauses.items after.values.items → SettledOnce s.clauses.items
settled_once s after onward settled = record {
  values = after.values.items;
  settled = subst (λ (k : List (List Lit)). AllSettled k after.values.items) onward.clauses settled;
}

pub decided_after : (s mid after : State) → SettledOnce s.clauses.items ⊎ (NoDecision s → NoDecision mid) → (NoDecision mid → NoDecision after) → SettledOnce s.clauses.items ⊎ (NoDecision s → NoDecision after)
decided_after s mid after (inl once) keeps = inl once
decided_after s mid after (inr none) keeps = inr (λ h. keeps (none h))

-- a value that was read and is there
pub not_both : (v : List (Option Bool)) (x : ℕ) (o : Option Bool) (b : Bool) → o ≡ get_or v x o → is_some o ≡ not b → b ≡ false → x < length v → get_or v x None ≡ None → ⊥
not_both v x o b read test is h unset =
    let e : o ≡ None = get_or_read v x o h read None ∙ unset in
    let f : is_some o ≡ true = test ∙ ap not is in
    let g : is_some o ≡ false = ap is_some e in
    let k : true ≡ false = sym f ∙ g in
    cc

-- a decision keeps what a loop of decisions keeps, once all clauses are settled
pub decided_once : (s mid after : State) → Onward s mid → AllSettled mid.clauses.items mid.values.items → SettledOnce s.clauses.items ⊎ (NoDecision s → NoDecision after)
decided_once s mid after onward settled = inl (settled_once s mid onward settled)

pub conflict_none : (s : State) (r : Option ℕ) → ConflictIs s r → ((n : ℕ) → r ≡ Some n → ⊥) → AllSettled s.clauses.items s.values.items
conflict_none s None is none = is
conflict_none s (Some n) is none = absurd (none n refl)
