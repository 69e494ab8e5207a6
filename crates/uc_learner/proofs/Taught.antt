-- Taking over a learnt clause.
use Rattle.std.proofs.Common.{◌≡◌, ℕ, ◌+◌, ◌*◌, ◌^◌, ◌<◌, ◌≤◌, ◌⊎◌, inl, inr, Bool, false, List, [], ◌∷◌, ◌++◌, Option, None, Some, length, get_or, take, replicate, refl, sym, ◌∙◌, ap, subst, arith, vec_capacity}
use Rattle.std.specs.Prelude.{All, MatchOption}
use Rattle.std.proofs.lemmas.List.{get_or_default, get_or_push, length_push, length-take-le, take_at}
use Rattle.std.proofs.lemmas.List.Elements.{All-push, All-cons, All-head, All-tail, All-weaker, Contains-get_or}
use Rattle.uc_circuit.specs.declared.literal.Lit.{Lit}
use Rattle.uc_circuit.specs.Values.{assign, IsFalse, IsSettled, HasNoValue, Forces}
use Rattle.uc_rings.specs.Lists.{place_of}
use Rattle.uc_rings.specs.declared.watches.Watches.{Watches}
use Rattle.uc_rings.specs.Pairs.{IsTrueIn}
use Rattle.uc_rings.specs.Watched.{Linked, IsLinked, WatchesFirst, HasAdded, OtherIsTrue, AllGuard}
use Rattle.uc_rings.proofs.Linking.{guards_more}
use Rattle.uc_rings.proofs.Guarding.{guard_later}
use Rattle.uc_learner.specs.declared.state.Step.{Step}
use Rattle.uc_learner.specs.declared.state.State.{State}
use Rattle.uc_learner.specs.Trail.{values_after, values_at, IsImplied, IsInput, StepFits, TrailFits, DecisionsAreSettled, left}
use Rattle.uc_learner.specs.Sound.{Sound, AreWatched}
use Rattle.uc_learner.specs.Walked.{IsDecision}
use Rattle.uc_learner.specs.Teaching.{Teaches}
use Rattle.uc_learner.specs.Guarded.{DecisionsAreGuarded}
use Rattle.uc_learner.specs.Moves.{Pushed, Cut, Ready}
use Rattle.uc_learner.specs.Propagated.{passed, Waiting}
use Rattle.uc_learner.specs.Learned.{IsTaught, LearnedBy}
use Rattle.uc_learner.proofs.Walk.{assign_here, assign_keeps}
use Rattle.uc_learner.proofs.Linked.{watched_made, place_below}
use Rattle.uc_learner.proofs.Guarded.{AmongFirst, among_first, guarded_made, guarded_implied, guarded_first, guarded_more}
use Rattle.uc_learner.proofs.Learning.{length-values}
use Rattle.uc_learner.proofs.Steps.{length-values_at, fits_take, fits_push, fits_more, open_take, open_push, open_more, unset_at-earlier, values_after-append}
use Rattle.uc_learner.proofs.Measure.{left_backjump_at}
use Rattle.uc_learner.proofs.Progress.{sound_made, open_made, left_made, unset_and_steps}

-- what is known of the asserted literal at the target
pub record Asserts (s : State) (l : Lit) (rest : List Lit) (target : ℕ) : Type 0 where
  pub inside : l.var < length s.inputs.items
  pub input : IsInput s.inputs.items l
  pub forces : Forces (values_at (length s.inputs.items) s.trail.items target) (l ∷ rest) l

asserts : (s : State) (l : Lit) (rest : List Lit) (target : ℕ) → Teaches s l rest target → Asserts s l rest target
asserts s l rest target shape =
    let w : List (Option Bool) = values_at (length s.inputs.items) s.trail.items target in
    record {
      inside = shape.inside;
      input = shape.input;
      forces = record {
        there = Contains-get_or (l ∷ rest) 0 l (omega arith);
        unset = shape.unset;
        rest =
            All-cons (λ (k : Lit). (k ≡ l) ⊎ IsFalse w k) l rest (inl refl)
            (All-weaker (IsFalse w) (λ (k : Lit). (k ≡ l) ⊎ IsFalse w k) (λ k f. inr f) rest shape.rest_false);
      };
    }

-- what the learnt clause watches: the asserted literal, and one that has no value at the decisions before the target
record LearntWatches (s : State) (l : Lit) (target : ℕ) (o q : Option Lit) : Type 0 where
  first : (k : Lit) → o ≡ Some k → k ≡ l
  second : (k : Lit) → q ≡ Some k → o ≡ Some l
  second_open : (k : Lit) → q ≡ Some k → (j : ℕ) (d : Lit) → IsDecision s.trail.items j d → j < target → HasNoValue (values_at (length s.inputs.items) s.trail.items j) k

no_literal : (o : Option Lit) (k : Lit) → o ≡ None → o ≡ Some k → ⊥
no_literal o k none is = let e : None ≡ Some k = sym none ∙ is in cc

same_literal : (o : Option Lit) (k m : Lit) → o ≡ Some m → o ≡ Some k → k ≡ m
same_literal o k m is is_k = let e : Some m ≡ Some k = sym is ∙ is_k in let f : m ≡ k = cc in sym f

learnt_watches :
    (s : State) (l : Lit) (rest : List Lit) (target : ℕ) (o q : Option Lit)
    → Teaches s l rest target → Asserts s l rest target → WatchesFirst (l ∷ rest) o q → LearntWatches s l target o q
learnt_watches s l [] target o q shape known fits = record {
  first = λ k e. absurd (no_literal o k fits.0 e);
  second = λ k e. absurd (no_literal q k fits.1 e);
  second_open = λ k e. absurd (no_literal q k fits.1 e);
}
learnt_watches s l (m ∷ rest) target o q shape known fits =
    let w : List (Option Bool) = values_at (length s.inputs.items) s.trail.items target in
    let m_false : IsFalse w m = All-head (IsFalse w) m rest shape.rest_false in
    let ne : l ≡ m → ⊥ = λ same. let e : None ≡ Some m.neg = sym known.forces.unset ∙ ap (λ (k : Lit). get_or w k.var None) same ∙ m_false in cc in
    let two : (o ≡ Some l) × (q ≡ Some m) = fits ne in
    record {
      first = λ k e. same_literal o k l two.0 e;
      second = λ k e. two.0;
      second_open = λ k e j d decision before.
          subst (λ (x : Lit). HasNoValue (values_at (length s.inputs.items) s.trail.items j) x) (sym (same_literal q k m two.1 e)) (shape.first_open j d decision before);
    }

not_false : (v : List (Option Bool)) (l : Lit) → HasNoValue v l → IsFalse v l → ⊥
not_false v l unset f = let e : None ≡ Some l.neg = sym unset ∙ f in cc

-- two different literals without a value settle a clause
two_open : (v : List (Option Bool)) (l m : Lit) (rest : List Lit) → HasNoValue v l → HasNoValue v m → (l ≡ m → ⊥) → IsSettled v (l ∷ m ∷ rest)
two_open v l m rest l_unset m_unset ne = record {
  not_false = λ all. not_false v l l_unset (All-head (IsFalse v) l (m ∷ rest) all);
  not_unit = λ k forces.
      let tail : All (λ (x : Lit). (x ≡ k) ⊎ IsFalse v x) (m ∷ rest) = All-tail (λ (x : Lit). (x ≡ k) ⊎ IsFalse v x) l (m ∷ rest) forces.rest in
      elim (All-head (λ (x : Lit). (x ≡ k) ⊎ IsFalse v x) l (m ∷ rest) forces.rest) [
        | inl l_is ↦ elim (All-head (λ (x : Lit). (x ≡ k) ⊎ IsFalse v x) m rest tail) [
          | inl m_is ↦ ne (l_is ∙ sym m_is)
          | inr f ↦ not_false v m m_unset f
        ]
        | inr f ↦ not_false v l l_unset f
      ];
}

settled_by :
    (s : State) (l : Lit) (rest : List Lit) (target i : ℕ) (o : Lit)
    → Ready s → Teaches s l rest target → AmongFirst s.trail.items (length s.inputs.items) target i o → HasNoValue (values_at (length s.inputs.items) s.trail.items i) l
    → IsSettled (values_at (length s.inputs.items) s.trail.items i) (l ∷ rest)
settled_by s l [] target i o ready shape at unset = absurd (let h : i < 0 = shape.first_open i o at.decision at.before in omega (arith, h))
settled_by s l (m ∷ rest) target i o ready shape at unset =
    let w : List (Option Bool) = values_at (length s.inputs.items) s.trail.items target in
    let m_false : IsFalse w m = All-head (IsFalse w) m rest shape.rest_false in
    let ne : l ≡ m → ⊥ = λ same. let e : None ≡ Some m.neg = sym shape.unset ∙ ap (λ (k : Lit). get_or w k.var None) same ∙ m_false in cc in
    two_open (values_at (length s.inputs.items) s.trail.items i) l m rest unset (shape.first_open i o at.decision at.before) ne

-- the learnt clause was settled just before each decision that stays
learnt_settled :
    (s : State) (l : Lit) (rest : List Lit) (target i : ℕ)
    → Ready s → Teaches s l rest target → i < length (take target s.trail.items) → ((d : Step) → (get_or (take target s.trail.items) i d).reason ≡ None)
    → IsSettled (values_after (replicate (length s.inputs.items) None) (take i (take target s.trail.items))) (l ∷ rest)
learnt_settled s l rest target i ready shape h none =
    let n : ℕ = length s.inputs.items in
    let le : target ≤ length s.trail.items = omega (arith, shape.decision.inside) in
    let d : Step = record { literal = l; reason = None } in
    let o : Lit = (get_or (take target s.trail.items) i d).literal in
    let is : IsDecision (take target s.trail.items) i o = record { inside = h; reason = none; literal = λ e. ap (λ (k : Step). k.literal) (get_or_default (take target s.trail.items) i e d h) } in
    let at : AmongFirst s.trail.items n target i o = among_first s.trail.items n target i o le is in
    let unset : HasNoValue (values_at n s.trail.items i) l =
    unset_at-earlier s.inputs.items s.clauses.items (replicate n None) s.trail.items i target l.var ready.sound.trail (omega (arith, at.before)) shape.unset in
    subst (λ (v : List (Option Bool)). IsSettled v (l ∷ rest)) (sym at.values) (settled_by s l rest target i o ready shape at unset)

-- the decisions that stay are guarded with the learnt clause
learnt_guarded :
    (s : State) (l : Lit) (rest : List Lit) (target : ℕ) (o q : Option Lit)
    → Ready s → Teaches s l rest target → Asserts s l rest target → LearntWatches s l target o q
    → DecisionsAreGuarded (length s.inputs.items) (take target s.trail.items) ((s.watches.watched.items ++ o ∷ []) ++ q ∷ [])
learnt_guarded s l rest target o q ready shape known watches =
    let n : ℕ = length s.inputs.items in
    let trail : List Step = s.trail.items in
    let kept : List Step = take target trail in
    let le : target ≤ length trail = omega (arith, shape.decision.inside) in
    guarded_more n kept s.watches.watched.items o q (length s.clauses.items) ready.watched.slots
    (λ i d is k e f.
    let at : AmongFirst trail n target i d = among_first trail n target i d le is in
    let unset : HasNoValue (values_at n trail i) l =
    unset_at-earlier s.inputs.items s.clauses.items (replicate n None) trail i target l.var ready.sound.trail (omega (arith, at.before)) known.forces.unset in
    not_false (values_at n trail i) l unset
    (subst (λ (x : Lit). IsFalse (values_at n trail i) x) (watches.first k e) (subst (λ (v : List (Option Bool)). IsFalse v k) at.values f)))
    (λ i d is k e f.
    let at : AmongFirst trail n target i d = among_first trail n target i d le is in
    not_false (values_at n trail i) k (watches.second_open k e i d at.decision at.before) (subst (λ (v : List (Option Bool)). IsFalse v k) at.values f))
    (guarded_first n trail target s.watches.watched.items le ready.guarded)

-- after the cut the queue goes on at the asserted literal
learnt_waiting :
    (s : State) (l : Lit) (rest : List Lit) (step : Step) (target : ℕ) (o q : Option Lit)
    → Ready s → Teaches s l rest target → Asserts s l rest target → LearntWatches s l target o q
    → step.literal ≡ l
    → AllGuard (values_at (length s.inputs.items) s.trail.items target) (assign (values_at (length s.inputs.items) s.trail.items target) step.literal) ((s.watches.watched.items ++ o ∷ []) ++ q ∷ [])
learnt_waiting s l rest step target o q ready shape known watches is_l =
    let n : ℕ = length s.inputs.items in
    let w : List (Option Bool) = values_at n s.trail.items target in
    let now : List (Option Bool) = assign w step.literal in
    let unset : HasNoValue w step.literal = subst (λ (k : Lit). HasNoValue w k) (sym is_l) known.forces.unset in
    let inside : step.literal.var < length w = omega (arith, known.inside, ap (λ (k : Lit). k.var) is_l, length-values_at n s.trail.items target) in
    let here : IsTrueIn now l = subst (IsTrueIn now) is_l (assign_here w step.literal inside) in
    guards_more w now s.watches.watched.items o q (length s.clauses.items) ready.watched.slots
    (λ u. guard_later w w now s.watches.watched.items u (λ x b is. assign_keeps w step.literal x b unset is) (ready.guarded target shape.undone shape.decision u))
    (λ k e f. absurd (not_false w l known.forces.unset (subst (IsFalse w) (watches.first k e) f)))
    (λ k e f. subst (OtherIsTrue now) (sym (watches.second k e)) here)

-- the clause was taken over, and the search may go on
pub record TakenOver (before : State) (clause : List Lit) (after : State) : Type 0 where
  pub held : LearnedBy before clause after
  pub waiting : Waiting after

-- the cut, the new clause and the asserted literal, by the lists that they leave
pub learned :
    (s after : State) (l : Lit) (rest : List Lit) (step : Step) (target : ℕ) (o q : Option Lit)
    → Ready s → All (λ k. k.var < length s.inputs.items) (l ∷ rest) → Teaches s l rest target
    → step.literal ≡ l → step.reason ≡ Some (length s.clauses.items) → length s.clauses.items + 1 < 2 ^ 32
    → after.clauses.items ≡ s.clauses.items ++ (l ∷ rest) ∷ []
    → after.inputs.items ≡ s.inputs.items
    → after.trail.items ≡ take target s.trail.items ++ step ∷ []
    → after.values.items ≡ assign (values_at (length s.inputs.items) s.trail.items target) step.literal
    → AreWatched after
    → WatchesFirst (l ∷ rest) o q
    → after.watches.watched.items ≡ (s.watches.watched.items ++ o ∷ []) ++ q ∷ []
    → vec_capacity after.trail ≡ vec_capacity s.trail
    → after.head ≡ target
    → TakenOver s (l ∷ rest) after
learned s after l rest step target o q ready within shape is_l reason room clauses inputs trail values watched fits_first slots capacity head =
    let n : ℕ = length s.inputs.items in
    let none : List (Option Bool) = replicate n None in
    let kept : List Step = take target s.trail.items in
    let w : List (Option Bool) = values_at n s.trail.items target in
    let all : List (List Lit) = s.clauses.items ++ (l ∷ rest) ∷ [] in
    let known : Asserts s l rest target = asserts s l rest target shape in
    let watches : LearntWatches s l target o q = learnt_watches s l rest target o q shape known fits_first in
    let fits : TrailFits s.inputs.items all none kept =
    fits_more s.inputs.items s.clauses.items (l ∷ rest) none kept (fits_take s.inputs.items s.clauses.items none target s.trail.items ready.sound.trail) in
    let inside : step.literal.var < length w = omega (arith, known.inside, ap (λ (k : Lit). k.var) is_l, length-values_at n s.trail.items target) in
    let unset : HasNoValue w step.literal = subst (λ (k : Lit). HasNoValue w k) (sym is_l) known.forces.unset in
    let input : IsInput s.inputs.items step.literal = subst (λ (k : Lit). IsInput s.inputs.items k) (sym is_l) known.input in
    let number : ℕ = length s.clauses.items in
    let there : number < length all = omega (arith, length_push s.clauses.items (l ∷ rest)) in
    let forces : Forces w (get_or all number []) step.literal =
    subst (λ (k : List Lit). Forces w k step.literal) (sym (get_or_push s.clauses.items (l ∷ rest) [] number refl))
    (subst (λ (k : Lit). Forces w (l ∷ rest) k) (sym is_l) known.forces) in
    let step_fits : StepFits s.inputs.items all w step = record {
      inside = inside;
      unset = unset;
      cause = subst (λ (r : Option ℕ). MatchOption r (IsInput s.inputs.items step.literal) (IsImplied all w step.literal)) (sym reason) (there, forces);
    } in
    let w' : List (Option Bool) = values_after none kept in
    let are_settled : DecisionsAreSettled all none kept =
    open_more s.clauses.items (l ∷ rest) none kept
    (λ i h none'. learnt_settled s l rest target i ready shape h none')
    (open_take s.clauses.items none target s.trail.items ready.are_settled) in
    let d : Step = record { literal = shape.undone; reason = None } in
    let less : left s.inputs.items none (kept ++ step ∷ []) + 1 ≤ left s.inputs.items none s.trail.items =
    left_backjump_at s.inputs.items s.clauses.items none s.trail.items target d step number ready.sound.trail shape.decision.inside (shape.decision.reason d) reason input inside unset in
    let le : target ≤ length s.trail.items = omega (arith, shape.decision.inside) in
    let short : length kept ≡ target = length-take-le target s.trail.items le in
    let same : passed after after.head ≡ w =
    ap (passed after) head ∙ ap (λ (k : List Bool). values_at (length k) after.trail.items target) inputs
    ∙ ap (λ (k : List Step). values_at n k target) trail ∙ ap (values_after none) (take_at kept (step ∷ []) target short) in
    record {
      held = record {
        clauses = clauses;
        inputs = inputs;
        ready = record {
          sound =
              sound_made after s.inputs.items all (assign w step.literal) (kept ++ step ∷ []) inputs clauses values trail (sym (values_after-append none kept (step ∷ [])))
              (fits_push s.inputs.items all none kept step fits step_fits)
              (All-push (λ (c : List Lit). All (λ (k : Lit). k.var < n) c) s.clauses.items (l ∷ rest) ready.sound.within within)
              (omega (arith, room, length_push s.clauses.items (l ∷ rest))) ready.sound.variables;
          are_settled =
              open_made after s.inputs.items all (kept ++ step ∷ []) inputs clauses trail
              (open_push all none kept step are_settled (subst (λ (r : Option ℕ). MatchOption r (All (IsSettled w') all) (λ _. Unit {0})) (sym reason) tt));
          watched = watched;
          guarded =
              guarded_made after s.inputs.items (kept ++ step ∷ []) ((s.watches.watched.items ++ o ∷ []) ++ q ∷ []) inputs trail slots
              (guarded_implied n kept step ((s.watches.watched.items ++ o ∷ []) ++ q ∷ []) number reason (learnt_guarded s l rest target o q ready shape known watches));
          room = omega (arith, ready.room, ap length inputs, capacity);
        };
        left_less = omega (arith, less, left_made after s.inputs.items (kept ++ step ∷ []) inputs trail);
      };
      waiting = record {
        inside = omega (arith, head, ap length trail, length_push kept step, short);
        guards =
            subst (λ p. AllGuard p after.values.items after.watches.watched.items) (sym same)
            (subst (λ v. AllGuard w v after.watches.watched.items) (sym values)
            (subst (AllGuard w (assign w step.literal)) (sym slots) (learnt_waiting s l rest step target o q ready shape known watches is_l)));
      };
    }

-- the same at what the code does
pub learned_by :
    (s mid pushed after : State) (clause : List Lit) (step : Step) (target : ℕ)
    → Ready s → 0 < length clause → IsTaught s clause target
    → Cut s target mid → mid.head ≡ target
    → pushed.clauses.items ≡ mid.clauses.items ++ clause ∷ [] → pushed.inputs.items ≡ mid.inputs.items → pushed.trail.items ≡ mid.trail.items → pushed.values.items ≡ mid.values.items
    → vec_capacity pushed.trail ≡ vec_capacity mid.trail → pushed.head ≡ mid.head
    → ((cs : List (List Lit)) (n : ℕ) → Linked cs n mid.watches → Linked (cs ++ clause ∷ []) n pushed.watches)
    → HasAdded mid.watches.watched.items clause pushed.watches.watched.items
    → Pushed pushed step after
    → step.literal ≡ get_or clause 0 step.literal → step.reason ≡ Some (length s.clauses.items) → length s.clauses.items + 1 < 2 ^ 32
    → TakenOver s clause after
learned_by s mid pushed after [] step target ready some taught cut mid_head clauses inputs trail values capacity head linked added push first reason room = absurd (omega arith)
learned_by s mid pushed after (l ∷ rest) step target ready some taught cut mid_head clauses inputs trail values capacity head linked added push first reason room =
    let n : ℕ = length s.inputs.items in
    let now : mid.values.items ≡ values_at n s.trail.items target =
    cut.sound.values ∙ ap (values_after (replicate (length mid.inputs.items) None)) cut.trail
    ∙ ap (λ (k : List Bool). values_after (replicate (length k) None) (take target s.trail.items)) cut.inputs in
    let c : after.clauses.items ≡ s.clauses.items ++ (l ∷ rest) ∷ [] = push.clauses ∙ clauses ∙ ap (λ k. k ++ (l ∷ rest) ∷ []) cut.clauses in
    let i : after.inputs.items ≡ s.inputs.items = push.inputs ∙ inputs ∙ cut.inputs in
    learned s after l rest step target added.first added.second ready taught.within taught.teaches first reason room
    c i
    (push.trail ∙ ap (λ k. k ++ step ∷ []) (trail ∙ cut.trail))
    (push.values ∙ ap (λ k. assign k step.literal) (values ∙ now))
    (watched_made after s.inputs.items (s.clauses.items ++ (l ∷ rest) ∷ []) pushed.watches i c push.watches
    (linked s.clauses.items n (subst (λ (w : Watches). Linked s.clauses.items n w) (sym cut.watches) ready.watched)))
    added.front
    (ap (λ (w : Watches). w.watched.items) push.watches ∙ added.is ∙ ap (λ (w : Watches). (w.watched.items ++ added.first ∷ []) ++ added.second ∷ []) cut.watches)
    (push.capacity ∙ capacity ∙ cut.capacity)
    (push.head ∙ head ∙ mid_head)

-- the watches that the cut leaves
pub cut_linked : (s mid : State) (target : ℕ) → Ready s → Cut s target mid → IsLinked mid.watches
cut_linked s mid target ready cut = record {
  clauses = s.clauses.items;
  variables = length s.inputs.items;
  linked = subst (λ (w : Watches). Linked s.clauses.items (length s.inputs.items) w) (sym cut.watches) ready.watched;
}

-- the literals of the clause have lists
pub cut_places : (s mid : State) (clause : List Lit) (target : ℕ) → Ready s → IsTaught s clause target → Cut s target mid → All (λ l. place_of l < mid.watches.literals) clause
cut_places s mid clause target ready taught cut = λ k d h.
    let below : place_of (get_or clause k d) < 2 * length s.inputs.items = place_below (get_or clause k d) (length s.inputs.items) (taught.within k d h) in
    omega (arith, below, ready.watched.literals, ap (λ (w : Watches). w.literals) cut.watches)

-- the trail that the cut leaves has room
pub cut_room : (s mid : State) (clause : List Lit) (target : ℕ) → Ready s → 0 < length clause → IsTaught s clause target → Cut s target mid → length mid.trail.items < vec_capacity mid.trail
cut_room s mid [] target ready some taught cut = absurd (omega arith)
cut_room s mid (l ∷ rest) target ready some taught cut =
    let h : target < length s.trail.items = taught.teaches.decision.inside in
    let short : length (take target s.trail.items) ≡ target = length-take-le target s.trail.items (omega (arith, h)) in
    omega (arith, h, short, ap length cut.trail, cut.capacity, ready.room, unset_and_steps s ready.sound)

-- the asserted literal's variable is there
pub asserted_inside : (s mid : State) (clause : List Lit) (l : Lit) (target : ℕ) → 0 < length clause → IsTaught s clause target → Cut s target mid → l ≡ get_or clause 0 l → l.var < length mid.values.items
asserted_inside s mid clause l target some taught cut first =
    let inside : (get_or clause 0 l).var < length s.inputs.items = taught.within 0 l some in
    omega (arith, inside, ap (λ (k : Lit). k.var) first, length-values mid cut.sound, ap length cut.inputs)
