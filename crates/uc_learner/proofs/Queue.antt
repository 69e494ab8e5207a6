-- The queue of literals to look at, and a look at one slot.
use Rattle.std.proofs.Common.{◌≡◌, ◌≢◌, ℕ, ◌+◌, ◌*◌, ◌/◌, ◌<◌, ◌≤◌, inl, inr, Bool, true, false, not, List, [], ◌∷◌, ◌++◌, Option, None, Some, length, get_or, set, take, replicate, refl, sym, ◌∙◌, ap, subst, arith, vec_capacity}
use Rattle.std.specs.Prelude.{All, Contains}
use Rattle.std.proofs.lemmas.Bool.{cases_eq}
use Rattle.std.proofs.lemmas.List.{get_or_read, length_push, take-append-le}
use Rattle.std.proofs.lemmas.List.Elements.{All-contains}
use Rattle.uc_circuit.specs.declared.literal.Lit.{Lit}
use Rattle.uc_circuit.specs.Values.{assign, IsFalse, IsFalsified, HasNoValue, Forces}
use Rattle.uc_log.proofs.Deny.{no_value}
use Rattle.uc_rings.specs.Lists.{Lists, AreApart, place_of, slots_of, with_front, without}
use Rattle.uc_rings.specs.declared.watches.Watches.{Watches}
use Rattle.uc_rings.specs.Pairs.{IsTrueIn, HasTrue, partner}
use Rattle.uc_rings.specs.Watched.{Linked, Guards, AllGuard, Below}
use Rattle.uc_rings.proofs.WatchesSlots.{front_other, without_between}
use Rattle.uc_rings.proofs.Linking.{SlotOf, slot_of, linked_moved, value_inside}
use Rattle.uc_rings.proofs.Guarding.{guard_later, guard_moved, guard_true, other_not}
use Rattle.uc_learner.specs.declared.state.Step.{Step}
use Rattle.uc_learner.specs.declared.state.State.{State}
use Rattle.uc_learner.specs.Trail.{values_after, values_at}
use Rattle.uc_learner.specs.Sound.{Sound, AreWatched}
use Rattle.uc_learner.specs.Moves.{Pushed, Ready, Onward, NoDecision, unset_count}
use Rattle.uc_learner.specs.Propagated.{passed, Waiting, Gone, IsAtFalse, IsConflict, Goes, Guarded, Mended}
use Rattle.uc_learner.proofs.Walk.{assign_here, assign_keeps}
use Rattle.uc_learner.proofs.Steps.{values_at-later}
use Rattle.uc_learner.specs.Guarded.{DecisionsAreGuarded}
use Rattle.uc_learner.proofs.Guarded.{guarded_made}
use Rattle.uc_learner.proofs.Linked.{watched_made, place_below}
use Rattle.uc_learner.proofs.Learning.{values_now, length-values}
use Rattle.uc_learner.proofs.Progress.{Stepped, sound_same, open_made, left_made, implied_step, onward_refl, onward_trans, undecided_more}

-- other watches, and another place in the queue
pub onward_same :
    (s after : State) → Ready s
    → after.inputs.items ≡ s.inputs.items → after.clauses.items ≡ s.clauses.items → after.values.items ≡ s.values.items → after.trail.items ≡ s.trail.items
    → vec_capacity after.trail ≡ vec_capacity s.trail
    → AreWatched after → DecisionsAreGuarded (length after.inputs.items) after.trail.items after.watches.watched.items → Onward s after
onward_same s after ready i c v t capacity watched guarded = record {
  clauses = c;
  inputs = i;
  ready = record {
    sound = sound_same s after i c v t ready.sound;
    are_settled = open_made after s.inputs.items s.clauses.items s.trail.items i c t ready.are_settled;
    watched = watched;
    guarded = guarded;
    room = omega (arith, ready.room, ap length i, capacity);
  };
  left_le = omega (arith, left_made after s.inputs.items s.trail.items i t);
  unset_le = omega (arith, ap unset_count v);
}

pub gone_refl : (s : State) → Ready s → Gone s s
gone_refl s ready = record {
  onward = onward_refl s ready;
  undecided = λ none. none;
  sum = refl;
  below = λ x b is. is;
  longer = omega arith;
  early = λ i le. refl;
  narrow = refl;
  head = refl;
}

pub gone_trans : (a b c : State) → Gone a b → Gone b c → Gone a c
gone_trans a b c p q = record {
  onward = onward_trans a b c p.onward q.onward;
  undecided = λ none. q.undecided (p.undecided none);
  sum = q.sum ∙ p.sum;
  below = λ x v is. q.below x v (p.below x v is);
  longer = omega (arith, p.longer, q.longer);
  early = λ i le. q.early i (omega (arith, le, p.longer)) ∙ p.early i le;
  narrow = q.narrow ∙ p.narrow;
  head = q.head ∙ p.head;
}

pub pushed_early : (s after : State) (step : Step) (i : ℕ) → Pushed s step after → i ≤ length s.trail.items → passed after i ≡ passed s i
pushed_early s after step i pushed le =
    ap (λ (k : List Bool). values_at (length k) after.trail.items i) pushed.inputs
    ∙ ap (λ (k : List Step). values_at (length s.inputs.items) k i) pushed.trail
    ∙ ap (values_after (replicate (length s.inputs.items) None)) (take-append-le i s.trail.items (step ∷ []) le)

pub pushed_below : (s after : State) (step : Step) → Pushed s step after → HasNoValue s.values.items step.literal → Below s.values.items after.values.items
pushed_below s after step pushed unset = λ x b is. ap (λ v. get_or v x None) pushed.values ∙ assign_keeps s.values.items step.literal x b unset is

pub gone_pushed :
    (s after : State) (step : Step) (n : ℕ)
    → Ready s → Pushed s step after → step.reason ≡ Some n → n < length s.clauses.items → Forces s.values.items (get_or s.clauses.items n []) step.literal
    → Gone s after
gone_pushed s after step n ready pushed reason h forces =
    let stepped : Stepped s after = implied_step s after step n ready pushed reason h forces in
    let long : length after.trail.items ≡ length s.trail.items + 1 = ap length pushed.trail ∙ length_push s.trail.items step in
    record {
      onward = stepped.onward;
      undecided = λ none. undecided_more s after step n none pushed reason;
      sum = omega (arith, stepped.unset_less, long);
      below = pushed_below s after step pushed forces.unset;
      longer = omega (arith, long);
      early = λ i le. pushed_early s after step i pushed le;
      narrow = ap (λ (w : Watches). w.narrow.items) pushed.watches;
      head = pushed.head;
    }

-- nothing was looked at
pub waiting_none : (s : State) → s.head ≡ 0 → Waiting s
waiting_none s first = record {
  inside = omega (arith, first);
  guards = λ u l is f.
      let here : IsFalse (passed s 0) l = subst (λ i. IsFalse (passed s i) l) first f in
      let e : None ≡ Some l.neg = sym (no_value (length s.inputs.items) l.var) ∙ here in
      absurd (cc);
}

-- a decision waits
pub waiting_pushed : (s after : State) (step : Step) → Waiting s → Pushed s step after → HasNoValue s.values.items step.literal → Waiting after
waiting_pushed s after step waiting pushed unset =
    let long : length after.trail.items ≡ length s.trail.items + 1 = ap length pushed.trail ∙ length_push s.trail.items step in
    let same : passed after after.head ≡ passed s s.head = ap (passed after) pushed.head ∙ pushed_early s after step s.head pushed waiting.inside in
    record {
      inside = omega (arith, waiting.inside, long, pushed.head);
      guards = λ u.
          subst (λ (w : Watches). Guards (passed after after.head) after.values.items w.watched.items u) (sym pushed.watches)
          (subst (λ p. Guards p after.values.items s.watches.watched.items u) (sym same)
          (guard_later (passed s s.head) s.values.items after.values.items s.watches.watched.items u (pushed_below s after step pushed unset) (waiting.guards u)));
    }

-- the values after some steps are among those after all
pub passed_below : (s : State) (i : ℕ) → Sound s → i ≤ length s.trail.items → Below (passed s i) s.values.items
passed_below s i sound le = λ x b is.
    ap (λ v. get_or v x None) (values_now s sound)
    ∙ values_at-later s.inputs.items s.clauses.items (replicate (length s.inputs.items) None) s.trail.items i (length s.trail.items) x b sound.trail le is

pub mended_stays :
    (s : State) (slot : ℕ) (other : Lit) → Ready s → get_or s.watches.watched.items (partner slot) None ≡ Some other → IsTrueIn s.values.items other → Mended s slot s false
mended_stays s slot other ready is t = record {
  gone = gone_refl s ready;
  conflicts = λ e. absurd (cc);
  guards = λ _ q u below not_false others.
      elim (cases_eq u slot) [
        | inl same ↦ subst (Guards q s.values.items s.watches.watched.items) (sym same) (guard_true q s.values.items s.watches.watched.items slot other is t)
        | inr ne ↦ others ne
      ];
  goes = λ _ f value f_false front rest apart list. inl list;
}

pub mended_conflict : (s : State) (slot : ℕ) → Ready s → slot / 2 < length s.clauses.items → IsFalsified s.values.items (get_or s.clauses.items (slot / 2) []) → Mended s slot s true
mended_conflict s slot ready inside all = record {
  gone = gone_refl s ready;
  conflicts = λ _. (inside, all);
  guards = λ e. absurd (cc);
  goes = λ e. absurd (cc);
}

pub mended_pushed :
    (s after : State) (slot : ℕ) (other : Lit) (step : Step)
    → Ready s → get_or s.watches.watched.items (partner slot) None ≡ Some other
    → Pushed s step after → step.reason ≡ Some (slot / 2) → slot / 2 < length s.clauses.items → Forces s.values.items (get_or s.clauses.items (slot / 2) []) step.literal
    → step.literal ≡ other
    → Mended s slot after false
mended_pushed s after slot other step ready is pushed reason inside forces same_literal =
    let gone : Gone s after = gone_pushed s after step (slot / 2) ready pushed reason inside forces in
    let within : step.literal.var < length s.values.items =
    omega (arith, All-contains (λ (l : Lit). l.var < length s.inputs.items) (get_or s.clauses.items (slot / 2) []) step.literal (ready.sound.within (slot / 2) [] inside) forces.there, length-values s ready.sound) in
    let here : IsTrueIn after.values.items step.literal = ap (λ v. get_or v step.literal.var None) pushed.values ∙ assign_here s.values.items step.literal within in
    let t : IsTrueIn after.values.items other = subst (IsTrueIn after.values.items) same_literal here in
    record {
      gone = gone;
      conflicts = λ e. absurd (cc);
      guards = λ _ q u below not_false others.
          subst (λ (w : Watches). Guards q after.values.items w.watched.items u) (sym pushed.watches)
          (elim (cases_eq u slot) [
            | inl same ↦ subst (Guards q after.values.items s.watches.watched.items) (sym same) (guard_true q after.values.items s.watches.watched.items slot other is t)
            | inr ne ↦ guard_later q s.values.items after.values.items s.watches.watched.items u gone.below (others ne)
          ]);
      goes = λ _ f value f_false front rest apart list. inl (ap (λ (w : Watches). slots_of w.rings f) pushed.watches ∙ list);
    }

-- the moved watch was not false at any decision, nor was the clause's other one
moved_guarded :
    (s : State) (slot : ℕ) (f other m : Lit)
    → Ready s → get_or s.watches.watched.items slot None ≡ Some f → IsFalse s.values.items f → get_or s.watches.watched.items (partner slot) None ≡ Some other
    → (IsFalse s.values.items m → ⊥)
    → DecisionsAreGuarded (length s.inputs.items) s.trail.items (set s.watches.watched.items slot (Some m))
moved_guarded s slot f other m ready value f_false partner_is m_not = λ i l is u.
    let xs : List (Option Lit) = s.watches.watched.items in
    let q : List (Option Bool) = passed s i in
    let below : Below q s.values.items = passed_below s i ready.sound (omega (arith, is.inside)) in
    guard_moved q q xs slot m other u (value_inside xs slot f value) partner_is (λ m_false. m_not (below m.var m.neg m_false))
    (other_not q s.values.items xs slot f other value partner_is f_false (guard_later q q s.values.items xs (partner slot) below (ready.guarded i l is (partner slot))))
    (λ _. ready.guarded i l is u)

pub mended_moved :
    (s after : State) (slot : ℕ) (f other m : Lit)
    → Ready s → get_or s.watches.watched.items slot None ≡ Some f → IsFalse s.values.items f → SlotOf s.clauses.items s.watches.watched.items slot f other
    → Contains (get_or s.clauses.items (slot / 2) []) m → (m ≢ other) → (IsFalse s.values.items m → ⊥)
    → after.inputs.items ≡ s.inputs.items → after.clauses.items ≡ s.clauses.items → after.values.items ≡ s.values.items → after.trail.items ≡ s.trail.items → after.head ≡ s.head
    → vec_capacity after.trail ≡ vec_capacity s.trail
    → after.watches.watched.items ≡ set s.watches.watched.items slot (Some m)
    → after.watches.rings ≡ with_front (without s.watches.rings slot) m slot
    → after.watches.narrow.items ≡ s.watches.narrow.items
    → after.watches.literals ≡ s.watches.literals
    → Mended s slot after false
mended_moved s after slot f other m ready value f_false slots there ne m_not i c v t h capacity watched rings narrow literals =
    let place : place_of m < s.watches.literals =
    omega (arith, place_below m (length s.inputs.items) (All-contains (λ (l : Lit). l.var < length s.inputs.items) (get_or s.clauses.items (slot / 2) []) m (ready.sound.within (slot / 2) [] slots.inside) there), ready.watched.literals) in
    let linked : Linked s.clauses.items (length s.inputs.items) after.watches =
    linked_moved s.clauses.items (length s.inputs.items) s.watches after.watches slot f other m ready.watched value slots there ne place watched rings narrow literals in
    let onward : Onward s after = onward_same s after ready i c v t capacity (watched_made after s.inputs.items s.clauses.items after.watches i c refl linked)
    (guarded_made after s.inputs.items s.trail.items (set s.watches.watched.items slot (Some m)) i t watched (moved_guarded s slot f other m ready value f_false slots.partner m_not)) in
    record {
      gone = record {
        onward = onward;
        undecided = λ none. subst (All (λ (k : Step). k.reason ≡ None → ⊥)) (sym t) none;
        sum = omega (arith, ap unset_count v, ap length t);
        below = λ x b is. ap (λ k. get_or k x None) v ∙ is;
        longer = omega (arith, ap length t);
        early = λ k le. ap (λ (q : List Bool). values_at (length q) after.trail.items k) i ∙ ap (λ (q : List Step). values_at (length s.inputs.items) q k) t;
        narrow = narrow;
        head = h;
      };
      conflicts = λ e. absurd (cc);
      guards = λ _ q u below not_false others.
          subst (λ (w : List (Option Lit)). Guards q after.values.items w u) (sym watched)
          (subst (λ (k : List (Option Bool)). Guards q k (set s.watches.watched.items slot (Some m)) u) (sym v)
          (guard_moved q s.values.items s.watches.watched.items slot m other u (value_inside s.watches.watched.items slot f value) slots.partner
          (λ is. m_not (below m.var m.neg is)) (not_false other slots.partner) others));
      goes = λ _ g g_is g_false front rest apart list.
          inr (ap (λ (r : Lists). slots_of r g) rings
          ∙ front_other (without s.watches.rings slot) m g slot (λ e. m_not (subst (IsFalse s.values.items) e g_false))
          ∙ without_between s.watches.rings g front rest slot apart list);
    }

-- the clause of a slot whose other literal was read
pub look_at :
    (s : State) (slot i : ℕ) (read : Option Lit) (other : Lit)
    → Ready s → (at : IsAtFalse s slot) → i ≡ partner slot → read ≡ get_or s.watches.watched.items i read → read ≡ Some other
    → SlotOf s.clauses.items s.watches.watched.items slot at.literal other
look_at s slot i read other ready at is_partner is value =
    let xs : List (Option Lit) = s.watches.watched.items in
    let found : (b : Lit) × SlotOf s.clauses.items xs slot at.literal b = slot_of s.clauses.items (length s.inputs.items) s.watches slot at.literal ready.watched at.watched in
    let inside : i < length xs = omega (arith, value_inside xs (partner slot) found.0 found.1.partner, is_partner) in
    let e : read ≡ Some found.0 = get_or_read xs i read inside is None ∙ ap (λ k. get_or xs k None) is_partner ∙ found.1.partner in
    let same : found.0 ≡ other = (let f : Some found.0 ≡ Some other = sym e ∙ value in cc) in
    subst (λ (b : Lit). SlotOf s.clauses.items xs slot at.literal b) same found.1

-- the slot beside that of a false literal is there
pub other_inside : (s : State) (slot i : ℕ) → Ready s → IsAtFalse s slot → i ≡ partner slot → i < length s.watches.watched.items
other_inside s slot i ready at is_partner =
    let xs : List (Option Lit) = s.watches.watched.items in
    let found : (b : Lit) × SlotOf s.clauses.items xs slot at.literal b = slot_of s.clauses.items (length s.inputs.items) s.watches slot at.literal ready.watched at.watched in
    omega (arith, value_inside xs (partner slot) found.0 found.1.partner, is_partner)

pub look_none :
    (s : State) (slot i : ℕ) (read : Option Lit)
    → Ready s → IsAtFalse s slot → i ≡ partner slot → read ≡ get_or s.watches.watched.items i read → ((l : Lit) → read ≡ Some l → ⊥) → ⊥
look_none s slot i read ready at is_partner is none =
    let xs : List (Option Lit) = s.watches.watched.items in
    let found : (b : Lit) × SlotOf s.clauses.items xs slot at.literal b = slot_of s.clauses.items (length s.inputs.items) s.watches slot at.literal ready.watched at.watched in
    let inside : i < length xs = omega (arith, value_inside xs (partner slot) found.0 found.1.partner, is_partner) in
    none found.0 (get_or_read xs i read inside is None ∙ ap (λ k. get_or xs k None) is_partner ∙ found.1.partner)

-- a clause whose literal was forced has a true one
pub forced_true :
    (s after : State) (step : Step) (n : ℕ)
    → Ready s → Pushed s step after → n < length s.clauses.items → Forces s.values.items (get_or s.clauses.items n []) step.literal
    → HasTrue after.values.items (get_or after.clauses.items n [])
forced_true s after step n ready pushed inside forces =
    let within : step.literal.var < length s.values.items =
    omega (arith, All-contains (λ (l : Lit). l.var < length s.inputs.items) (get_or s.clauses.items n []) step.literal (ready.sound.within n [] inside) forces.there, length-values s ready.sound) in
    record {
      literal = step.literal;
      there = subst (λ (cs : List (List Lit)). Contains (get_or cs n []) step.literal) (sym pushed.clauses) forces.there;
      is_true = ap (λ v. get_or v step.literal.var None) pushed.values ∙ assign_here s.values.items step.literal within;
    }
