-- The walk over the slots that watch a literal that became false.
use Rattle.std.proofs.Common.{◌≡◌, ◌≢◌, ℕ, suc, ◌+◌, ◌*◌, ◌/◌, ◌<◌, ◌≤◌, ◌⊎◌, inl, inr, Bool, true, false, not, List, [], ◌∷◌, ◌++◌, Option, None, Some, length, get_or, replicate, refl, sym, ◌∙◌, ap, subst, arith, vec_capacity}
use Rattle.std.specs.Prelude.{All, Contains, MatchOption}
use Rattle.std.proofs.lemmas.Bool.{cases_lt}
use Rattle.std.proofs.lemmas.List.{append_assoc, get_or_default}
use Rattle.std.proofs.lemmas.List.Elements.{All-weaker, Contains-append_right}
use Rattle.uc_circuit.specs.declared.literal.Lit.{Lit}
use Rattle.uc_circuit.specs.Literals.{negate}
use Rattle.uc_circuit.specs.Values.{assign, IsFalse}
use Rattle.uc_rings.specs.Lists.{AreApart, InAList, first_of, place_of, slots_of}
use Rattle.uc_rings.specs.Links.{NoneTwice}
use Rattle.uc_rings.proofs.Slots.{apart_out, Contains-cons_cases, Contains-here}
use Rattle.uc_rings.specs.declared.watches.Watches.{Watches}
use Rattle.uc_rings.specs.Pairs.{HasTrue, partner}
use Rattle.uc_rings.specs.Watched.{Guards, AllGuard, Below}
use Rattle.uc_rings.proofs.WatchesSlots.{in_a_list, none_twice_in, not_in_nothing, rest_from, rest_first}
use Rattle.uc_rings.proofs.Linking.{SlotOf, slot_of}
use Rattle.uc_rings.proofs.Guarding.{guard_later, guard_passed, false_before, other_not, true_later, all_settled}
use Rattle.uc_learner.specs.declared.state.Step.{Step}
use Rattle.uc_learner.specs.declared.state.State.{State}
use Rattle.uc_learner.specs.Trail.{values_at}
use Rattle.uc_learner.specs.Sound.{Sound}
use Rattle.uc_learner.specs.ClauseStates.{AllSettled}
use Rattle.uc_learner.specs.Moves.{Ready, Onward, NoDecision}
use Rattle.uc_learner.specs.Propagated.{passed, Waiting, Gone, AreTrue, IsConflict, Mended, Visited, IsAtFalse, IsNext}
use Rattle.uc_learner.proofs.Walk.{assign_here}
use Rattle.uc_learner.proofs.Steps.{length-values_at, values_at-next}
use Rattle.uc_learner.proofs.Walking.{step_inside}
use Rattle.uc_learner.proofs.Learning.{values_now}
use Rattle.uc_learner.specs.Guarded.{IsGuarded}
use Rattle.uc_learner.proofs.Guarded.{guarded_made}
use Rattle.uc_learner.proofs.Linked.{watched_made, place_below}
use Rattle.uc_learner.proofs.Progress.{onward_trans}
use Rattle.uc_learner.proofs.Queue.{gone_refl, gone_trans, onward_same, passed_below}

-- the walk so far: the slots from `rest` on are still to be looked at
pub record Visiting (first s : State) (f : Lit) (at : Option ℕ) : Type 0 where
  pub front : List ℕ
  pub rest : List ℕ
  pub list : slots_of s.watches.rings f ≡ front ++ rest
  pub at_is : at ≡ first_of rest
  pub apart : NoneTwice (front ++ rest)
  pub gone : Gone first s
  pub guards : AllGuard (passed first first.head) s.values.items s.watches.watched.items
  pub seen : (u : ℕ) → (Contains rest u → ⊥) → Guards (passed first (first.head + 1)) s.values.items s.watches.watched.items u

-- the next literal to look at, and the values before it and behind it
pub record Next (s : State) (f t : Lit) : Type 0 where
  pub negates : f ≡ negate t
  pub behind : passed s (s.head + 1) ≡ assign (passed s s.head) t
  pub inside : t.var < length (passed s s.head)

next_default : (s : State) (d : Step) → s.head < length s.trail.items → get_or s.trail.items s.head d ≡ get_or s.trail.items s.head (get_or s.trail.items s.head d)
next_default s d h = get_or_default s.trail.items s.head d (get_or s.trail.items s.head d) h

pub next_of : (s : State) (f : Lit) → Ready s → IsNext s f → (t : Lit) × Next s f t
next_of s f ready next =
    let d : Step = record { literal = f; reason = None } in
    let t : Lit = (get_or s.trail.items s.head d).literal in (
      t,
      record {
        negates = next.is d;
        behind = values_at-next (length s.inputs.items) s.trail.items s.head d next.inside;
        inside = omega (arith, step_inside s s.head (get_or s.trail.items s.head d) ready.sound next.inside (next_default s d next.inside), length-values_at (length s.inputs.items) s.trail.items s.head);
      },
    )

-- the literal is false
pub next_false : (s : State) (f : Lit) → Ready s → IsNext s f → IsFalse s.values.items f
next_false s f ready next =
    let n : (t : Lit) × Next s f t = next_of s f ready next in
    let t : Lit = n.0 in
    let p : List (Option Bool) = passed s s.head in
    let here : get_or (assign p t) t.var None ≡ Some (not t.neg) = assign_here p t n.1.inside in
    let var : f.var ≡ t.var = ap (λ (k : Lit). k.var) n.1.negates in
    let neg : f.neg ≡ not t.neg = ap (λ (k : Lit). k.neg) n.1.negates in
    let behind : IsFalse (passed s (s.head + 1)) f = ap (λ v. get_or v f.var None) n.1.behind ∙ ap (λ k. get_or (assign p t) k None) var ∙ here ∙ ap (λ b. Some b) (sym neg) in
    passed_below s (s.head + 1) ready.sound (omega (arith, next.inside)) f.var f.neg behind

pub visiting_start :
    (s : State) (f : Lit) (at : Option ℕ)
    → Ready s → Waiting s → IsNext s f → at ≡ first_of (slots_of s.watches.rings f) → AreApart s.watches.rings → Visiting s s f at
visiting_start s f at ready waiting next is apart =
    let n : (t : Lit) × Next s f t = next_of s f ready next in
    record {
      front = [];
      rest = slots_of s.watches.rings f;
      list = refl;
      at_is = is;
      apart = none_twice_in s.watches.rings f apart;
      gone = gone_refl s ready;
      guards = waiting.guards;
      seen = λ u away.
          subst (λ p. Guards p s.values.items s.watches.watched.items u) (sym n.1.behind)
          (guard_passed (passed s s.head) s.values.items s.watches.watched.items n.0 u n.1.inside
          (λ l value e. away (subst (λ (k : Lit). Contains (slots_of s.watches.rings k) u) (e ∙ sym n.1.negates) (ready.watched.stands u l value)))
          (waiting.guards u));
    }

pub first_split : (xs : List ℕ) (s : ℕ) → Some s ≡ first_of xs → (rest : List ℕ) × (xs ≡ s ∷ rest)
first_split [] s e = absurd (cc)
first_split (x ∷ xs) s e = (xs, ap (λ y. y ∷ xs) (let f : s ≡ x = cc in sym f))

none_left : (xs : List ℕ) → None ≡ first_of xs → xs ≡ []
none_left [] e = refl
none_left (x ∷ xs) e = absurd (cc)

-- the slot to look at watches the literal
pub visiting_value : (first s : State) (f : Lit) (at : Option ℕ) (slot : ℕ) → Visiting first s f at → at ≡ Some slot → get_or s.watches.watched.items slot None ≡ Some f
visiting_value first s f at slot visiting is =
    let r : (rest : List ℕ) × (visiting.rest ≡ slot ∷ rest) = first_split visiting.rest slot (sym is ∙ visiting.at_is) in
    let list : slots_of s.watches.rings f ≡ visiting.front ++ slot ∷ r.0 = visiting.list ∙ ap (λ xs. visiting.front ++ xs) r.1 in
    visiting.gone.onward.ready.watched.watches slot f (subst (λ (xs : List ℕ). Contains xs slot) (sym list) (Contains-append_right visiting.front (slot ∷ r.0) slot (Contains-here slot r.0)))

pub visiting_listed : (first s : State) (f : Lit) (at : Option ℕ) (slot : ℕ) → Visiting first s f at → at ≡ Some slot → InAList s.watches.rings slot
visiting_listed first s f at slot visiting is =
    in_a_list s.watches.rings f slot (visiting.gone.onward.ready.watched.stands slot f (visiting_value first s f at slot visiting is))

pub visiting_false : (first s : State) (f : Lit) (at : Option ℕ) → Ready first → IsNext first f → Visiting first s f at → IsFalse s.values.items f
visiting_false first s f at ready next visiting = visiting.gone.below f.var f.neg (next_false first f ready next)

pub visiting_at : (first s : State) (f : Lit) (at : Option ℕ) (slot : ℕ) → Ready first → IsNext first f → Visiting first s f at → at ≡ Some slot → IsAtFalse s slot
visiting_at first s f at slot ready next visiting is = record {
  literal = f;
  watched = visiting_value first s f at slot visiting is;
  is_false = visiting_false first s f at ready next visiting;
}

-- one slot more was looked at, and fewer are left
pub record Nearer (first s after : State) (f : Lit) (at next : Option ℕ) : Type 0 where
  pub visiting : Visiting first after f next
  pub fewer : length (rest_from next (slots_of after.watches.rings f)) < length (rest_from at (slots_of s.watches.rings f))

pub visiting_next :
    (first s after : State) (f : Lit) (at next : Option ℕ) (slot : ℕ) (conflict : Bool)
    → Ready first → IsNext first f → Visiting first s f at → at ≡ Some slot → AreApart s.watches.rings
    → ((l : Lit) (before rest : List ℕ) → slots_of s.watches.rings l ≡ before ++ slot ∷ rest → next ≡ first_of rest)
    → Mended s slot after conflict → conflict ≡ false
    → Nearer first s after f at next
visiting_next first s after f at next slot conflict ready is_next visiting is apart follows mended no_conflict =
    let r : (rest : List ℕ) × (visiting.rest ≡ slot ∷ rest) = first_split visiting.rest slot (sym is ∙ visiting.at_is) in
    let front : List ℕ = visiting.front in
    let rest : List ℕ = r.0 in
    let list : slots_of s.watches.rings f ≡ front ++ slot ∷ rest = visiting.list ∙ ap (λ xs. front ++ xs) r.1 in
    let twice : NoneTwice (front ++ slot ∷ rest) = subst (λ xs. NoneTwice (front ++ xs)) r.1 visiting.apart in
    let value : get_or s.watches.watched.items slot None ≡ Some f = visiting_value first s f at slot visiting is in
    let f_false : IsFalse s.values.items f = visiting_false first s f at ready is_next visiting in
    let n : (t : Lit) × Next first f t = next_of first f ready is_next in
    let found : (other : Lit) × SlotOf s.clauses.items s.watches.watched.items slot f other =
    slot_of s.clauses.items (length s.inputs.items) s.watches slot f visiting.gone.onward.ready.watched value in
    let p : List (Option Bool) = passed first first.head in
    let q : List (Option Bool) = passed first (first.head + 1) in
    let below_q : Below q s.values.items = λ x b e. visiting.gone.below x b (passed_below first (first.head + 1) ready.sound (omega (arith, is_next.inside)) x b e) in
    let below_p : Below p s.values.items = λ x b e. visiting.gone.below x b (passed_below first first.head ready.sound (omega (arith, is_next.inside)) x b e) in
    let not_p : (b : Lit) → get_or s.watches.watched.items (partner slot) None ≡ Some b → IsFalse p b → ⊥ =
    λ b is_b. other_not p s.values.items s.watches.watched.items slot f b value is_b f_false (visiting.guards (partner slot)) in
    let not_q : (b : Lit) → get_or s.watches.watched.items (partner slot) None ≡ Some b → IsFalse q b → ⊥ =
    λ b is_b b_false.
    let same : found.0 ≡ b = (let e : Some found.0 ≡ Some b = sym found.1.partner ∙ is_b in cc) in
    let apart' : b ≡ negate n.0 → ⊥ = λ e. found.1.different (n.1.negates ∙ sym e ∙ sym same) in
    not_p b is_b (false_before p n.0 b n.1.inside apart' (subst (λ v. IsFalse v b) n.1.behind b_false)) in
    let guards : AllGuard p after.values.items after.watches.watched.items = λ u. mended.guards no_conflict p u below_p not_p (λ _. visiting.guards u) in
    let seen : (u : ℕ) → (Contains rest u → ⊥) → Guards q after.values.items after.watches.watched.items u =
    λ u away. mended.guards no_conflict q u below_q not_q
    (λ ne. visiting.seen u (λ there. elim (Contains-cons_cases slot rest u (subst (λ (xs : List ℕ). Contains xs u) r.1 there)) [ inl same ↦ ne same | inr later ↦ away later ])) in
    let at_rest : next ≡ first_of rest = follows f front rest list in
    let old : length (rest_from at (slots_of s.watches.rings f)) ≡ length (slot ∷ rest) =
    ap length (ap (λ o. rest_from o (slots_of s.watches.rings f)) is ∙ ap (rest_from (Some slot)) list ∙ rest_first front (slot ∷ rest) twice) in
    elim (mended.goes no_conflict f value f_false front rest apart list) [
      | inl stays ↦
          let list' : slots_of after.watches.rings f ≡ (front ++ slot ∷ []) ++ rest = stays ∙ sym (append_assoc front (slot ∷ []) rest) in
          let twice' : NoneTwice ((front ++ slot ∷ []) ++ rest) = subst NoneTwice (sym (append_assoc front (slot ∷ []) rest)) twice in
          record {
            visiting = record {
              front = front ++ slot ∷ [];
              rest = rest;
              list = list';
              at_is = at_rest;
              apart = twice';
              gone = gone_trans first s after visiting.gone mended.gone;
              guards = guards;
              seen = seen;
            };
            fewer =
                let e : length (rest_from next (slots_of after.watches.rings f)) ≡ length rest =
                ap length (ap (λ o. rest_from o (slots_of after.watches.rings f)) at_rest ∙ ap (rest_from (first_of rest)) list' ∙ rest_first (front ++ slot ∷ []) rest twice') in
                omega (arith, old, e);
          }
      | inr leaves ↦
          let twice' : NoneTwice (front ++ rest) = apart_out front slot rest twice in
          record {
            visiting = record {
              front = front;
              rest = rest;
              list = leaves;
              at_is = at_rest;
              apart = twice';
              gone = gone_trans first s after visiting.gone mended.gone;
              guards = guards;
              seen = seen;
            };
            fewer =
                let e : length (rest_from next (slots_of after.watches.rings f)) ≡ length rest =
                ap length (ap (λ o. rest_from o (slots_of after.watches.rings f)) at_rest ∙ ap (rest_from (first_of rest)) leaves ∙ rest_first front rest twice') in
                omega (arith, old, e);
          }
    ]

pub visited_conflict :
    (first s after : State) (f : Lit) (at : Option ℕ) (slot : ℕ) (conflict : Bool)
    → Visiting first s f at → Mended s slot after conflict → conflict ≡ true → Visited first after (Some (slot / 2))
visited_conflict first s after f at slot conflict visiting mended is = record {
  gone = gone_trans first s after visiting.gone mended.gone;
  ends = mended.conflicts is;
}

pub visited_all : (first s : State) (f : Lit) (at : Option ℕ) → IsNext first f → Visiting first s f at → at ≡ None → Visited first s None
visited_all first s f at next visiting is =
    let empty : visiting.rest ≡ [] = none_left visiting.rest (sym is ∙ visiting.at_is) in
    let same : passed s (s.head + 1) ≡ passed first (first.head + 1) =
    ap (λ k. passed s (k + 1)) visiting.gone.head ∙ visiting.gone.early (first.head + 1) (omega (arith, next.inside)) in
    record {
      gone = visiting.gone;
      ends = λ u.
          subst (λ v. Guards v s.values.items s.watches.watched.items u) (sym same)
          (visiting.seen u (λ there. not_in_nothing u (subst (λ (xs : List ℕ). Contains xs u) empty there)));
    }

-- clauses with a true literal keep it
pub true_after : (s after : State) → Gone s after → AreTrue s s.watches.narrow.items → AreTrue after after.watches.narrow.items
true_after s after gone all =
    subst (λ (xs : List ℕ). AreTrue after xs) (sym gone.narrow)
    (All-weaker (λ c. HasTrue s.values.items (get_or s.clauses.items c [])) (λ c. HasTrue after.values.items (get_or after.clauses.items c []))
    (λ c has. subst (λ (cs : List (List Lit)). HasTrue after.values.items (get_or cs c [])) (sym gone.onward.clauses) (true_later s.values.items after.values.items (get_or s.clauses.items c []) gone.below has))
    s.watches.narrow.items all)

-- the literal has a list
pub next_place : (s : State) (f : Lit) → Ready s → IsNext s f → place_of f < length s.watches.rings.lists
next_place s f ready next =
    let n : (t : Lit) × Next s f t = next_of s f ready next in
    let var : f.var ≡ n.0.var = ap (λ (k : Lit). k.var) n.1.negates in
    let below : place_of f < 2 * length s.inputs.items = place_below f (length s.inputs.items) (omega (arith, var, n.1.inside, length-values_at (length s.inputs.items) s.trail.items s.head)) in
    omega (arith, below, ready.watched.lists, ready.watched.literals)

-- one literal more was looked at
pub record Ahead (first after : State) : Type 0 where
  pub onward : Onward first after
  pub undecided : NoDecision first → NoDecision after
  pub waiting : Waiting after
  pub narrow : AreTrue after after.watches.narrow.items

pub ahead_more :
    (first s visited after : State) (r : Option ℕ)
    → Ahead first s → s.head < length s.trail.items → Visited s visited r → r ≡ None
    → after.inputs.items ≡ visited.inputs.items → after.clauses.items ≡ visited.clauses.items → after.values.items ≡ visited.values.items → after.trail.items ≡ visited.trail.items
    → after.watches ≡ visited.watches → after.head ≡ visited.head + 1 → vec_capacity after.trail ≡ vec_capacity visited.trail
    → Ahead first after
ahead_more first s visited after r ahead more visit none i c v t w h capacity =
    let ready : Ready visited = visit.gone.onward.ready in
    let ends : AllGuard (passed visited (visited.head + 1)) visited.values.items visited.watches.watched.items =
    subst (λ (o : Option ℕ). MatchOption o (AllGuard (passed visited (visited.head + 1)) visited.values.items visited.watches.watched.items) (IsConflict visited)) none visit.ends in
    let same : passed after after.head ≡ passed visited (visited.head + 1) =
    ap (passed after) h ∙ ap (λ (k : List Bool). values_at (length k) after.trail.items (visited.head + 1)) i ∙ ap (λ (k : List Step). values_at (length visited.inputs.items) k (visited.head + 1)) t in
    let trues : AreTrue visited visited.watches.narrow.items = true_after s visited visit.gone ahead.narrow in
    record {
      onward =
          onward_trans first s after ahead.onward
          (onward_trans s visited after visit.gone.onward
          (onward_same visited after ready i c v t capacity (watched_made after visited.inputs.items visited.clauses.items visited.watches i c w ready.watched)
          (guarded_made after visited.inputs.items visited.trail.items visited.watches.watched.items i t (ap (λ (k : Watches). k.watched.items) w) ready.guarded)));
      undecided = λ before. subst (λ (xs : List Step). All (λ (k : Step). k.reason ≡ None → ⊥) xs) (sym t) (visit.gone.undecided (ahead.undecided before));
      waiting = record {
        inside = omega (arith, h, visit.gone.head, visit.gone.longer, more, ap length t);
        guards = λ u.
            subst (λ p. Guards p after.values.items after.watches.watched.items u) (sym same)
            (subst (λ (k : Watches). Guards (passed visited (visited.head + 1)) after.values.items k.watched.items u) (sym w)
            (subst (λ (k : List (Option Bool)). Guards (passed visited (visited.head + 1)) k visited.watches.watched.items u) (sym v) (ends u)));
      };
      narrow =
          subst (λ (k : Watches). All (λ c'. HasTrue after.values.items (get_or after.clauses.items c' [])) k.narrow.items) (sym w)
          (subst (λ (k : List (List Lit)). All (λ c'. HasTrue after.values.items (get_or k c' [])) visited.watches.narrow.items) (sym c)
          (subst (λ (k : List (Option Bool)). All (λ c'. HasTrue k (get_or visited.clauses.items c' [])) visited.watches.narrow.items) (sym v) trues));
    }

-- the queue is empty: no clause is left to look at
pub ahead_guarded : (first s : State) → Ahead first s → (s.head < length s.trail.items → ⊥) → IsGuarded s
ahead_guarded first s ahead done =
    let sound : Sound s = ahead.onward.ready.sound in
    let all : s.head ≡ length s.trail.items =
    elim (cases_lt s.head (length s.trail.items)) [ inl h ↦ absurd (done h) | inr le ↦ (let w : s.head ≤ length s.trail.items = ahead.waiting.inside in omega (arith, w, le)) ] in
    let same : passed s s.head ≡ s.values.items = ap (passed s) all ∙ sym (values_now s sound) in
    λ u. subst (λ p. Guards p s.values.items s.watches.watched.items u) same (ahead.waiting.guards u)

-- and nothing is false or forced
pub ahead_settled : (first s : State) → Ahead first s → (s.head < length s.trail.items → ⊥) → AllSettled s.clauses.items s.values.items
ahead_settled first s ahead done =
    all_settled s.clauses.items (length s.inputs.items) s.watches s.values.items ahead.onward.ready.watched (ahead_guarded first s ahead done) ahead.narrow

-- the clauses without two different literals were looked at
pub ahead_first : (s after : State) → Waiting s → Gone s after → after.watches ≡ s.watches → AreTrue after after.watches.narrow.items → Ahead s after
ahead_first s after waiting gone watches narrow = record {
  onward = gone.onward;
  undecided = gone.undecided;
  waiting = record {
    inside = omega (arith, gone.head, gone.longer, waiting.inside);
    guards = λ u.
        subst (λ (w : Watches). Guards (passed after after.head) after.values.items w.watched.items u) (sym watches)
        (subst (λ p. Guards p after.values.items s.watches.watched.items u) (sym (ap (passed after) gone.head ∙ gone.early s.head waiting.inside))
        (guard_later (passed s s.head) s.values.items after.values.items s.watches.watched.items u gone.below (waiting.guards u)));
  };
  narrow = narrow;
}
