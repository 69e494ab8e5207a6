-- The answers of the search.
use Rattle.std.proofs.Common.{◌≡◌, ℕ, ◌+◌, ◌^◌, ◌<◌, ◌≤◌, ◌⊎◌, inl, inr, Bool, true, false, not, List, [], ◌∷◌, ◌++◌, Option, None, Some, Result, Ok, Err, length, get_or, replicate, refl, sym, ◌∙◌, ap, subst, arith}
use Rattle.std.specs.Prelude.{All, Contains}
use Rattle.std.proofs.lemmas.Bool.{cases_eq}
use Rattle.std.proofs.lemmas.List.{append-nil, append_assoc, get_or_push, get_or_append_left, length-set, length_push, length-map}
use Rattle.std.proofs.lemmas.List.Elements.{All-nil, All-contains, All-cons, All-weaker, Contains-get_or}
use Rattle.uc_circuit.specs.declared.literal.Lit.{Lit}
use Rattle.uc_circuit.specs.Values.{assign, IsFalse, IsFalsified, Forces}
use Rattle.uc_log.specs.declared.entry.Entry.{Entry}
use Rattle.uc_log.specs.declared.entry.Entry.TheVariants.{Learnt}
use Rattle.uc_log.specs.Refutes.{Refutes, IsLearnt}
use Rattle.uc_ops.specs.declared.node.Node.{Node}
use Rattle.uc_log.specs.Problems.{Question}
use Rattle.uc_log.specs.Entries.{Known, add, known_after}
use Rattle.uc_learner.specs.Opened.{opened_known, known_now, GivesEmpty}
use Rattle.uc_learner.specs.Learners.{flag_of, input_flags}
use Rattle.uc_log.proofs.Growth.{known_after-append, new_clause}
use Rattle.uc_log.proofs.Deny.{no_value, value_inside}
use Rattle.uc_learner.specs.declared.learn.Search.{Search}
use Rattle.uc_learner.specs.declared.learn.Search.TheVariants.{Candidate, Refuted}
use Rattle.uc_learner.specs.declared.learn.LearnError.{LearnError}
use Rattle.uc_learner.specs.declared.state.Step.{Step}
use Rattle.uc_learner.specs.declared.state.State.{State}
use Rattle.uc_learner.specs.Trail.{values_at, DecisionsAreSettled, free, left}
use Rattle.uc_circuit.specs.Values.{IsSettled}
use Rattle.uc_learner.specs.ClauseStates.{AllSettled}
use Rattle.uc_learner.specs.Sound.{AreWatched, HasRoom}
use Rattle.uc_learner.proofs.Linked.{watched_made}
use Rattle.uc_learner.proofs.Guarded.{guarded_none}
use Rattle.uc_learner.specs.Teaching.{Teaches}
use Rattle.uc_learner.specs.Learns.{Learns}
use Rattle.uc_learner.specs.Moves.{Cut, Ready, NoDecision, SettledOnce, left_of}
use Rattle.uc_learner.specs.Learned.{LearnedBy}
use Rattle.uc_learner.specs.Propagated.{Waiting}
use Rattle.uc_learner.specs.Recorded.{IsRecorded, LearntFits, Extends, KeepsRecord, RecordsOne}
use Rattle.uc_learner.proofs.Opening.{meet_of}
use Rattle.uc_learner.specs.Answered.{NoneEmpty, Holds, HoldsFor, GoesOn, Concluded, UnitRefutable, inputs_count}
use Rattle.uc_learner.proofs.Walk.{assign_here, assign_elsewhere}
use Rattle.uc_learner.proofs.Steps.{open_at}

-- the clause of a conflict is not among the clauses
pub not_held : (s : State) (clause : List Lit) (hints : List ℕ) (target : ℕ) → Ready s → NoneEmpty s.clauses.items → Learns s clause hints target → Contains s.clauses.items clause → ⊥
not_held s [] hints target ready none learns has =
    none has.0 has.1 has.2
not_held s (l ∷ rest) hints target ready none learns has =
    let n : ℕ = length s.inputs.items in
    let shape : Teaches s l rest target = learns.teaches in
    let w : List (Option Bool) = values_at n s.trail.items target in
    let d : Step = record { literal = l; reason = None } in
    let settled : All (IsSettled w) s.clauses.items = open_at s.clauses.items (replicate n None) s.trail.items target d ready.are_settled shape.decision.inside (shape.decision.reason d) in
    let here : IsSettled w (l ∷ rest) = All-contains (IsSettled w) s.clauses.items (l ∷ rest) settled has in
    here.not_unit l (record {
      there = Contains-get_or (l ∷ rest) 0 l (omega arith);
      unset = shape.unset;
      rest =
          All-cons (λ (k : Lit). (k ≡ l) ⊎ IsFalse w k) l rest (inl refl)
          (All-weaker (IsFalse w) (λ (k : Lit). (k ≡ l) ⊎ IsFalse w k) (λ k f. inr f) rest shape.rest_false);
    })

pub new_learnt :
    (s : State) (nodes : List Node) (opened : Option Question) (here : ℕ) (log : List Entry) (clause clause' : List Lit) (hints hints' : List ℕ) (target : ℕ)
    → Ready s → NoneEmpty s.clauses.items → HoldsFor (input_flags (known_now opened log).circuit) s (known_now opened log) → IsRecorded nodes opened here log
    → Learns s clause hints target → clause' ≡ clause → Contains log (Learnt clause' hints') → ⊥
new_learnt s nodes opened here log clause clause' hints hints' target ready none holds recorded learns same has =
    new_clause nodes (opened_known opened) log clause' hints' (meet_of nodes opened log recorded.valid)
    (λ there. not_held s clause hints target ready none learns
    (subst (λ (c : List Lit). Contains s.clauses.items c) same (subst (λ (cs : List (List Lit)). Contains cs clause') (sym holds.clauses) there)))
    has

pub learnt_fits :
    (s : State) (opened : Option Question) (log : List Entry) (clause clause' : List Lit) (hints hints' : List ℕ) (target : ℕ)
    → HoldsFor (input_flags (known_now opened log).circuit) s (known_now opened log) → Learns s clause hints target → clause' ≡ clause → hints' ≡ hints → LearntFits opened log clause' hints'
learnt_fits s opened log clause clause' hints hints' target holds learns same_clause same_hints =
    let k : Known = known_now opened log in
    let many : length s.inputs.items ≡ length k.circuit = holds.many ∙ length-map k.circuit flag_of in
    let a : IsLearnt (length k.circuit) s.clauses.items clause hints = subst (λ n. IsLearnt n s.clauses.items clause hints) many learns.learnt in
    let b : IsLearnt (length k.circuit) k.clauses clause hints = subst (λ (cs : List (List Lit)). IsLearnt (length k.circuit) cs clause hints) holds.clauses a in
    let c : IsLearnt (length k.circuit) k.clauses clause' hints = subst (λ (x : List Lit). IsLearnt (length k.circuit) k.clauses x hints) (sym same_clause) b in
    subst (λ (x : List ℕ). IsLearnt (length k.circuit) k.clauses clause' x) (sym same_hints) c

-- a learnt clause of some literals comes from a decision
shape_decided : (s : State) (l : Lit) (rest : List Lit) (target : ℕ) → Teaches s l rest target → NoDecision s → ⊥
shape_decided s l rest target shape none =
    let d : Step = record { literal = l; reason = None } in
    none target d shape.decision.inside (shape.decision.reason d)

none_empty_push : (clauses : List (List Lit)) (c : List Lit) → NoneEmpty clauses → 0 < length c → NoneEmpty (clauses ++ c ∷ [])
none_empty_push clauses c none some n h is =
    elim (cases_eq n (length clauses)) [
      | inl same ↦
          let e : get_or (clauses ++ c ∷ []) n [] ≡ c = ap (λ k. get_or (clauses ++ c ∷ []) k []) same ∙ get_or_push clauses c [] (length clauses) refl in
          let f : length c ≡ 0 = ap length (sym e ∙ is) in
          absurd (omega arith)
      | inr ne ↦
          let h' : n < length clauses = omega (arith, length_push clauses c) in
          none n h' (sym (get_or_append_left clauses (c ∷ []) [] n h') ∙ is)
    ]

pub goes_on :
    (before after : State) (opened : Option Question) (log log' : List Entry) (clause clause' : List Lit) (hints hints' : List ℕ) (target : ℕ)
    → HoldsFor (input_flags (known_now opened log).circuit) before (known_now opened log) → NoneEmpty before.clauses.items
    → Learns before clause hints target → 0 < length clause
    → clause' ≡ clause
    → log' ≡ log ++ Learnt clause' hints' ∷ []
    → LearnedBy before clause after → Waiting after
    → Concluded (input_flags (known_now opened log).circuit) before log (known_now opened log') after log' false
goes_on before after opened log log' [] clause' hints hints' target holds none learns some same grown learned waiting = absurd (omega arith)
goes_on before after opened log log' (l ∷ rest) clause' hints hints' target holds none learns some same grown learned waiting =
    let k : Known = known_now opened log in
    let known : known_now opened log' ≡ add k (Learnt clause' hints') =
    ap (known_after (opened_known opened)) grown ∙ known_after-append (opened_known opened) log (Learnt clause' hints' ∷ []) in
    record {
      one_more = ap length grown ∙ length_push log (Learnt clause' hints');
      goes_on = (
        record {
          inputs = ap input_flags (sym (append-nil k.circuit)) ∙ sym (ap (λ (k : Known). input_flags k.circuit) known);
          many = ap length learned.inputs ∙ holds.many;
          clauses =
              learned.clauses ∙ ap (λ cs. cs ++ (l ∷ rest) ∷ []) holds.clauses ∙ ap (λ c. k.clauses ++ c ∷ []) (sym same)
              ∙ sym (ap (λ (k : Known). k.clauses) known);
        },
        learned.ready,
        subst NoneEmpty (sym learned.clauses) (none_empty_push before.clauses.items (l ∷ rest) none some),
        learned.left_less,
        learned.inputs,
        shape_decided before l rest target learns.teaches,
        waiting,
      );
    }

pub ends_empty :
    (flags : List Bool) (before after : State) (known : Known) (log log' : List Entry) (clause clause' : List Lit) (hints' : List ℕ)
    → length clause ≡ 0 → clause' ≡ clause → log' ≡ log ++ Learnt clause' hints' ∷ []
    → Concluded flags before log known after log' true
ends_empty flags before after known log log' (l ∷ rest) clause' hints' empty same grown = absurd (omega arith)
ends_empty flags before after known log log' [] clause' hints' empty same grown = record {
  one_more = ap length grown ∙ length_push log (Learnt clause' hints');
  goes_on = record {
    before = log;
    hints = hints';
    is = grown ∙ ap (λ (c : List Lit). log ++ Learnt c hints' ∷ []) same;
  };
}

pub bit_or_other : (a b : Bool) → (a ≡ b) ⊎ (a ≡ not b)
bit_or_other true true = inl refl
bit_or_other false false = inl refl
bit_or_other true false = inr refl
bit_or_other false true = inr refl

-- the one literal of a settled clause that may be true is true
forced_value :
    (v : List (Option Bool)) (c : List Lit) (l : Lit) → Contains c l → All (λ m. (m ≡ l) ⊎ IsFalse v m) c → IsSettled v c
    → get_or v l.var None ≡ Some (not l.neg)
forced_value v c l there others settled =
    let go : (o : Option Bool) → get_or v l.var None ≡ o → o ≡ Some (not l.neg) =
    λ o. elim o as (λ k. get_or v l.var None ≡ k → k ≡ Some (not l.neg)) [
      | None ↦ λ is. absurd (settled.not_unit l (record { there = there; unset = is; rest = others }))
      | Some b ↦ λ is. elim (bit_or_other b l.neg) [
        | inl same ↦ absurd (settled.not_false (λ k d h. elim (others k d h) [
          | inl is_l ↦ subst (λ (m : Lit). IsFalse v m) (sym is_l) (is ∙ ap (λ x. Some x) same)
          | inr f ↦ f
        ]))
        | inr other ↦ ap (λ x. Some x) other
      ]
    ] in
    go (get_or v l.var None) refl

-- where all clauses are settled, unit propagation makes none false
pub no_refutation :
    (clauses : List (List Lit)) (v w : List (Option Bool)) (hints : List ℕ)
    → AllSettled clauses v
    → ((x : ℕ) (b : Bool) → get_or w x None ≡ Some b → get_or v x None ≡ Some b)
    → Refutes clauses w hints → ⊥
no_refutation clauses v w [] settled below refutes = refutes
no_refutation clauses v w (n ∷ rest) settled below refutes =
    elim refutes.1 [
      | inl p ↦ (settled n [] refutes.0).not_false (λ k d h. below _ _ (p.1 k d h))
      | inr p ↦
          let forces : Forces w (get_or clauses n []) p.0 = p.1 in
          let others : All (λ (m : Lit). (m ≡ p.0) ⊎ IsFalse v m) (get_or clauses n []) =
          λ k d h. elim (forces.rest k d h) [ inl same ↦ inl same | inr f ↦ inr (below _ _ f) ] in
          let is_true : get_or v p.0.var None ≡ Some (not p.0.neg) =
          forced_value v (get_or clauses n []) p.0 forces.there others (settled n [] refutes.0) in
          no_refutation clauses v (assign w p.0) rest settled
          (λ x b is. elim (cases_eq x p.0.var) [
            | inl same ↦
                let h : x < length (assign w p.0) = value_inside (assign w p.0) x b is in
                let inside : p.0.var < length w = omega (arith, h, same, length-set w p.0.var (Some (not p.0.neg))) in
                let e : Some (not p.0.neg) ≡ Some b = sym (assign_here w p.0 inside) ∙ ap (λ k. get_or (assign w p.0) k None) (sym same) ∙ is in
                ap (λ k. get_or v k None) same ∙ is_true ∙ e
            | inr ne ↦ below x b (sym (assign_elsewhere w p.0 x ne) ∙ is)
          ])
          p.2
    ]

pub free-none : (inputs : List Bool) → free inputs (replicate (length inputs) None) ≡ inputs_count inputs
free-none [] = refl
free-none (true ∷ inputs) = ap (λ k. 1 + k) (free-none inputs)
free-none (false ∷ inputs) = ap (λ k. 0 + k) (free-none inputs)

-- a search begins with an empty trail
pub record Started (s : State) : Type 0 where
  pub ready : Ready s
  pub none : NoDecision s
  pub all_left : left_of s ≡ 2 ^ inputs_count s.inputs.items

pub started : (s mid : State) → Cut s 0 mid → AreWatched s → HasRoom s → Started mid
started s mid cut watched room = record {
  ready = record {
    sound = cut.sound;
    are_settled = subst (λ (k : List Step). DecisionsAreSettled mid.clauses.items (replicate (length mid.inputs.items) None) k) (sym cut.trail) tt;
    watched = watched_made mid s.inputs.items s.clauses.items s.watches cut.inputs cut.clauses cut.watches watched;
    guarded = guarded_none (length mid.inputs.items) mid.trail.items mid.watches.watched.items cut.trail;
    room = omega (arith, room, ap length cut.inputs, cut.capacity);
  };
  none = subst (λ (k : List Step). All (λ (step : Step). step.reason ≡ None → ⊥) k) (sym cut.trail) (All-nil (λ (step : Step). step.reason ≡ None → ⊥));
  all_left =
      ap (left mid.inputs.items (replicate (length mid.inputs.items) None)) cut.trail
      ∙ (let e : 2 ^ free mid.inputs.items (replicate (length mid.inputs.items) None) ≡ 2 ^ inputs_count mid.inputs.items = ap (λ k. 2 ^ k) (free-none mid.inputs.items) in omega arith);
}

pub holds_same : (s mid : State) (target : ℕ) (k : Known) → Cut s target mid → Holds s k → Holds mid k
holds_same s mid target k cut holds = record { inputs = cut.inputs ∙ holds.inputs; clauses = cut.clauses ∙ holds.clauses }

pub extends_same : (log : List Entry) → Extends log log
extends_same log = record { more = []; is = sym (append-nil log) }

pub extends_more : (a b c : List Entry) → Extends a b → Extends b c → Extends a c
extends_more a b c p q = record {
  more = p.more ++ q.more;
  is = q.is ∙ ap (λ k. k ++ q.more) p.is ∙ append_assoc a p.more q.more;
}

-- nothing more is recorded
pub kept_same :
    {M : Type 0} (opened : M → Option Question) (here total : M → ℕ) (nodes : List Node) (m : M) (log : List Entry)
    → IsRecorded nodes (opened m) (here m) log → KeepsRecord opened here total nodes m log m log
kept_same opened here total nodes m log recorded = record { recorded = recorded; still_open = refl; spent = refl; stay = extends_same log }

pub none_recorded :
    {M : Type 0} (opened : M → Option Question) (here total : M → ℕ) (nodes : List Node) (m : M) (log : List Entry)
    → IsRecorded nodes (opened m) (here m) log → RecordsOne opened here total nodes m log m log
none_recorded opened here total nodes m log recorded = record { kept = kept_same opened here total nodes m log recorded; few = omega arith }

pub kept_on :
    {M : Type 0} (opened : M → Option Question) (here total : M → ℕ) (nodes : List Node) (a b c : M) (x y z : List Entry)
    → KeepsRecord opened here total nodes a x b y → KeepsRecord opened here total nodes b y c z → KeepsRecord opened here total nodes a x c z
kept_on opened here total nodes a b c x y z p q = record {
  recorded = q.recorded;
  still_open = q.still_open ∙ p.still_open;
  spent = omega (arith, p.spent, q.spent);
  stay = extends_more x y z p.stay q.stay;
}

-- how a search ended is one thing alone
pub not_found : (e : LearnError) (s : Search) → Err e ≡ Ok s → ⊥
not_found e s is = cc

pub not_stopped : (e : LearnError) (s : Search) → Ok s ≡ Err e → ⊥
not_stopped e s is = cc

pub one_end : (r : Result Search LearnError) → r ≡ Ok Candidate → r ≡ Ok Refuted → ⊥
one_end r candidate refuted = cc

pub settled_refutes : (s : State) → SettledOnce s.clauses.items → UnitRefutable s → ⊥
settled_refutes s once refutable =
    no_refutation s.clauses.items once.values (replicate (length s.inputs.items) None) refutable.hints once.settled
    (λ x b is. absurd (let e : Some b ≡ None = sym is ∙ no_value (length s.inputs.items) x in cc)) refutable.refutes

-- the answer of `conclude` where it goes on
pub went_on :
    (flags : List Bool) (before after : State) (log log' : List Entry) (k : Known) (b : Bool) → b ≡ false → Concluded flags before log k after log' b → GoesOn flags before log k after log' false
went_on flags before after log log' k b is concluded = subst (GoesOn flags before log k after log') is concluded.goes_on

-- the answer of `conclude` where it does not go on
pub refuted_by :
    (flags : List Bool) (before after : State) (log log' : List Entry) (k : Known) (b : Bool) → b ≡ true → Concluded flags before log k after log' b → GivesEmpty log'
refuted_by flags before after log log' k b is concluded = subst (GoesOn flags before log k after log') is concluded.goes_on

-- what is known of the clauses at the start, after a decision
pub settled_on :
    (first s mid : State) (log log₀ : List Entry)
    → ((length log ≡ length log₀) × NoDecision s × (s.clauses.items ≡ first.clauses.items)) ⊎ SettledOnce first.clauses.items
    → SettledOnce s.clauses.items ⊎ (NoDecision s → NoDecision mid)
    → (NoDecision mid → ⊥)
    → SettledOnce first.clauses.items
settled_on first s mid log log₀ (inr once) decided some = once
settled_on first s mid log log₀ (inl p) (inl once) some = subst (λ (k : List (List Lit)). SettledOnce k) p.2 once
settled_on first s mid log log₀ (inl p) (inr keeps) some = absurd (some (keeps p.1))

-- the budget is not used up before the first entry
pub used_up :
    (first s : State) (log log₀ : List Entry) (budget here : ℕ)
    → ((length log ≡ length log₀) × NoDecision s × (s.clauses.items ≡ first.clauses.items)) ⊎ SettledOnce first.clauses.items
    → length log ≡ budget → length log₀ ≡ here → here + 1 ≤ budget → UnitRefutable first → ⊥
used_up first s log log₀ budget here (inl p) full count room refutable = absurd (let e : length log ≡ length log₀ = p.0 in omega arith)
used_up first s log log₀ budget here (inr once) full count room refutable = settled_refutes first once refutable
