-- The search in which any variable may be decided.
use Rattle.std.proofs.Common.{◌≡◌, ℕ, zero, suc, ◌+◌, ◌*◌, ◌^◌, ◌<◌, ◌≤◌, inl, inr, Bool, true, false, List, [], ◌∷◌, None, length, take, replicate, refl, sym, ◌∙◌, ap, subst, arith, vec_capacity}
use Rattle.std.specs.Prelude.{All}
use Rattle.std.proofs.lemmas.List.Elements.{All-nil}
use Rattle.uc_circuit.specs.declared.literal.Lit.{Lit}
use Rattle.uc_log.specs.Refutes.{AllWithin}
use Rattle.uc_log.specs.Entries.{Known}
use Rattle.uc_log.specs.declared.entry.Entry.{Entry}
use Rattle.uc_rings.specs.Watched.{Linked}
use Rattle.uc_learner.specs.Learners.{input_flags}
use Rattle.uc_learner.specs.declared.state.Step.{Step}
use Rattle.uc_learner.specs.declared.state.State.{State}
use Rattle.uc_learner.specs.Trail.{values_after, DecisionsAreSettled, free, left}
use Rattle.uc_learner.specs.Sound.{AreWatched, HasRoom}
use Rattle.uc_learner.specs.Moves.{Cut, NoDecision}
use Rattle.uc_learner.specs.Answered.{Holds, HoldsFor, NoneEmpty, one_if, inputs_count}
use Rattle.uc_learner.specs.Roamed.{Turned, SettledSince, Back, Roamed, Spares}
use Rattle.uc_learner.proofs.Adding.{sound_bare}
use Rattle.uc_learner.proofs.Linked.{watched_made}
use Rattle.uc_learner.proofs.Guarded.{guarded_none}
use Rattle.uc_learner.proofs.Queue.{waiting_none}
use Rattle.uc_learner.proofs.Answering.{free-none}
use Rattle.uc_learner.proofs.Starting.{count_more}
use Rattle.std.proofs.Math.Pow.{pow_mono}
use Rattle.std.proofs.lemmas.Nat.{pow-add}
use Rattle.uc_learner.specs.Opened.{GivesEmpty}
use Rattle.uc_learner.specs.Moves.{SettledOnce}
use Rattle.std.proofs.Common.{◌/◌, get_or}

-- without steps any flags may be the choices
pub turned :
    (s mid after : State) (choices : List Bool)
    → Cut s 0 mid → mid.head ≡ 0 → AreWatched s → HasRoom s → length choices ≡ length s.inputs.items
    → after.clauses.items ≡ mid.clauses.items → after.inputs.items ≡ choices → after.values.items ≡ mid.values.items
    → after.trail.items ≡ mid.trail.items → after.watches ≡ mid.watches → after.head ≡ mid.head → vec_capacity after.trail ≡ vec_capacity mid.trail
    → Turned s choices after
turned s mid after choices cut head watched room long c i v t w h capacity =
    let no_steps : after.trail.items ≡ [] = t ∙ cut.trail in
    let no_values : mid.values.items ≡ replicate (length mid.inputs.items) None =
    cut.sound.values ∙ ap (λ (xs : List Step). values_after (replicate (length mid.inputs.items) None) xs) cut.trail in
    let many : length choices ≡ length mid.inputs.items = long ∙ sym (ap length cut.inputs) in
    record {
      ready = record {
        sound =
            sound_bare after choices mid.clauses.items i c (v ∙ no_values ∙ ap (λ m. replicate m None) (sym many)) no_steps
            (subst (λ m. AllWithin m mid.clauses.items) (sym many) cut.sound.within) cut.sound.numbered (omega (arith, many, cut.sound.variables));
        are_settled = subst (λ (k : List Step). DecisionsAreSettled after.clauses.items (replicate (length after.inputs.items) None) k) (sym no_steps) tt;
        watched =
            watched_made after choices s.clauses.items s.watches i (c ∙ cut.clauses) (w ∙ cut.watches)
            (subst (λ m. Linked s.clauses.items m s.watches) (sym long) watched);
        guarded = guarded_none (length after.inputs.items) after.trail.items after.watches.watched.items no_steps;
        room = omega (arith, room, ap length i, long, capacity, cut.capacity);
      };
      waiting = waiting_none after (h ∙ head);
      none = subst (λ (k : List Step). All (λ (step : Step). step.reason ≡ None → ⊥) k) (sym no_steps) (All-nil (λ (step : Step). step.reason ≡ None → ⊥));
      clauses = c ∙ cut.clauses;
      inputs = i;
      all_left =
          ap (λ (k : List Bool). left k (replicate (length k) None) after.trail.items) i ∙ ap (left choices (replicate (length choices) None)) no_steps
          ∙ (let e : 2 ^ free choices (replicate (length choices) None) ≡ 2 ^ inputs_count choices = ap (λ k. 2 ^ k) (free-none choices) in omega (arith, e));
    }

pub holds_for : (s : State) (k : Known) → Holds s k → HoldsFor (input_flags k.circuit) s k
holds_for s k holds = record { inputs = refl; many = ap length holds.inputs; clauses = holds.clauses }

-- the same of a state with other steps
pub holds_now : (flags : List Bool) (s mid : State) (k : Known) → mid.inputs.items ≡ s.inputs.items → mid.clauses.items ≡ s.clauses.items → HoldsFor flags s k → HoldsFor (input_flags k.circuit) mid k
holds_now flags s mid k i c holds = record { inputs = refl; many = ap length i ∙ holds.many ∙ ap length holds.inputs; clauses = c ∙ holds.clauses }

-- of the flags at the start
pub holds_next : (flags : List Bool) (s mid : State) (k k' : Known) → flags ≡ input_flags k.circuit → mid.inputs.items ≡ s.inputs.items → mid.clauses.items ≡ s.clauses.items → HoldsFor (input_flags k.circuit) s k' → HoldsFor flags mid k'
holds_next flags s mid k k' is i c holds = record { inputs = is ∙ holds.inputs; many = ap length i ∙ holds.many ∙ sym (ap length is); clauses = c ∙ holds.clauses }

settled_same : (first s after : State) (log₀ log : List Entry) → SettledSince first log₀ s log → after.clauses.items ≡ s.clauses.items → NoDecision after → SettledSince first log₀ after log
settled_same first s after log₀ log (inr once) c none = inr once
settled_same first s after log₀ log (inl p) c none = inl (p.0, none, c ∙ p.2)

-- the search begins again with the inputs
pub back :
    (first s mid after : State) (log₀ log : List Entry) (k : Known) (choices : List Bool)
    → SettledSince first log₀ s log → HoldsFor first.inputs.items s k → NoneEmpty s.clauses.items
    → mid.clauses.items ≡ s.clauses.items → choices ≡ first.inputs.items → Turned mid choices after → Back first log₀ k after log
back first s mid after log₀ log k choices settled holds none_empty c is turned =
    let same : after.clauses.items ≡ s.clauses.items = turned.clauses ∙ c in
    record {
      ready = turned.ready;
      waiting = turned.waiting;
      inputs = turned.inputs ∙ is;
      holds = record { inputs = turned.inputs ∙ is ∙ holds.inputs; clauses = same ∙ holds.clauses };
      none_empty = subst NoneEmpty (sym same) none_empty;
      all_left = turned.all_left ∙ ap (λ (k : List Bool). 2 ^ inputs_count k) is;
      settled = settled_same first s after log₀ log settled same turned.none;
    }

pub back_by : (first after : State) (log₀ log : List Entry) (k : Known) (b : Bool) → b ≡ false → Roamed first log₀ k after log b → Back first log₀ k after log
back_by first after log₀ log k b is roamed = subst (Roamed first log₀ k after log) is roamed

pub roam_refuted : (first after : State) (log₀ log : List Entry) (k : Known) (b : Bool) → b ≡ true → Roamed first log₀ k after log b → GivesEmpty log
roam_refuted first after log₀ log k b is roamed = subst (Roamed first log₀ k after log) is roamed

pub settled_from : (first mid s : State) (log₀ log : List Entry) → mid.clauses.items ≡ first.clauses.items → SettledSince mid log₀ s log → SettledSince first log₀ s log
settled_from first mid s log₀ log c (inr once) = inr (subst (λ (k : List (List Lit)). SettledOnce k) c once)
settled_from first mid s log₀ log c (inl p) = inl (p.0, p.1, p.2 ∙ c)

count_take : (n : ℕ) (flags : List Bool) → inputs_count (take n flags) ≤ inputs_count flags
count_take zero flags = omega arith
count_take (suc n) [] = omega arith
count_take (suc n) (f ∷ flags) = let e : inputs_count (take n flags) ≤ inputs_count flags = count_take n flags in omega (arith, e)

-- the power of the inputs among one variable more
pub power_more :
    (flags : List Bool) (n : ℕ) (b : Bool) → n < length flags → get_or flags n false ≡ b → 2 ^ inputs_count (take (n + 1) flags) ≡ 2 ^ (inputs_count (take n flags) + one_if b)
power_more flags n b h is = ap (λ k. 2 ^ k) (count_more flags n false h ∙ ap (λ x. inputs_count (take n flags) + one_if x) is)

-- an input more doubles it
pub power_double :
    (flags : List Bool) (n : ℕ) → n < length flags → get_or flags n false ≡ true → 2 ^ inputs_count (take (n + 1) flags) ≡ (2 ^ inputs_count (take n flags)) * 2
power_double flags n h is =
    let e : 2 ^ inputs_count (take (n + 1) flags) ≡ 2 ^ (inputs_count (take n flags) + 1) = power_more flags n true h is in
    omega (arith, e, pow-add 2 (inputs_count (take n flags)) 1)

pub power_same :
    (flags : List Bool) (n : ℕ) → n < length flags → get_or flags n false ≡ false → 2 ^ inputs_count (take (n + 1) flags) ≡ 2 ^ inputs_count (take n flags)
power_same flags n h is = power_more flags n false h is ∙ ap (λ k. 2 ^ k) (let e : inputs_count (take n flags) + 0 ≡ inputs_count (take n flags) = omega arith in e)

-- so many inputs that the room does not serve
pub too_many :
    (flags : List Bool) (n reserve room : ℕ) → n < length flags → get_or flags n false ≡ true → reserve ≡ 2 ^ inputs_count (take n flags) → room / 2 < reserve
    → room < 2 ^ inputs_count flags
too_many flags n reserve room h is power over =
    let next : 2 ^ inputs_count (take (n + 1) flags) ≡ (2 ^ inputs_count (take n flags)) * 2 = power_double flags n h is in
    let le : 2 ^ inputs_count (take (n + 1) flags) ≤ 2 ^ inputs_count flags = pow_mono (count_take (n + 1) flags) in
    omega (arith, next, le, power, over)

-- entries within the limit are within the budget
pub within_limit :
    (here here' start limit budget : ℕ) → here ≡ start → (start ≤ budget → start ≤ limit) → limit ≤ budget → (here ≤ limit → here' ≤ limit) → here ≤ budget → here' ≤ budget
within_limit here here' start limit budget is inside at_most within room =
    let a : start ≤ limit = inside (omega (arith, is, room)) in
    let b : here' ≤ limit = within (omega (arith, is, a)) in
    omega (arith, b, at_most)

-- behind the limit there is room for all that the inputs may need
pub spared :
    (first inputs again : List Bool) (here here' start limit budget n n' rest : ℕ) → n ≡ here → n' ≡ here' → n ≡ start → inputs ≡ again → again ≡ first → Spares inputs start budget limit
    → (here ≤ limit → here' ≤ limit) → rest ≡ 2 ^ inputs_count again → n + 2 ^ inputs_count first ≤ budget → n' + rest ≤ budget
spared first inputs again here here' start limit budget n n' rest is is' from same still spares within left room =
    let e : 2 ^ inputs_count inputs ≡ 2 ^ inputs_count first = ap (λ (k : List Bool). 2 ^ inputs_count k) (same ∙ still) in
    let f : 2 ^ inputs_count again ≡ 2 ^ inputs_count first = ap (λ (k : List Bool). 2 ^ inputs_count k) still in
    let p : (start ≤ limit) × (limit + 2 ^ inputs_count inputs ≤ budget) = spares (omega (arith, e, room, from)) in
    let b : here' ≤ limit = within (omega (arith, p.0, from, is)) in
    omega (arith, b, p.1, left, is', e, f)
