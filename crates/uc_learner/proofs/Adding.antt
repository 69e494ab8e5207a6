-- Taking over a problem and an entry.
use Rattle.std.proofs.Common.{◌≡◌, ℕ, ◌+◌, ◌^◌, ◌<◌, Bool, List, [], ◌∷◌, ◌++◌, None, length, replicate, take, refl, sym, ◌∙◌, ap, subst, arith, vec_capacity}
use Rattle.std.proofs.lemmas.List.{append-nil, length-append, length-map, length-replicate, replicate-append-replicate, map-append, take_at}
use Rattle.std.proofs.lemmas.List.Elements.{All-nil, All-append, All-push}
use Rattle.uc_circuit.specs.declared.literal.Lit.{Lit}
use Rattle.uc_circuit.specs.Gates.{clauses_of_gate}
use Rattle.uc_log.specs.declared.entry.Entry.{Entry}
use Rattle.uc_log.specs.declared.entry.Entry.TheVariants.{Gate as GateEntry, Atom as AtomEntry, Learnt}
use Rattle.uc_log.specs.Problems.{Question, IsQuestion}
use Rattle.uc_log.specs.Refutes.{Within, AllWithin}
use Rattle.uc_log.specs.Entries.{Known, clauses_of, added_nodes, given}
use Rattle.uc_log.proofs.Circuits.{gate_within, weaken}
use Rattle.uc_log.proofs.Refutation.{closed_first}
use Rattle.uc_learner.specs.declared.state.Step.{Step}
use Rattle.uc_learner.specs.declared.state.State.{State}
use Rattle.uc_learner.specs.Trail.{values_after}
use Rattle.uc_learner.specs.Sound.{Sound, HasRoom}
use Rattle.uc_learner.specs.Moves.{Cut}
use Rattle.uc_learner.specs.Learners.{flag_of, input_flags, IsOver}
use Rattle.uc_learner.specs.Added.{VariableAdded, Added}
use Rattle.uc_learner.proofs.Progress.{sound_made}

-- a state without steps is sound
pub sound_bare :
    (s : State) (inputs : List Bool) (clauses : List (List Lit))
    → s.inputs.items ≡ inputs → s.clauses.items ≡ clauses → s.values.items ≡ replicate (length inputs) None → s.trail.items ≡ []
    → AllWithin (length inputs) clauses → length clauses < 2 ^ 32 → length inputs < 2 ^ 32
    → Sound s
sound_bare s inputs clauses i c v t within numbered variables = sound_made s inputs clauses (replicate (length inputs) None) [] i c v t refl tt within numbered variables

-- the clauses of an entry are of the variables before it and its own
given_within : (n : ℕ) (e : Entry) (k : Known) → length k.circuit ≡ n → IsOver n e → AllWithin (n + length (input_flags (added_nodes e))) (given k e)
given_within n (GateEntry g) k long over =
    subst (λ (m : ℕ). AllWithin (n + 1) (clauses_of_gate m g)) (sym long) (gate_within n g over)
given_within n (AtomEntry a) k long over = All-nil (Within (n + 1))
given_within n (Learnt clause hints) k long over =
    weaken (clause ∷ []) n (n + 0) (omega arith) (All-push (Within n) [] clause (All-nil (Within n)) over)

-- what is known only by its variables
abbrev bare : ℕ → Known
bare n = record { circuit = replicate n None; atoms = []; clauses = [] }

pub added :
    (before cut after : State) (e : Entry) (clauses : List (List Lit)) (flags : List Bool)
    → Cut before 0 cut → IsOver (length before.inputs.items) e
    → ((k : Known) → length k.circuit ≡ length cut.inputs.items → clauses ≡ given k e)
    → length clauses + length cut.clauses.items < 2 ^ 32
    → flags ≡ input_flags (added_nodes e)
    → after.clauses.items ≡ cut.clauses.items ++ clauses
    → after.inputs.items ≡ cut.inputs.items ++ flags
    → after.values.items ≡ cut.values.items ++ replicate (length flags) None
    → after.trail.items ≡ cut.trail.items
    → length after.inputs.items < 2 ^ 32
    → after.watches ≡ cut.watches
    → (HasRoom before → HasRoom after)
    → Added before e after
added before cut after e clauses flags is_cut over given_all room is_flags c i v t variables watches has_room =
    let n : ℕ = length cut.inputs.items in
    let inputs : List Bool = cut.inputs.items ++ flags in
    let all : List (List Lit) = cut.clauses.items ++ clauses in
    let long : length inputs ≡ n + length flags = length-append cut.inputs.items flags in
    let no_steps : cut.trail.items ≡ [] = is_cut.trail in
    let no_values : cut.values.items ≡ replicate n None = is_cut.sound.values ∙ ap (λ (xs : List Step). values_after (replicate n None) xs) no_steps in
    let many : length inputs ≡ length after.inputs.items = sym (ap length i) in
    let here : length (bare n).circuit ≡ n = length-replicate n None in
    let new_within : AllWithin (n + length flags) clauses =
    subst (λ (cs : List (List Lit)). AllWithin (n + length flags) cs) (sym (given_all (bare n) here))
    (subst (λ (fs : List Bool). AllWithin (n + length fs) (given (bare n) e)) (sym is_flags)
    (given_within n e (bare n) here (subst (λ m. IsOver m e) (sym (ap length is_cut.inputs)) over))) in
    let within : AllWithin (n + length flags) all =
    All-append (Within (n + length flags)) cut.clauses.items clauses (weaken cut.clauses.items n (n + length flags) (omega arith) is_cut.sound.within) new_within in
    record {
      watches = watches ∙ is_cut.watches;
      front = ap (take (length before.clauses.items)) c ∙ take_at cut.clauses.items clauses (length before.clauses.items) (ap length is_cut.clauses) ∙ is_cut.clauses;
      longer = omega (arith, ap length c, length-append cut.clauses.items clauses, ap length is_cut.clauses);
      wider = omega (arith, long, many, ap length is_cut.inputs);
      room = has_room;
      sound =
          sound_bare after inputs all i c
          (v ∙ ap (λ xs. xs ++ replicate (length flags) None) no_values ∙ replicate-append-replicate n (length flags) None ∙ ap (λ m. replicate m None) (sym long))
          (t ∙ no_steps)
          (subst (λ m. AllWithin m all) (sym long) within)
          (omega (arith, room, length-append cut.clauses.items clauses))
          (omega (arith, many, variables));
      holds = λ k holds.
          let circuit : length k.circuit ≡ n = sym (length-map k.circuit flag_of) ∙ sym (ap length holds.inputs) ∙ sym (ap length is_cut.inputs) in
          record {
            inputs =
                i ∙ ap (λ xs. xs ++ flags) (is_cut.inputs ∙ holds.inputs) ∙ ap (λ xs. input_flags k.circuit ++ xs) is_flags
                ∙ sym (map-append flag_of k.circuit (added_nodes e));
            clauses = c ∙ ap (λ xs. xs ++ clauses) (is_cut.clauses ∙ holds.clauses) ∙ ap (λ xs. k.clauses ++ xs) (given_all k circuit);
          };
    }

-- an entry that adds a variable
pub added_variable :
    (before cut mid after : State) (e : Entry) (clauses : List (List Lit)) (flag : Bool)
    → Cut before 0 cut → IsOver (length before.inputs.items) e
    → ((k : Known) → length k.circuit ≡ length cut.inputs.items → clauses ≡ given k e)
    → length clauses + length cut.clauses.items < 2 ^ 32
    → flag ∷ [] ≡ input_flags (added_nodes e)
    → mid.clauses.items ≡ cut.clauses.items ++ clauses → mid.inputs.items ≡ cut.inputs.items → mid.values.items ≡ cut.values.items → mid.trail.items ≡ cut.trail.items → mid.watches ≡ cut.watches
    → VariableAdded mid flag after
    → Added before e after
added_variable before cut mid after e clauses flag is_cut over given_all room is_flags c i v t w one =
    added before cut after e clauses (flag ∷ []) is_cut over given_all room is_flags (one.clauses ∙ c)
    (one.inputs ∙ ap (λ xs. xs ++ flag ∷ []) i) (one.values ∙ ap (λ xs. xs ++ None ∷ []) v) (one.trail ∙ t) one.room (one.watches ∙ w) (λ _. one.trail_room)

pub added_clauses :
    (before cut after : State) (e : Entry) (clauses : List (List Lit))
    → Cut before 0 cut → IsOver (length before.inputs.items) e
    → ((k : Known) → length k.circuit ≡ length cut.inputs.items → clauses ≡ given k e)
    → length clauses + length cut.clauses.items < 2 ^ 32
    → [] ≡ input_flags (added_nodes e)
    → after.clauses.items ≡ cut.clauses.items ++ clauses → after.inputs.items ≡ cut.inputs.items → after.values.items ≡ cut.values.items → after.trail.items ≡ cut.trail.items → after.watches ≡ cut.watches
    → vec_capacity after.trail ≡ vec_capacity cut.trail
    → Added before e after
added_clauses before cut after e clauses is_cut over given_all room is_flags c i v t w capacity =
    added before cut after e clauses [] is_cut over given_all room is_flags c (i ∙ sym (append-nil cut.inputs.items)) (v ∙ sym (append-nil cut.values.items)) t
    (omega (arith, is_cut.sound.variables, ap length i)) w
    (λ has. omega (arith, has, ap length i, ap length is_cut.inputs, capacity, is_cut.capacity))

-- the state of a problem
pub first_sound :
    (s : State) (q : Question) → IsQuestion q → s.inputs.items ≡ input_flags q.circuit → s.clauses.items ≡ clauses_of q
    → s.values.items ≡ replicate (length q.circuit) None → s.trail.items ≡ [] → length (clauses_of q) < 2 ^ 32 → Sound s
first_sound s q fine i c v t room =
    let long : length (input_flags q.circuit) ≡ length q.circuit = length-map q.circuit flag_of in
    sound_bare s (input_flags q.circuit) (clauses_of q) i c (v ∙ ap (λ m. replicate m None) (sym long)) t
    (subst (λ m. AllWithin m (clauses_of q)) (sym long) (closed_first q fine)) room (omega (arith, fine.circuit.numbered, long))
