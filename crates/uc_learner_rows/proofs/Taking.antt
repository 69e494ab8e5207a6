-- Entries that a learner takes over.
use Rattle.std.specs.Prelude.{◌≡◌, ◌≢◌, ℕ, ◌+◌, ◌<◌, ◌≤◌, List, [], ◌∷◌, ◌++◌, Option, None, Some, length, take, get_or, slice_get, Contains}
use Rattle.std.proofs.Common.{sym, ap, ◌∙◌, subst, arith, inl, inr}
use Rattle.std.proofs.lemmas.List.{length-map, length-take-le, take_all}
use Rattle.std.proofs.lemmas.List.Elements.{Contains-push_cases}
use Rattle.std.proofs.lemmas.Option.{get_or_from_slice_get}
use Rattle.uc_ops.specs.declared.node.Node.{Node}
use Rattle.uc_log.specs.declared.entry.Entry.{Entry}
use Rattle.uc_log.specs.declared.entry.Entry.TheVariants.{Gate as GateEntry, Atom as AtomEntry, Learnt}
use Rattle.uc_log.specs.Problems.{Question}
use Rattle.uc_log.specs.Meters.{IsValidFor}
use Rattle.uc_log.specs.Entries.{Known, known_of, known_after, Meets}
use Rattle.uc_log.proofs.Growth.{meets_at}
use Rattle.uc_log.specs.declared.atom.Atom.{Atom}
use Rattle.uc_circuit.specs.declared.gate.Gate.{Gate}
use Rattle.uc_circuit.specs.Gates.{OperandsBelow}
use Rattle.uc_learner.specs.Opened.{known_now}
use Rattle.uc_learner.specs.Learners.{Learning, HasTaken, HasTakenFor, IsOver, flag_of}

over_met : (nodes : List Node) (k : Known) (e : Entry) → Meets nodes k e → IsOver (length k.circuit) e
over_met nodes k (GateEntry g) meets = meets
over_met nodes k (AtomEntry a) meets = tt
over_met nodes k (Learnt clause hints) meets = meets.within

-- the literals and operands of an entry of a valid log are of the variables so far
pub over_at :
    (nodes : List Node) (opened : Option Question) (log : List Entry) (n : ℕ) (l : Learning)
    → IsValidFor nodes opened log → HasTakenFor opened (take n log) l → n < length log → (e : Entry) → slice_get log n ≡ Some e → IsOver (length l.inputs) e
over_at nodes None log n l valid taken there e is = absurd valid
over_at nodes (Some q) log n l valid taken there e is =
    let k : Known = known_after (known_of q) (take n log) in
    let read : get_or log n e ≡ e = get_or_from_slice_get log n e e is in
    let meets : Meets nodes k e = subst (Meets nodes k) read (meets_at nodes (known_of q) log n e there valid.all_meet) in
    let long : length k.circuit ≡ length l.inputs = sym (ap length taken.inputs ∙ length-map k.circuit flag_of) in
    subst (λ (m : ℕ). IsOver m e) long (over_met nodes k e meets)

-- one entry more is taken over
pub taken_on :
    (opened : Option Question) (log : List Entry) (n : ℕ) (l l' : Learning)
    → ((q : Question) → HasTaken q (take n log) l → HasTaken q (take (n + 1) log) l') → HasTakenFor opened (take n log) l → HasTakenFor opened (take (n + 1) log) l'
taken_on None log n l l' step taken = taken
taken_on (Some q) log n l l' step taken = step q taken

pub taken_count : (opened : Option Question) (log : List Entry) (l : Learning) → HasTakenFor opened log l → l.entries ≡ length log
taken_count None log l taken = absurd taken
taken_count (Some q) log l taken = taken.count

pub entries_before :
    (opened : Option Question) (log : List Entry) (n : ℕ) (l : Learning) → n < length log → HasTakenFor opened (take n log) l → n ≡ l.entries
entries_before opened log n l inside taken = sym (taken_count opened (take n log) l taken ∙ length-take-le n log (omega (arith, inside)))

-- a gate over the problem meets its condition in an empty log
pub gate_meets :
    (nodes : List Node) (opened : Option Question) (q : Question) (log : List Entry) (g : Gate)
    → opened ≡ Some q → log ≡ [] → OperandsBelow (length q.circuit) g → Meets nodes (known_now opened log) (GateEntry g)
gate_meets nodes opened q log g is empty below =
    subst (λ (o : Option Question). Meets nodes (known_now o log) (GateEntry g)) (sym is)
    (subst (λ (es : List Entry). Meets nodes (known_now (Some q) es) (GateEntry g)) (sym empty) below)

differ : (g : Gate) (a : Atom) → GateEntry g ≢ AtomEntry a
differ g a is = grind (arith, is)

pub nothing_in : (log : List Entry) (e : Entry) → log ≡ [] → Contains log e → ⊥
nothing_in log e empty there =
    let c : Contains [] e = subst (λ (es : List Entry). Contains es e) empty there in
    absurd (omega (arith, c.1))

-- an atom is not among the entries of a log that has a gate alone
pub atom_new : (before log : List Entry) (g : Gate) (a : Atom) → before ≡ [] → log ≡ before ++ GateEntry g ∷ [] → Contains log (AtomEntry a) → ⊥
atom_new before log g a empty is there =
    let c : Contains (before ++ GateEntry g ∷ []) (AtomEntry a) = subst (λ (es : List Entry). Contains es (AtomEntry a)) is there in
    elim (Contains-push_cases before (GateEntry g) (AtomEntry a) c) [ inl x ↦ nothing_in before (AtomEntry a) empty x | inr x ↦ differ g a x ]

pub taken_all : (opened : Option Question) (log : List Entry) (n : ℕ) (l : Learning) → length log ≤ n → HasTakenFor opened (take n log) l → HasTakenFor opened log l
taken_all opened log n l le taken = subst (λ (es : List Entry). HasTakenFor opened es l) (take_all n log le) taken
