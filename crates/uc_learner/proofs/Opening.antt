-- What is known of the opened problem and its log.
use Rattle.std.proofs.Common.{◌≡◌, ◌<◌, ◌+◌, ℕ, Bool, List, [], ◌∷◌, ◌++◌, Option, None, Some, length, take, get_or, refl, sym, ◌∙◌, ap, subst, arith}
use Rattle.std.specs.Prelude.{Contains, slice_get}
use Rattle.std.proofs.lemmas.List.{length-take-le}
use Rattle.std.proofs.lemmas.Option.{get_or_from_slice_get}
use Rattle.uc_ops.specs.declared.node.Node.{Node}
use Rattle.uc_log.specs.declared.entry.Entry.{Entry}
use Rattle.uc_log.specs.declared.entry.Entry.TheVariants.{Learnt}
use Rattle.uc_log.specs.Problems.{Question}
use Rattle.uc_log.specs.Meters.{IsValidFor}
use Rattle.uc_log.specs.Entries.{Known, known_of, add, given, known_after, Meets, AllMeet, EndsEmpty}
use Rattle.uc_log.proofs.Growth.{valid_push, known_next}
use Rattle.uc_circuit.specs.declared.gate.Gate.{Gate}
use Rattle.uc_circuit.specs.Circuits.{inputs_of}
use Rattle.uc_learner.specs.declared.state.State.{State}
use Rattle.uc_learner.specs.Learners.{Learning, HasTaken, HasTakenFor, input_flags}
use Rattle.uc_learner.specs.Answered.{Holds, inputs_count}
use Rattle.uc_learner.specs.Opened.{opened_known, known_now, AcceptsFor, GivesEmpty}

pub meet_of : (nodes : List Node) (opened : Option Question) (log : List Entry) → IsValidFor nodes opened log → AllMeet nodes (opened_known opened) log
meet_of nodes None log valid = absurd valid
meet_of nodes (Some q) log valid = valid.all_meet

pub valid_for_push :
    (nodes : List Node) (opened : Option Question) (log : List Entry) (e : Entry)
    → IsValidFor nodes opened log → Meets nodes (known_now opened log) e → (Contains log e → ⊥) → IsValidFor nodes opened (log ++ e ∷ [])
valid_for_push nodes None log e valid meets new = absurd valid
valid_for_push nodes (Some q) log e valid meets new = valid_push nodes (known_of q) log e valid meets new

ends_push : (k : Known) (xs : List Entry) (e : Entry) → given (known_after k xs) e ≡ [] ∷ [] → EndsEmpty k (xs ++ e ∷ [])
ends_push k [] e is = is
ends_push k (x ∷ []) e is = is
ends_push k (x ∷ y ∷ xs) e is = ends_push (add k x) (y ∷ xs) e is

-- a valid log that ends in an empty clause is accepted
pub accepted : (nodes : List Node) (opened : Option Question) (log : List Entry) → IsValidFor nodes opened log → GivesEmpty log → AcceptsFor nodes opened log
accepted nodes None log valid ends = absurd valid
accepted nodes (Some q) log valid ends = (
  valid.all_meet,
  subst (EndsEmpty (known_of q)) (sym ends.is) (ends_push (known_of q) ends.before (Learnt [] ends.hints) refl),
)

-- the inputs are counted by the flags
pub inputs_counted : (nodes : List (Option Gate)) → inputs_count (input_flags nodes) ≡ inputs_of nodes
inputs_counted [] = refl
inputs_counted (None ∷ nodes) = ap (λ k. 1 + k) (inputs_counted nodes)
inputs_counted (Some g ∷ nodes) = ap (λ k. 0 + k) (inputs_counted nodes)

pub counted_for :
    (opened : Option Question) (log : List Entry) (l : Learning) (inputs : List Bool) → HasTakenFor opened log l → inputs ≡ l.inputs
    → inputs_count inputs ≡ inputs_of (known_now opened log).circuit
counted_for None log l inputs taken same = absurd taken
counted_for (Some q) log l inputs taken same = ap inputs_count (same ∙ taken.inputs) ∙ inputs_counted (known_now (Some q) log).circuit

-- one entry more is taken over
pub taken_next :
    (before after : State) (q : Question) (log : List Entry) (n : ℕ) (e : Entry) (l l' : Learning)
    → n < length log → slice_get log n ≡ Some e
    → before.inputs.items ≡ l.inputs → before.clauses.items ≡ l.clauses
    → ((k : Known) → Holds before k → Holds after (add k e))
    → l'.inputs ≡ after.inputs.items → l'.clauses ≡ after.clauses.items → l'.entries ≡ n + 1
    → HasTaken q (take n log) l → HasTaken q (take (n + 1) log) l'
taken_next before after q log n e l l' h there i c keeps i' c' count taken =
    let k : Known = known_after (known_of q) (take n log) in
    let read : get_or log n e ≡ e = get_or_from_slice_get log n e e there in
    let next : known_after (known_of q) (take (n + 1) log) ≡ add k e = known_next (known_of q) log n e h ∙ ap (add k) read in
    let holds : Holds after (add k e) = keeps k (record { inputs = i ∙ taken.inputs; clauses = c ∙ taken.clauses }) in
    record {
      inputs = i' ∙ holds.inputs ∙ sym (ap (λ (m : Known). input_flags m.circuit) next);
      clauses = c' ∙ holds.clauses ∙ sym (ap (λ (m : Known). m.clauses) next);
      count = count ∙ sym (length-take-le (n + 1) log (omega arith));
    }

-- all of the log is taken over
pub taken_now :
    (opened opened' : Option Question) (log log' : List Entry) (l l' : Learning)
    → opened' ≡ opened → HasTakenFor opened log l
    → l'.inputs ≡ input_flags (known_now opened' log').circuit → l'.clauses ≡ (known_now opened' log').clauses → l'.entries ≡ length log'
    → HasTakenFor opened' log' l'
taken_now opened None log log' l l' same taken inputs clauses count = absurd (subst (λ (o : Option Question). HasTakenFor o log l) (sym same) taken)
taken_now opened (Some q) log log' l l' same taken inputs clauses count = record { inputs = inputs; clauses = clauses; count = count }
