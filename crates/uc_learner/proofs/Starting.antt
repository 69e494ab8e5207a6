-- A search begins with an empty log.
use Rattle.std.proofs.Common.{◌≡◌, ℕ, ◌+◌, ◌<◌, ◌≤◌, Bool, List, [], ◌∷◌, ◌++◌, Option, Some, length, get_or, take, sym, ◌∙◌, ap, subst, arith}
use Rattle.std.proofs.lemmas.List.{take_more, take_all}
use Rattle.uc_circuit.specs.declared.gate.Gate.{Gate}
use Rattle.uc_circuit.specs.Circuits.{inputs_of}
use Rattle.uc_ops.specs.declared.node.Node.{Node}
use Rattle.uc_log.specs.declared.entry.Entry.{Entry}
use Rattle.uc_log.specs.Problems.{Question}
use Rattle.uc_log.specs.Meters.{IsValidFor}
use Rattle.uc_log.specs.Entries.{known_of, IsValid}
use Rattle.uc_learner.specs.Recorded.{IsRecorded}
use Rattle.uc_learner.specs.Learners.{Learning, HasTaken, HasTakenFor, input_flags}
use Rattle.uc_learner.specs.Answered.{one_if, inputs_count}
use Rattle.uc_learner.proofs.Opening.{inputs_counted}

pub recorded_first :
    (nodes : List Node) (opened : Option Question) (q : Question) (here : ℕ) (log : List Entry) → opened ≡ Some q → here ≡ 0 → log ≡ [] → IsRecorded nodes opened here log
recorded_first nodes opened q here log is none empty =
    let valid : IsValid nodes (known_of q) [] = record { all_meet = tt; different = λ i j d lt h. absurd (omega arith) } in
    record {
      valid = subst (λ (o : Option Question). IsValidFor nodes o log) (sym is) (subst (λ (es : List Entry). IsValid nodes (known_of q) es) (sym empty) valid);
      count = ap length empty ∙ sym none;
    }

pub taken_first : (opened : Option Question) (q : Question) (log : List Entry) (l : Learning) → opened ≡ Some q → log ≡ [] → HasTaken q [] l → HasTakenFor opened log l
taken_first opened q log l is empty taken =
    subst (λ (o : Option Question). HasTakenFor o log l) (sym is) (subst (λ (es : List Entry). HasTaken q es l) (sym empty) taken)

count-append : (flags : List Bool) (b : Bool) → inputs_count (flags ++ b ∷ []) ≡ inputs_count flags + one_if b
count-append [] b = omega arith
count-append (f ∷ flags) b = let e : inputs_count (flags ++ b ∷ []) ≡ inputs_count flags + one_if b = count-append flags b in omega arith

-- the inputs among one variable more
pub count_more : (flags : List Bool) (n : ℕ) (d : Bool) → n < length flags → inputs_count (take (n + 1) flags) ≡ inputs_count (take n flags) + one_if (get_or flags n d)
count_more flags n d h = ap inputs_count (take_more flags n d h) ∙ count-append (take n flags) (get_or flags n d)

pub count_all : (nodes : List (Option Gate)) (flags : List Bool) (n : ℕ) → flags ≡ input_flags nodes → length flags ≤ n → inputs_count (take n flags) ≡ inputs_of nodes
count_all nodes flags n is le = ap inputs_count (take_all n flags le ∙ is) ∙ inputs_counted nodes
