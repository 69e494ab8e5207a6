-- A search begins with an empty log.
use Rattle.std.specs.Prelude.{◌≡◌, ℕ, ◌<◌, List, [], Option, Some, length}
use Rattle.std.proofs.Common.{sym, ap, ◌∙◌, subst, arith}
use Rattle.uc_ops.specs.declared.node.Node.{Node}
use Rattle.uc_log.specs.declared.entry.Entry.{Entry}
use Rattle.uc_log.specs.Problems.{Question}
use Rattle.uc_log.specs.Meters.{IsValidFor}
use Rattle.uc_log.specs.Entries.{known_of, IsValid}
use Rattle.uc_learner.specs.Recorded.{IsRecorded}
use Rattle.uc_learner.specs.Learners.{Learning, HasTaken, HasTakenFor}

-- an empty log is valid, and nothing of it was spent
pub recorded_first : (nodes : List Node) (opened : Option Question) (q : Question) (here : ℕ) (log : List Entry) → opened ≡ Some q → here ≡ 0 → log ≡ [] → IsRecorded nodes opened here log
recorded_first nodes opened q here log is none empty =
    let valid : IsValid nodes (known_of q) [] = record { all_meet = tt; different = λ i j d lt h. absurd (omega (arith, h)) } in
    record {
      valid = subst (λ (o : Option Question). IsValidFor nodes o log) (sym is) (subst (λ (es : List Entry). IsValid nodes (known_of q) es) (sym empty) valid);
      count = ap length empty ∙ sym none;
    }

-- the learner of the problem has taken over all entries
pub taken_first : (opened : Option Question) (q : Question) (log : List Entry) (l : Learning) → opened ≡ Some q → log ≡ [] → HasTaken q [] l → HasTakenFor opened log l
taken_first opened q log l is empty taken =
    subst (λ (o : Option Question). HasTakenFor o log l) (sym is) (subst (λ (es : List Entry). HasTaken q es l) (sym empty) taken)
