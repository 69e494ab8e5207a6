use Rattle.std.proofs.Common.{◌<◌, ℕ}
use Rattle.std.specs.Prelude.{MatchOption}
use Rattle.uc_learner.specs.Answered.{IsEmptyAt}
use Rattle.uc_learner.proofs.state.State.last_empty.Given as goal

abbrev pub invariant-loop-number : goal.invariant-loop-number
invariant-loop-number l =
    MatchOption l.found ((m : ℕ) → m < l.number → IsEmptyAt l.self.clauses.items m → ⊥)
    (λ n. (n < l.number) × IsEmptyAt l.self.clauses.items n × ((m : ℕ) → n < m → m < l.number → IsEmptyAt l.self.clauses.items m → ⊥))
