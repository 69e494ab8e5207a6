use Rattle.std.proofs.Common.{ℕ, ◌<◌, [], length, get_or, subst}
use Rattle.uc_rings.specs.Watched.{IsWatched}
use Rattle.uc_rings.proofs.Linking.{is_watched}
use Rattle.uc_learner.specs.declared.state.State.{State}
use Rattle.uc_learner.specs.Learners.{Learning}
use Rattle.uc_learner.proofs.learner.Learner.watches.Goals as goal

pub returns : goal.returns
returns c =
    let s : State = c.self.inside.state in
    subst (λ (l : Learning). (n : ℕ) → n < length l.clauses → IsWatched (get_or l.clauses n []) s.watches.rings n) c.self.view_is
    (λ n h. is_watched s.clauses.items (length s.inputs.items) s.watches n c.self.invariant.watched h)
