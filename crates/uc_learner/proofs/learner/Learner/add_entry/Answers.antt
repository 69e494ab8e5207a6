use Rattle.std.proofs.Common.{refl}
use Rattle.uc_learner.proofs.Opening.{taken_next}
use Rattle.uc_learner.proofs.learner.Learner.add_entry.Goals as goal

pub returns : goal.returns
returns c =
    λ q taken. taken_next c.in_ok-state.state c.add.new.self q c.args.log.now c.args.n c.entry.result.now c.args.self.now _ c.requires.there c.entry.ensures
    c.in_ok-state.ensures.inputs c.in_ok-state.ensures.clauses c.in_ok-add.ensures.holds refl refl refl taken
