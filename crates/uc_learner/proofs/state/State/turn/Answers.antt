use Rattle.std.proofs.Common.{◌≡◌, refl}
use Rattle.uc_learner.proofs.Roaming.{turned}
use Rattle.uc_learner.proofs.state.State.turn.Goals as goal

pub returns-clause-turned : goal.returns-clause-turned
returns-clause-turned c =
    let same : c.swap.new.x.items ≡ c.args.choices.now.items = (let e = c.swap.ensures.x_after in cc) in
    turned c.args.self.now c.cut.new.self _ c.args.choices.now.items c.cut.ensures.cut c.cut.ensures.head c.requires.whole.watched c.requires.whole.room c.requires.long refl same refl refl refl refl refl
