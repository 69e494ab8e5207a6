use Rattle.std.proofs.Common.{arith, ap, length, ◌∙◌}
use Rattle.std.proofs.lemmas.Grind.{common_steps}
use Rattle.uc_learner.proofs.Linked.{front_watched}
use Rattle.uc_learner.proofs.Progress.{sound_same}
use Rattle.uc_learner.proofs.state.State.add.Goals as goal

pub watch_from-requires-clause-sound : goal.watch_from-requires-clause-sound
watch_from-requires-clause-sound c = c.in_ok-take_over.ensures.sound

pub watch_from-requires-clause-inside : goal.watch_from-requires-clause-inside
watch_from-requires-clause-inside c = grind (arith, common_steps, c.in_ok-take_over.ensures.longer)

pub watch_from-requires-clause-watched : goal.watch_from-requires-clause-watched
watch_from-requires-clause-watched c =
    front_watched c.args.self.now c.take_over.new.self _ c.requires.whole.watched (grind (arith, common_steps)) c.in_ok-take_over.ensures.front c.in_ok-take_over.ensures.watches c.in_ok-take_over.ensures.wider

pub returns-clause-whole : goal.returns-clause-whole
returns-clause-whole c =
    let done = c.in_ok-watch_from.ensures in
    record {
      sound = sound_same c.take_over.new.self c.watch_from.new.self done.inputs done.clauses done.values done.trail c.in_ok-take_over.ensures.sound;
      watched = done.watched;
      room = omega (arith, c.in_ok-take_over.ensures.room c.requires.whole.room, ap length done.inputs, done.capacity);
    }

pub returns-clause-holds : goal.returns-clause-holds
returns-clause-holds c =
    λ k holds. record {
      inputs = c.in_ok-watch_from.ensures.inputs ∙ (c.in_ok-take_over.ensures.holds k holds).inputs;
      clauses = c.in_ok-watch_from.ensures.clauses ∙ (c.in_ok-take_over.ensures.holds k holds).clauses;
    }
