use Rattle.std.proofs.Common.{◌<◌, length, rules}
use Rattle.uc_meaning.specs.Steps.{step_scope}
use Rattle.uc_checks.specs.Watches.{watched}
use Rattle.uc_checks.proofs.Answers.{choices_left, some_left}
use Rattle.uc_checks.proofs.step.answer.Goals as goal

pub returns-then-used-choices : goal.returns-then-used-choices
returns-then-used-choices c = λ i holds sites.
    let more : c.args.seen.used < length c.args.choices.now = search rules in
    choices_left c.args.layout.now i c.args.old.now c.args.new.now c.args.choices.now (watched (step_scope i c.args.old.now c.args.new.now) c.args.choices.now c.args.seen) holds (some_left c.args.choices.now c.args.seen.used more) sites
