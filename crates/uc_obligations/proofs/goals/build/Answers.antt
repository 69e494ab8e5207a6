use Rattle.uc_obligations.proofs.Told.{told_as}
use Rattle.uc_obligations.proofs.goals.build.Goals as goal

pub returns-clause-told : goal.returns-clause-told
returns-clause-told c = told_as c.args.f.now c.args.steps _ c.args.run.now _ c.args.goal c.args.model c.in_ok-told.told c.requires.sound c.requires.unrolled c.as_slice-states.ensures c.in_ok-told.ensures.told
