use Rattle.uc_flat_making.proofs.Answered.{whole_answer}
use Rattle.uc_flat_making.proofs.making.flat_design.Goals as goal

pub returns : goal.returns
returns c = whole_answer c.args.tables.now c.of_modules.result c.of_modules.ensures
