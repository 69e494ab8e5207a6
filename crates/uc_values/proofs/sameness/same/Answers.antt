use Rattle.uc_values.proofs.Everywhere.{agreement}
use Rattle.uc_values.proofs.sameness.same.Goals as goal

pub returns-clause-arrays : goal.returns-clause-arrays
returns-clause-arrays c = agreement c.args.ty.now c.args.left.now c.args.right.now c.same_values.result c.same_values.ensures
