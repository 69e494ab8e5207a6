use Rattle.uc_flat_making.proofs.ByKinds.{inputs_answer}
use Rattle.uc_flat_making.proofs.parts.inputs.Goals as goal

pub returns : goal.returns
returns c = inputs_answer c.args.shift c.args.kinds.now c.inputs_by.result c.inputs_by.ensures
