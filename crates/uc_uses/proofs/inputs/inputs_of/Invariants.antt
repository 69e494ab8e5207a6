use Rattle.uc_uses.proofs.Firsts.{InputsTo}
use Rattle.uc_uses.proofs.inputs.inputs_of.Given as goal

abbrev pub invariant-loop-declaration : goal.invariant-loop-declaration
invariant-loop-declaration l = InputsTo l.declarations l.declaration-index l.inputs
