use Rattle.std.proofs.Common.{subst}
use Rattle.uc_lower.specs.Steps.{IsReady}
use Rattle.uc_lower.proofs.Chosen.{constant_bits}
use Rattle.uc_lower.proofs.nodes.low_by_operation.Goals as goal

pub constant-requires-clause-bits : goal.constant-requires-clause-bits
constant-requires-clause-bits c = constant_bits c.args.terms.now c.args.lowered.now c.args.t c.in-Const.ty c.in-Const.value c.requires.well (subst (IsReady c.args.terms.now c.args.lowered.now c.args.t) c.in-Const.is c.requires.ready)
