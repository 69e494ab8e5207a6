use Rattle.uc_uses.proofs.Nodes.{NoneDeepUpTo}
use Rattle.uc_uses.proofs.depth.has_deep_module.Given as goal

abbrev pub invariant-loop-module : goal.invariant-loop-module
invariant-loop-module l = NoneDeepUpTo l.design l.module-items l.module-index
