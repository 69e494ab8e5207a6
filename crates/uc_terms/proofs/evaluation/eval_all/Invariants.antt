use Rattle.std.proofs.Common.{◌≡◌, take}
use Rattle.uc_terms.specs.Values.{values_at}
use Rattle.uc_terms.proofs.evaluation.eval_all.Given as goal

abbrev pub invariant-loop-root : goal.invariant-loop-root
invariant-loop-root l = l.chosen.items ≡ values_at l.model l.terms (take l.root-index l.roots)
