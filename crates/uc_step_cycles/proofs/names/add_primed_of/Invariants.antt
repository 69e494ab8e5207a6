use Rattle.uc_syntax.proofs.Added.{AddedUpTo}
use Rattle.uc_uses.specs.Meant.{mention_meant}
use Rattle.uc_step_cycles.specs.Acts.{primed_name}
use Rattle.uc_step_cycles.proofs.names.add_primed_of.Given as goal

abbrev pub invariant-loop-mentioned : goal.invariant-loop-mentioned
invariant-loop-mentioned l = AddedUpTo (λ m. primed_name (mention_meant m)) l.found l.fn.names l.mentioned-index l.names
