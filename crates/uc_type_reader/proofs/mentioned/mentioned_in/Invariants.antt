use Rattle.uc_syntax.specs.WrittenTypes.{types_in}
use Rattle.uc_type_reader.specs.Mentioned.{nothing_mentioned}
use Rattle.uc_type_reader.proofs.Gained.{GainedUpTo}
use Rattle.uc_type_reader.proofs.mentioned.mentioned_in.Given as goal

abbrev pub invariant-loop-declaration : goal.invariant-loop-declaration
invariant-loop-declaration l = GainedUpTo types_in l.declaration-items nothing_mentioned l.declaration-index l.found
