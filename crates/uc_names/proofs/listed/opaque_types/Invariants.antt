use Rattle.std.proofs.Common.{[]}
use Rattle.uc_syntax.proofs.Added.{AddedUpTo}
use Rattle.uc_names.specs.Opaques.{opaques_in}
use Rattle.uc_names.proofs.listed.opaque_types.Given as goal

abbrev pub invariant-loop-code : goal.invariant-loop-code
invariant-loop-code l = AddedUpTo opaques_in l.modules [] l.code-index l.types
