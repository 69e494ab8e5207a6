use Rattle.std.proofs.Common.{[]}
use Rattle.uc_syntax.proofs.Added.{AddedUpTo}
use Rattle.uc_type_reader.specs.Places.{enums_in_module}
use Rattle.uc_type_reader.proofs.places.written_enums.Given as goal

abbrev pub invariant-loop-code : goal.invariant-loop-code
invariant-loop-code l = AddedUpTo enums_in_module l.modules [] l.code-index l.enums
