use Rattle.std.proofs.Common.{◌≡◌, take}
use Rattle.uc_type_reader.specs.Places.{declaration_count}
use Rattle.uc_type_reader.proofs.places.declaration_count.Given as goal

abbrev pub invariant-loop-code : goal.invariant-loop-code
invariant-loop-code l = l.count ≡ declaration_count (take l.code-index l.modules)
