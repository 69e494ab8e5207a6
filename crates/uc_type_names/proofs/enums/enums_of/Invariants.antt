use Rattle.std.proofs.Common.{[]}
use Rattle.std.specs.List.{flat_map}
use Rattle.uc_syntax.specs.WrittenTypes.{enums_in, types_in}
use Rattle.uc_syntax.proofs.Added.{AddedUpTo}
use Rattle.uc_type_names.specs.Lent.{meant}
use Rattle.uc_type_names.proofs.enums.enums_of.Given as goal

abbrev pub invariant-loop-declaration : goal.invariant-loop-declaration
invariant-loop-declaration l = AddedUpTo (λ d. flat_map enums_in (types_in d)) l.declaration-items [] l.declaration-index (meant l.enums)
