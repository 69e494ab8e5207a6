use Rattle.uc_declared_types.proofs.Listing.{ListedUpTo}
use Rattle.uc_declared_types.proofs.listed.add_aliases.Given as goal

abbrev pub invariant-loop-declaration : goal.invariant-loop-declaration
invariant-loop-declaration l = ListedUpTo l.homes l.home l.fn.listed l.declaration l.listed
