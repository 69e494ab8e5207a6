use Rattle.std.proofs.Common.{[]}
use Rattle.uc_syntax.proofs.Added.{AddedUpTo}
use Rattle.uc_flat_order.specs.Slices.{slices}
use Rattle.uc_flat_order.proofs.slices.all_slices.Given as goal

abbrev pub invariant-loop-statement : goal.invariant-loop-statement
invariant-loop-statement l = AddedUpTo slices l.code [] l.statement-index l.all
