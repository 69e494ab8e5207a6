use Rattle.std.proofs.Common.{[]}
use Rattle.uc_syntax.proofs.Added.{AddedUpTo}
use Rattle.uc_flat_order.specs.declared.wanted.Wanted.TheVariants.{Only}
use Rattle.uc_flat_order.specs.Slices.{kept}
use Rattle.uc_flat_order.proofs.slices.each_slice.Given as goal

abbrev pub invariant-loop-name : goal.invariant-loop-name
invariant-loop-name l = AddedUpTo (λ x. kept (Only x) l.statement) l.names [] l.name-index l.all
