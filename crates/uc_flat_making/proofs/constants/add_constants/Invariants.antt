use Rattle.uc_syntax.proofs.Added.{AddedUpTo}
use Rattle.uc_flat_making.specs.Cells.{constant_of_name}
use Rattle.uc_flat_making.proofs.constants.add_constants.Given as goal

abbrev pub invariant-loop-identifier : goal.invariant-loop-identifier
invariant-loop-identifier l = AddedUpTo (constant_of_name l.ty) l.names l.initial.constants l.identifier-index l.constants
