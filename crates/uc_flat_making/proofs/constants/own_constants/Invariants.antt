use Rattle.std.proofs.Common.{[]}
use Rattle.uc_syntax.proofs.Added.{AddedUpTo}
use Rattle.uc_flat_making.specs.Cells.{declared_constants}
use Rattle.uc_flat_making.proofs.constants.own_constants.Given as goal

abbrev pub invariant-loop-decl : goal.invariant-loop-decl
invariant-loop-decl l = AddedUpTo (declared_constants l.tables l.code) l.decl-items [] l.decl-index l.constants
