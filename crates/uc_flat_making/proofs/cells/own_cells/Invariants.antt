use Rattle.std.proofs.Common.{[]}
use Rattle.uc_syntax.proofs.Added.{AddedUpTo}
use Rattle.uc_flat_making.specs.Cells.{declared_cells}
use Rattle.uc_flat_making.proofs.cells.own_cells.Given as goal

abbrev pub invariant-loop-decl : goal.invariant-loop-decl
invariant-loop-decl l = AddedUpTo (declared_cells l.tables l.code) l.decl-items [] l.decl-index l.cells
