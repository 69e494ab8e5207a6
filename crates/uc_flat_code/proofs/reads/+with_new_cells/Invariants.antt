use Rattle.uc_syntax.proofs.Added.{AddedUpTo}
use Rattle.uc_flat_code.specs.Once.{new_cells}
use Rattle.uc_flat_code.proofs.reads.+with_new_cells.Given as goal

abbrev pub invariant-with_all_new_cells-loop-part : goal.invariant-with_all_new_cells-loop-part
invariant-with_all_new_cells-loop-part l = AddedUpTo (new_cells l.first) l.parts l.fn.before l.part-index l.all
