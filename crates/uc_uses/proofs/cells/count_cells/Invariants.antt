use Rattle.uc_meaning.specs.Lookup.{System}
use Rattle.uc_meaning.specs.Cells.{InstanceAt}
use Rattle.uc_uses.specs.Counting.{IsPlace, cell_count}
use Rattle.uc_uses.proofs.Counting.{CountedUpTo}
use Rattle.uc_uses.proofs.cells.count_cells.Given as goal

abbrev pub invariant-loop-declaration : goal.invariant-loop-declaration
invariant-loop-declaration l = (s : System) (here : InstanceAt) → IsPlace l.place here → CountedUpTo (cell_count s here) l.declaration-items l.limit l.fn.count l.declaration-index l.count
