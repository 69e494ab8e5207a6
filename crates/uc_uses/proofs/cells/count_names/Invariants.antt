use Rattle.uc_meaning.specs.Cells.{InstanceAt}
use Rattle.uc_uses.specs.Counting.{IsPlace, one_cell}
use Rattle.uc_uses.proofs.Counting.{CountedUpTo}
use Rattle.uc_uses.proofs.cells.count_names.Given as goal

abbrev pub invariant-loop-identifier : goal.invariant-loop-identifier
invariant-loop-identifier l = (here : InstanceAt) → IsPlace l.place here → CountedUpTo (one_cell here l.kind) l.names l.limit l.fn.count l.identifier-index l.count
