use Rattle.std.specs.List.{list_any}
use Rattle.uc_step_cycles.specs.Cells.{declares_cell}
use Rattle.uc_step_cycles.proofs.Entered.{enters_by}
use Rattle.uc_step_cycles.proofs.table.node_cells.Goals as goal

pub returns : goal.returns
returns c = record {
  bound = c.in_ok-bound.ensures;
  enters = enters_by c.args.number c.args.cells.now _ _ _ _ (λ x k. list_any (declares_cell (c.stands_in_none-is_root.ensures k) c.in_ok-bound.bound x) (c.as_slice-declarations.ensures k)) c.in_ok-own.ensures;
}
