use Rattle.std.proofs.Common.{◌≡◌, drop}
use Rattle.uc_values.specs.Tables.{result_in}
use Rattle.uc_values.proofs.table.Table.result.Given as goal

abbrev pub invariant-loop-row : goal.invariant-loop-row
invariant-loop-row l = result_in l.self.rows l.self.default l.arguments ≡ result_in (drop l.row-index l.row-items) l.self.default l.arguments
