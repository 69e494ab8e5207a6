use Rattle.std.proofs.Common.{ap, sym, ◌∙◌}
use Rattle.std.specs.Prelude.{if◌then◌else◌}
use Rattle.uc_uses.proofs.Counting.{counts_none}
use Rattle.uc_uses.proofs.cells.count_name.Goals as goal

pub returns-else-is_cell : goal.returns-else-is_cell
returns-else-is_cell c here place = counts_none _ _ _ (ap (λ b. if b then 1 else 0) (sym (c.is_cell.ensures here place) ∙ c.if-is_cell.false))
