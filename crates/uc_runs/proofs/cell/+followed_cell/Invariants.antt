use Rattle.uc_runs.proofs.cell.+followed_cell.Given as goal

abbrev pub decreases-followed_cell : goal.decreases-followed_cell
decreases-followed_cell l = l.below
