use Rattle.uc_flat_design.proofs.Stepping.{fits_hold}
use Rattle.uc_flat_design.proofs.flat_design_law.next_fits.Goals as goal

pub returns : goal.returns
returns c = fits_hold
