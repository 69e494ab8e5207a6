use Rattle.uc_flat_laws.proofs.Laws.{fits_hold}
use Rattle.uc_flat_laws.proofs.flat_fits.fits.Goals as goal

pub returns : goal.returns
returns c = fits_hold
