use Rattle.std.proofs.Common.{sym, subst}
use Rattle.uc_values.specs.declared.value.Value.TheVariants.{Bv}
use Rattle.uc_blast.specs.Constants.{StandsForValue}
use Rattle.uc_blast.proofs.Plain.{bits-stand}
use Rattle.uc_blast.proofs.constants.number_word.Goals as goal

pub returns : goal.returns
returns c = subst (StandsForValue (Bv c.args.width c.args.number)) (sym c.from_vec.ensures) (bits-stand c.args.width c.args.number _ c.in_ok-bits.ensures)
