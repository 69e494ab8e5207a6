use Rattle.std.proofs.Common.{refl}
use Rattle.uc_values.proofs.Fitting.{fits-IsBits}
use Rattle.uc_ops.proofs.Typed.{Bv-valid}
use Rattle.uc_terms_table.proofs.sharing.bits_constant.Goals as goal

pub made-requires-clause-suits : goal.made-requires-clause-suits
made-requires-clause-suits c = (refl, Bv-valid c.args.width c.requires.low c.requires.high, refl, fits-IsBits c.args.width c.args.bits c.requires.bits)
