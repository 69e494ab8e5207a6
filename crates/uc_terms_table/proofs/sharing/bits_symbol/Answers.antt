use Rattle.std.proofs.Common.{refl}
use Rattle.uc_ops.proofs.Typed.{Bv-valid}
use Rattle.uc_terms_table.proofs.sharing.bits_symbol.Goals as goal

pub made-requires-clause-suits : goal.made-requires-clause-suits
made-requires-clause-suits c = (refl, Bv-valid c.args.width c.requires.low c.requires.high)
