use Rattle.std.proofs.Common.{[], ◌∷◌}
use Rattle.uc_terms_table.proofs.sharing.bits_sum.Goals as goal

pub made-requires-clause-suits : goal.made-requires-clause-suits
made-requires-clause-suits c = (c.args.width, λ i. c.requires.type_a i ∷ c.requires.type_b i ∷ [])
