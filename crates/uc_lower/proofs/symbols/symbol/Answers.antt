use Rattle.std.proofs.Common.{[], subst, refl}
use Rattle.uc_ops.specs.declared.op.Op.TheVariants.{Symbol}
use Rattle.uc_lower.specs.Made.{IsMade}
use Rattle.uc_lower.proofs.symbols.symbol.Goals as goal

pub made-requires-clause-suits : goal.made-requires-clause-suits
made-requires-clause-suits c = (refl, c.in_ok-ty.ensures.valid)

pub returns-clause-made : goal.returns-clause-made
returns-clause-made c = subst (λ ty. IsMade c.args.terms.now c.made.new.terms c.in_ok-symbol.symbol (Symbol c.args.number ty) []) c.in_ok-ty.ensures.low c.in_ok-symbol.ensures.made
