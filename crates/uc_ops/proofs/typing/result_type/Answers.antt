use Rattle.std.proofs.Common.{arith, ap, []}
use Rattle.uc_values.specs.declared.ty.Ty.TheVariants.{Bv}
use Rattle.uc_ops.specs.Typing.{types_at}
use Rattle.uc_ops.proofs.Typed.{Bv-small, first_valid}
use Rattle.uc_ops.proofs.typing.result_type.Goals as goal

pub returns-in-Extract : goal.returns-in-Extract
returns-in-Extract c =
    let s = rw c.in-Extract.is at c.requires.suits in
    let small = Bv-small s.0 (first_valid (Bv s.0) [] (types_at c.args.nodes.now c.args.parts.now) s.1 c.requires.valid) in
    rw c.in-Extract.is (ap Bv (omega (arith, s.2, s.3, small)))
