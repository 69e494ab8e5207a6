use Rattle.std.proofs.Common.{arith, sym, ◌∙◌, ap}
use Rattle.uc_ops.specs.Typing.{type_at}
use Rattle.uc_solver.proofs.Nodes.{decides_no, decides_yes}
use Rattle.uc_solver.proofs.Lists.{same_maps, differ_at}
use Rattle.uc_solver.proofs.signature.same_scalars.Goals as goal

pub returns-then-not-one_scalar : goal.returns-then-not-one_scalar
returns-then-not-one_scalar c =
    decides_no (differ_at (type_at c.args.terms.now) c.args.left.now c.args.right.now c.loop-place.place _ _ _ _ (omega arith) c.index-left-place.is c.index-right-place.is c.ty.ensures.ty c.ty-in-loop-place.ensures.ty c.if-not-one_scalar.ensures)

pub returns : goal.returns
returns c =
    decides_yes (same_maps (type_at c.args.terms.now) c.args.left.now c.args.right.now (omega arith) (λ k d l. c.loop-place.invariant k d (omega (arith, l, c.loop-place-test.false))))
