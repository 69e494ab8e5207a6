use Rattle.std.proofs.Common.{sym, subst}
use Rattle.std.specs.Prelude.{IsTrue}
use Rattle.uc_values.specs.Types.{is_scalar}
use Rattle.uc_solver.proofs.Joined.{scalar_result, scalar_arguments}
use Rattle.uc_solver.proofs.signature.same_application.Goals as goal

pub one_scalar-requires : goal.one_scalar-requires
one_scalar-requires c = subst (λ ty. IsTrue (is_scalar ty)) (sym c.ty.ensures.ty) (scalar_result c.args.terms.now c.args.a c.nodes-well_typed.ensures.well c.requires.function)

pub same_scalars-requires-clause-scalars : goal.same_scalars-requires-clause-scalars
same_scalars-requires-clause-scalars c = scalar_arguments c.args.terms.now c.args.a c.parts.result.now c.parts.ensures.parts c.nodes-well_typed.ensures.well c.requires.function
