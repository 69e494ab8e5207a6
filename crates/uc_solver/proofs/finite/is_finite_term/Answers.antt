use Rattle.std.proofs.Common.{sym, subst, [], ◌∷◌}
use Rattle.uc_terms.specs.Subterms.{AreSubterms}
use Rattle.uc_solver.proofs.Nodes.{finite_term}
use Rattle.uc_solver.proofs.finite.is_finite_term.Goals as goal

pub returns : goal.returns
returns c =
    finite_term c.args.terms.now c.args.t c.as_slice.result.now c.are_finite.result (subst (AreSubterms c.args.terms.now (c.args.t ∷ [])) (sym c.as_slice.ensures.value) c.in_ok-marks.ensures) c.are_finite.ensures
