use Rattle.std.proofs.Common.{◌≡◌, subst, Some}
use Rattle.uc_solver.specs.Signatures.{number_at}
use Rattle.uc_solver.proofs.Nodes.{decides_no}
use Rattle.uc_solver.proofs.Joined.{symbols_differ, applied_at}
use Rattle.uc_solver.proofs.signature.have_one_signature.Goals as goal

pub same_application-requires-clause-function : goal.same_application-requires-clause-function
same_application-requires-clause-function c =
    applied_at c.args.terms.now c.args.a c.args.number (subst (λ k. number_at k c.args.terms.now c.args.a ≡ Some c.args.number) c.in-Functions.is c.requires.named)

pub returns-in-Symbols : goal.returns-in-Symbols
returns-in-Symbols c =
    decides_no (symbols_differ c.args.terms.now c.args.a c.args.b c.args.number c.nodes-shared.ensures.well c.nodes-shared.ensures.shared c.requires.first
    (subst (λ k. number_at k c.args.terms.now c.args.a ≡ Some c.args.number) c.in-Symbols.is c.requires.named)
    (subst (λ k. number_at k c.args.terms.now c.args.b ≡ Some c.args.number) c.in-Symbols.is c.requires.same))
