use Rattle.uc_obligations.proofs.KnownTerms.{known_even}
use Rattle.uc_flat_lines.proofs.solving.decided.Goals as goal

pub asked-requires-clause-even : goal.asked-requires-clause-even
asked-requires-clause-even g c =
    known_even c.requires.known.0 c.args.terms.now c.args.goal c.requires.known.1 (c.in_ok-is_finite_term.ensures.0 c.if-not-branch.false).no_function
