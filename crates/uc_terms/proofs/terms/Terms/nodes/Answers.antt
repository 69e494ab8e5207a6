use Rattle.uc_terms.proofs.Sharing.{no_two_equal}
use Rattle.uc_terms.proofs.terms.Terms.nodes.Goals as goal

pub returns-clause-shared : goal.returns-clause-shared
returns-clause-shared c = rw (← c.self.view_is) (no_two_equal c.self.inside.nodes.keys c.as_slice.ensures.unique)

pub returns-clause-well : goal.returns-clause-well
returns-clause-well c = rw (← c.self.view_is) c.self.invariant.well
