use Rattle.uc_terms.proofs.terms.Terms.node.Goals as goal

pub returns-clause-well : goal.returns-clause-well
returns-clause-well c = rw (← c.self.view_is) c.self.invariant.well
