use Rattle.std.proofs.Common.{subst}
use Rattle.uc_syntax.specs.Numbering.{AreDistinct}
use Rattle.uc_syntax.proofs.Numbering.{distinct_by_keys}
use Rattle.uc_syntax.proofs.names.Names.len.Goals as goal

pub returns-clause-distinct : goal.returns-clause-distinct
returns-clause-distinct c = subst AreDistinct c.self.view_is (distinct_by_keys (λ k. k.items) _ c.len.ensures.unique)
