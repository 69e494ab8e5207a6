use Rattle.std.proofs.Common.{ap, sym, ◌∙◌, slice_get}
use Rattle.uc_terms.proofs.Grown.{type-node}
use Rattle.uc_terms.proofs.terms.Terms.ty.Goals as goal

pub returns-clause-ty : goal.returns-clause-ty
returns-clause-ty c =
    sym (type-node c.args.self.now c.args.t c.node.result.now (ap (slice_get c.args.self.now) (sym c.index.ensures) ∙ c.node.ensures.node))

pub returns-clause-valid : goal.returns-clause-valid
returns-clause-valid c = (c.node.ensures.well c.index.result c.node.result.now c.node.ensures.node).valid
