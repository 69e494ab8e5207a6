use Rattle.std.proofs.Common.{ap, sym, ◌∙◌, slice_get}
use Rattle.uc_terms.proofs.Grown.{parts-node}
use Rattle.uc_terms.proofs.terms.Terms.parts.Goals as goal

pub returns-clause-parts : goal.returns-clause-parts
returns-clause-parts c =
    c.as_slice.ensures ∙ sym (parts-node c.args.self.now c.args.t c.node.result.now (ap (slice_get c.args.self.now) (sym c.index.ensures) ∙ c.node.ensures.node))

pub returns-clause-before : goal.returns-clause-before
returns-clause-before c =
    rw (c.as_slice.ensures, ← c.index.ensures) (c.node.ensures.well c.index.result c.node.result.now c.node.ensures.node).before
