use Rattle.std.proofs.Common.{◌≡◌, sym, ap, ◌∙◌, subst, slice_get}
use Rattle.uc_ops.specs.Meaning.{fitting}
use Rattle.uc_terms.specs.Tables.{HasOp}
use Rattle.uc_solver.proofs.Reading.{symbol_reads}
use Rattle.uc_solver.proofs.mapped.symbol_value.Goals as goal

pub returns : goal.returns
returns c =
    c.in_ok-value-in-Symbol.ensures ∙ ap (fitting c.in-Symbol.ty) (c.at-found.ensures ∙ ap (λ xs. slice_get xs c.in-Symbol.number) c.as_slice.ensures)
    ∙ sym (symbol_reads c.args.model.now c.args.terms.now c.args.t c.in-Symbol.number c.in-Symbol.ty c.op.ensures.well c.requires.there (subst (λ op. HasOp c.args.terms.now c.args.t op) c.in-Symbol.is c.op.ensures.op))
