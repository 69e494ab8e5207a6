use Rattle.std.proofs.Common.{subst, sym}
use Rattle.std.specs.Prelude.{All}
use Rattle.uc_symstep.specs.Growing.{AreCells}
use Rattle.uc_symstep.specs.Known.{IsKnown}
use Rattle.uc_symstep.proofs.States.{widened_follows}
use Rattle.uc_symstep.proofs.Known.{widened_known}
use Rattle.uc_symstep.proofs.unroll.widened.Goals as goal

pub sym_parts-requires-clause-cells : goal.sym_parts-requires-clause-cells
sym_parts-requires-clause-cells c = subst (AreCells _ _) (sym c.as_slice.ensures) c.requires.state.cells

pub returns-clause-ok : goal.returns-clause-ok
returns-clause-ok c = widened_follows _ _ c.args.types.now c.args.further.now c.args.s _ _ _ c.requires.state c.as_slice.ensures c.in_ok-more.ensures.ok c.in_ok-append.ensures

pub returns-clause-known : goal.returns-clause-known
returns-clause-known c = λ supply reads h.
    widened_known supply _ _ c.args.s _ _ c.in_ok-more.ensures.grown c.in_ok-append.ensures
    (c.in_ok-more.ensures.known supply reads (subst (All (IsKnown supply _)) (sym c.as_slice.ensures) h.cells)) h
