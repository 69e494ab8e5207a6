use Rattle.uc_symstep.proofs.Steps.{wide_is, wide_state, wide_fine, own_there, starts_as, long_front}
use Rattle.uc_symstep.proofs.Known.{started_known}
use Rattle.uc_symstep.proofs.Grown.{grows_on}
use Rattle.uc_symstep.proofs.unroll.start.Goals as goal

pub types_of_terms-requires : goal.types_of_terms-requires
types_of_terms-requires c = own_there _ _ _ _ c.in_ok-first.ensures.ok.state.cells c.as_slice.ensures

pub sym_code-requires-clause-state : goal.sym_code-requires-clause-state
sym_code-requires-clause-state c = wide_state _ _ _ _ _ _ _ c.in_ok-first.ensures.ok.state c.as_slice.ensures c.in_ok-wide_types.ensures c.as_slice-2.ensures

pub sym_code-requires-clause-fine : goal.sym_code-requires-clause-fine
sym_code-requires-clause-fine c = wide_fine _ _ _ _ _ _ _ _ c.in_ok-first.ensures.ok.state c.as_slice.ensures c.in_ok-wide_types.ensures c.as_slice-2.ensures c.requires.fine

pub first_part-requires : goal.first_part-requires
first_part-requires c = long_front _ _ _ _ _ _ c.in_ok-last.ensures.ok.state.cells (wide_is _ _ _ _ _ _ _ c.in_ok-first.ensures.ok.state.cells c.as_slice.ensures c.in_ok-wide_types.ensures c.as_slice-2.ensures) c.as_slice-3.ensures

pub returns-clause-ok : goal.returns-clause-ok
returns-clause-ok c =
    starts_as _ _ _ _ _ _ _ _ _ _ _ _ (wide_is _ _ _ _ _ _ _ c.in_ok-first.ensures.ok.state.cells c.as_slice.ensures c.in_ok-wide_types.ensures c.as_slice-2.ensures) c.in_ok-first.ensures.ok c.in_ok-last.ensures.ok c.as_slice-3.ensures
    c.in_ok-cells.ensures

pub returns-clause-known : goal.returns-clause-known
returns-clause-known c = λ supply more reads l.
    let r =
    started_known _ _ _ _ _ _ _ _ c.in_ok-first.first c.in_ok-last.last _ _ c.in_ok-first.ensures.known c.in_ok-last.ensures.known
    (wide_is _ _ _ _ _ _ _ c.in_ok-first.ensures.ok.state.cells c.as_slice.ensures c.in_ok-wide_types.ensures c.as_slice-2.ensures) c.as_slice-3.ensures c.in_ok-cells.ensures supply more reads l in
    record { cells = r.cells; path = r.path; next = r.next }

pub returns-in_err-last-clause-grown : goal.returns-in_err-last-clause-grown
returns-in_err-last-clause-grown c = grows_on _ _ _ c.in_ok-first.ensures.grown c.in_err-last.ensures.grown

pub returns-in_err-cells-clause-grown : goal.returns-in_err-cells-clause-grown
returns-in_err-cells-clause-grown c = grows_on _ _ _ c.in_ok-first.ensures.grown c.in_ok-last.ensures.grown

pub returns-clause-grown : goal.returns-clause-grown
returns-clause-grown c = grows_on _ _ _ c.in_ok-first.ensures.grown c.in_ok-last.ensures.grown
