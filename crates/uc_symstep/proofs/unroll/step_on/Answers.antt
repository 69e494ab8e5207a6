use Rattle.std.proofs.Common.{sym, subst, ◌≤◌, length}
use Rattle.uc_symstep.proofs.Steps.{steps_as, long_enough}
use Rattle.uc_symstep.proofs.Known.{stepped_known}
use Rattle.uc_symstep.proofs.Grown.{grows_on}
use Rattle.uc_symstep.proofs.unroll.step_on.Goals as goal

pub returns-clause-ok : goal.returns-clause-ok
returns-clause-ok c = steps_as _ _ _ _ _ _ _ _ _ _ _ _ _ c.requires.types c.as_slice.ensures c.in_ok-first.ensures.ok c.in_ok-last.ensures.ok c.as_slice-2.ensures c.in_ok-cells.ensures

pub second_half-requires : goal.second_half-requires
second_half-requires c = subst (λ xs. length c.args.types.now ≤ length xs) (sym c.as_slice-2.ensures) (long_enough _ _ _ _ c.in_ok-last.ensures.ok.state.cells c.requires.types)

pub returns-clause-known : goal.returns-clause-known
returns-clause-known c = stepped_known _ _ _ _ _ _ _ _ _ _ _ _ c.in_ok-first.first c.in_ok-last.last c.in_ok-first.ensures.known c.in_ok-last.ensures.known c.as_slice.ensures c.as_slice-2.ensures c.in_ok-cells.ensures

pub returns-in_err-last-clause-grown : goal.returns-in_err-last-clause-grown
returns-in_err-last-clause-grown c = grows_on _ _ _ c.in_ok-first.ensures.grown c.in_err-last.ensures.grown

pub returns-in_err-cells-clause-grown : goal.returns-in_err-cells-clause-grown
returns-in_err-cells-clause-grown c = grows_on _ _ _ c.in_ok-first.ensures.grown c.in_ok-last.ensures.grown

pub returns-clause-grown : goal.returns-clause-grown
returns-clause-grown c = grows_on _ _ _ c.in_ok-first.ensures.grown c.in_ok-last.ensures.grown
