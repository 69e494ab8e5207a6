use Rattle.std.proofs.Common.{◌∙◌, sym, ap, subst, arith, length}
use Rattle.uc_circuit.specs.declared.signal.Signal.{Signal}
use Rattle.uc_circuit.specs.Signals.{AllBelow}
use Rattle.uc_circuit.proofs.Growing.{all_below-more}
use Rattle.uc_solver_rows.proofs.gates.folded.Goals as goal

pub signals-requires-clause-x : goal.signals-requires-clause-x
signals-requires-clause-x c = subst (AllBelow _) (sym c.as_slice.ensures.value) (all_below-more 0 _ (omega arith) _ c.in_ok-x.ensures.below)

pub signals-requires-clause-y : goal.signals-requires-clause-y
signals-requires-clause-y c = subst (AllBelow _) (sym c.as_slice-2.ensures.value) (all_below-more 0 _ (omega arith) _ c.in_ok-y.ensures.below)

pub signals-requires-clause-long : goal.signals-requires-clause-long
signals-requires-clause-long c =
    ap (length {A = Signal}) c.as_slice-2.ensures.value ∙ c.in_ok-y.ensures.long ∙ sym (ap (length {A = Signal}) c.as_slice.ensures.value ∙ c.in_ok-x.ensures.long)

pub signals-requires-clause-some : goal.signals-requires-clause-some
signals-requires-clause-some c = omega (arith, ap (length {A = Signal}) c.as_slice.ensures.value, c.in_ok-x.ensures.long)

pub signals-requires-clause-narrow : goal.signals-requires-clause-narrow
signals-requires-clause-narrow c = omega (arith, ap (length {A = Signal}) c.as_slice.ensures.value, c.in_ok-x.ensures.long)
