use Rattle.std.proofs.Common.{sym, ◌∙◌, get_or, length, ◌<◌}
use Rattle.uc_circuit.proofs.Scan.{scan_false, scan_first, scan_same, no_literal, read_false, read_unset, same_literals}
use Rattle.uc_circuit.proofs.clause_state.state_of.Goals as goal
use Rattle.uc_circuit.proofs.clause_state.state_of.Goals.{in-Some+else-value-literal, in-None+in-None-unvalued, in-None+in-Some-unvalued+else-ne}

pub loop-literal-preserved : goal.loop-literal-preserved
loop-literal-preserved c =
    let inside : (get_or c.args.clause.now c.loop-literal.literal-index no_literal).var < length c.args.values.now = c.requires c.loop-literal.literal-index no_literal c.loop-literal-test.true in
    elim c.match-values-literal.branch [
      | in-Some+else-value-literal w ↦ scan_false _ _ _ no_literal _ _ c.loop-literal-test.true c.loop-literal.invariant w.unvalued-is (read_false _ _ _ _ inside w.in-Some.is w.if-value-literal.false)
      | in-None+in-None-unvalued w ↦ scan_first _ _ _ no_literal _ _ c.loop-literal-test.true c.loop-literal.invariant w.in-None-unvalued.is w.unvalued-is (read_unset _ (get_or c.args.clause.now c.loop-literal.literal-index no_literal) _ inside w.in-None.is)
      | in-None+in-Some-unvalued+else-ne w ↦ scan_same _ _ _ no_literal _ _ _ c.loop-literal-test.true c.loop-literal.invariant w.in-Some-unvalued.is (w.unvalued-is ∙ sym w.in-Some-unvalued.is) (same_literals _ _ _ w.ne.ensures w.if-ne.false)
    ]
