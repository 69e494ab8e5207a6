use Rattle.std.proofs.Common.{rules, ◌∙◌}
use Rattle.uc_flat_code.proofs.Orders.{declare_step, declare_end}
use Rattle.uc_flat_code.proofs.locals.declare.Goals as goal

pub loop-identifier-preserved : goal.loop-identifier-preserved
loop-identifier-preserved c = record {
  made = declare_step _ _ c.loop-identifier.identifier-index c.loop-identifier.cell c.in_ok-cell.cell _ c.loop-identifier.names c.stand.new.names c.loop-identifier.made c.in_ok-made.made _ c.loop-identifier-test.true c.loop-identifier.invariant.made
      c.in_ok-stand.ensures.set c.in_ok-made.ensures c.in_ok-cell.ensures;
  undone = c.in_ok-stand.ensures.undone ∙ c.loop-identifier.invariant.undone;
}

pub returns-clause-made : goal.returns-clause-made
returns-clause-made c = declare_end _ _ c.loop-identifier.identifier-index c.loop-identifier.cell c.loop-identifier.names c.loop-identifier.made _ (search rules) c.loop-identifier.invariant.made
