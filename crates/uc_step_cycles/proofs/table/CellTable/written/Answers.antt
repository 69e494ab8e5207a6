use Rattle.std.proofs.Common.{ap, sym, ◌∙◌, arith}
use Rattle.uc_step_cycles.specs.Tables.{own_cell}
use Rattle.uc_step_cycles.proofs.CellTableTabled.{follow_begin, follow_end, follow_more, follow_stop}
use Rattle.uc_step_cycles.proofs.table.CellTable.written.Goals as goal

pub loop-turn-init : goal.loop-turn-init
loop-turn-init c = follow_begin _ _ _ _

pub loop-turn-preserved : goal.loop-turn-preserved
loop-turn-preserved c = follow_more _ _ _ _ _ _ _ c.loop-turn.invariant (sym c.outer.ensures ∙ c.in-Some.is)

pub returns-in-None : goal.returns-in-None
returns-in-None c = c.own.ensures ∙ ap (own_cell c.args.self.now) (follow_stop _ _ _ _ _ _ c.loop-turn.invariant c.loop-turn-test.true (sym c.outer.ensures ∙ c.in-None.is))

pub returns : goal.returns
returns c = c.own-2.ensures ∙ ap (own_cell c.args.self.now) (follow_end _ _ _ _ _ _ c.loop-turn.invariant (omega (arith, c.loop-turn-test.false, c.loop-turn.auto)))
