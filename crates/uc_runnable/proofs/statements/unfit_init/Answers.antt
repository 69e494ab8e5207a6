use Rattle.uc_flat_code.specs.CellTypes.{cell_type_of}
use Rattle.uc_runnable.specs.Unfit.{unfit_init}
use Rattle.uc_runnable.proofs.Beginnings.{init_turn, init_found, init_end}
use Rattle.uc_runnable.proofs.statements.unfit_init.Goals as goal

pub loop-statement-preserved : goal.loop-statement-preserved
loop-statement-preserved c =
    init_turn (cell_type_of c.args.tables.now c.args.code.now) c.args.block.now (unfit_init (cell_type_of c.args.tables.now c.args.code.now) c.args.names.now c.args.count c.args.block.now) c.loop-statement.standing c.number_behind.new.names
    c.loop-statement.number c.in-Some.next c.loop-statement.statement-index c.statement-item.result c.in_ok-next.field-0 c.loop-statement-test.true c.statement-item.is c.in-Some.is c.in_ok-next.ensures c.loop-statement.invariant

pub returns-in-None : goal.returns-in-None
returns-in-None c =
    init_found (cell_type_of c.args.tables.now c.args.code.now) c.args.block.now (unfit_init (cell_type_of c.args.tables.now c.args.code.now) c.args.names.now c.args.count c.args.block.now) c.loop-statement.standing c.number_behind.new.names
    c.loop-statement.number c.loop-statement.statement-index c.statement-item.result c.in_ok-next.field-0 c.begins_at.result c.loop-statement-test.true c.statement-item.is c.in-None.is c.in_ok-next.ensures c.loop-statement.invariant c.begins_at.ensures

pub returns : goal.returns
returns c =
    init_end (cell_type_of c.args.tables.now c.args.code.now) c.args.block.now (unfit_init (cell_type_of c.args.tables.now c.args.code.now) c.args.names.now c.args.count c.args.block.now) c.loop-statement.standing
    c.loop-statement.number c.loop-statement.statement-index c.loop-statement-test.false c.loop-statement.invariant
