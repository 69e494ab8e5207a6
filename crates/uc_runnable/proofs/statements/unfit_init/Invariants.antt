use Rattle.std.proofs.Common.{◌≡◌, drop}
use Rattle.uc_flat_code.specs.CellTypes.{cell_type_of}
use Rattle.uc_runnable.specs.Unfit.{unfit_init}
use Rattle.uc_runnable.proofs.statements.unfit_init.Given as goal

abbrev pub invariant-loop-statement : goal.invariant-loop-statement
invariant-loop-statement l = unfit_init (cell_type_of l.tables l.code) l.standing l.number (drop l.statement-index l.block) ≡ unfit_init (cell_type_of l.tables l.code) l.names l.count l.block
