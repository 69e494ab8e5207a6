use Rattle.uc_module_writes.specs.Stepped.{summary_by}
use Rattle.uc_module_writes.proofs.Entered.{TablesFrom}
use Rattle.uc_module_writes.proofs.tables.enter_all.Given as goal

abbrev pub invariant-loop-declaration : goal.invariant-loop-declaration
invariant-loop-declaration l = TablesFrom l.names (summary_by l.places l.summaries) l.declarations l.fn.effects l.fn.table l.declaration-index l.effects l.table
