use Rattle.std.proofs.Common.{List, take}
use Rattle.uc_syntax.specs.declared.declaration.Module.{Module}
use Rattle.uc_names.specs.Senses.{entries_meant}
use Rattle.uc_names.specs.Tables.{Holds}
use Rattle.uc_names.proofs.table.NameTable.of.Given as goal

abbrev pub invariant-loop-entry : goal.invariant-loop-entry
invariant-loop-entry l = (ms : List Module) → Holds ms l.table (entries_meant ms (take l.entry-index l.entries))
