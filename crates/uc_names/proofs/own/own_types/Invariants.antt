use Rattle.std.proofs.Common.{take}
use Rattle.uc_names.proofs.OwnDeclared.{HasTypes}
use Rattle.uc_names.proofs.own.own_types.Given as goal

abbrev pub invariant-loop-declaration : goal.invariant-loop-declaration
invariant-loop-declaration l = HasTypes l.design.modules l.home l.table (take l.declaration l.declarations)
