use Rattle.std.proofs.Common.{◌≡◌, drop}
use Rattle.uc_meaning.specs.Lookup.{first_some}
use Rattle.uc_runnable.specs.Outside.{outside_declaration}
use Rattle.uc_runnable.proofs.outside_declarations.outside_module.Given as goal

abbrev pub invariant-loop-declaration : goal.invariant-loop-declaration
invariant-loop-declaration l = first_some outside_declaration (drop l.declaration-index l.declaration-items) ≡ first_some outside_declaration l.declaration-items
