use Rattle.std.proofs.Common.{◌≡◌, ◌≤◌, take, count_by}
use Rattle.uc_meaning.specs.Fragment.{is_control}
use Rattle.uc_runnable.proofs.blocks.count_control.Given as goal

abbrev pub invariant-loop-decl : goal.invariant-loop-decl
invariant-loop-decl l = (l.count ≡ count_by is_control (take l.decl-index l.decls)) × (l.count ≤ l.decl-index)
