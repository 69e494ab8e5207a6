use Rattle.std.proofs.Common.{◌≡◌, take}
use Rattle.uc_uses.specs.Growing.{Adds}
use Rattle.uc_uses.proofs.growing.grow.Given as goal

abbrev pub invariant-loop-declaration : goal.invariant-loop-declaration
invariant-loop-declaration l = record {
  same : l.tree.instances ≡ l.fn.tree.instances;
  adds : Adds l.modules l.node l.fn.tree.nodes (take l.declaration-index l.declarations) l.found l.tree.nodes;
}
