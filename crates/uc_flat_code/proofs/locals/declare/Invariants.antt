use Rattle.std.proofs.Common.{◌≡◌, drop}
use Rattle.uc_flat_code.specs.Init.{declared}
use Rattle.uc_flat_code.specs.FlatInitWalk.{undone}
use Rattle.uc_flat_code.proofs.Orders.{behind}
use Rattle.uc_flat_code.proofs.locals.declare.Given as goal

abbrev pub invariant-loop-identifier : goal.invariant-loop-identifier
invariant-loop-identifier l = record {
  made : declared l.ty l.identifiers l.initial.names l.first ≡ behind l.made (declared l.ty (drop l.identifier-index l.identifiers) l.names l.cell);
  undone : undone l.shadowed l.names ≡ undone l.initial.shadowed l.initial.names;
}
