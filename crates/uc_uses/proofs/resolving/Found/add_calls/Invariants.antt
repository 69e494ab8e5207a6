use Rattle.std.proofs.Common.{◌≡◌, ◌++◌, take}
use Rattle.uc_uses.specs.Resolving.{call_numbers}
use Rattle.uc_uses.proofs.resolving.Found.add_calls.Given as goal

abbrev pub invariant-loop-name : goal.invariant-loop-name
invariant-loop-name l = record {
  uses : l.self.uses ≡ l.fn.self.uses ++ call_numbers l.table l.node (take l.name-index l.names);
  names : l.self.names ≡ l.fn.self.names;
}
