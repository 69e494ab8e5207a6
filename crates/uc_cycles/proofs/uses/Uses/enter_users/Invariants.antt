use Rattle.std.proofs.Common.{◌≡◌, take}
use Rattle.uc_cycles.specs.Uses.{AddsUsers}
use Rattle.uc_cycles.proofs.uses.Uses.enter_users.Given as goal

abbrev pub invariant-loop-name : goal.invariant-loop-name
invariant-loop-name l = record {
  calls : l.self.calls ≡ l.fn.self.calls;
  direct : l.self.direct ≡ l.fn.self.direct;
  users : AddsUsers l.fn.self.calls (take l.name-index l.applied) l.number l.fn.self.users l.self.users;
}
