use Rattle.std.proofs.Common.{refl, ◌∙◌}
use Rattle.uc_cycles.proofs.DefineReadsEntering.{users_end, users_more, users_none}
use Rattle.uc_cycles.proofs.uses.Uses.enter_users.Goals as goal

pub loop-name-init : goal.loop-name-init
loop-name-init c = record { calls = refl; direct = refl; users = users_none c.args.self.now.calls c.args.number c.args.self.now.users }

pub loop-name-preserved : goal.loop-name-preserved
loop-name-preserved c = record {
  calls = c.in_ok-enter_user.ensures.kept.0 ∙ c.loop-name.invariant.calls;
  direct = c.in_ok-enter_user.ensures.kept.1 ∙ c.loop-name.invariant.direct;
  users = users_more c.args.self.now.calls c.loop-name.self.calls c.args.applied.now c.loop-name.name-index _ c.args.number c.args.self.now.users c.loop-name.self.users c.enter_user.new.self.users c.loop-name.invariant.calls c.loop-name-test.true
      c.loop-name.invariant.users c.in_ok-enter_user.ensures.users;
}

pub returns-clause-users : goal.returns-clause-users
returns-clause-users c = users_end c.args.self.now.calls c.args.applied.now c.loop-name.name-index c.args.number c.args.self.now.users c.loop-name.self.users c.loop-name-test.false c.loop-name.invariant.users
