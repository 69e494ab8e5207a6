use Rattle.std.proofs.Common.{◌≤◌, arith, refl}
use Rattle.uc_declared_types.proofs.Turns.{pass_begin, pass_more, pass_settled_all, pass_stuck_all}
use Rattle.uc_declared_types.proofs.passes.read_aliases.Goals as goal

pub loop-declared-init : goal.loop-declared-init
loop-declared-init c = pass_begin c.args.homes.now c.args.pending.now c.args.aliases.now _ c.new-rest.ensures

pub loop-declared-preserved : goal.loop-declared-preserved
loop-declared-preserved c =
    pass_more c.args.homes.now c.args.pending.now c.args.aliases.now c.loop-declared.declared-index c.loop-declared.aliases c.read_alias.new.aliases _ _ c.loop-declared.rest c.read_alias.new.rest
    c.loop-declared.invariant c.loop-declared-test.true refl c.in_ok-read_alias.ensures.below c.in_ok-read_alias.ensures.kept c.in_ok-read_alias.ensures.taken
