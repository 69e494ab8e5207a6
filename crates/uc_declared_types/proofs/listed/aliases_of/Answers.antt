use Rattle.uc_declared_types.proofs.Listing.{modules_begin, modules_end, modules_more}
use Rattle.uc_declared_types.proofs.listed.aliases_of.Goals as goal

pub loop-home-init : goal.loop-home-init
loop-home-init c = modules_begin c.args.homes.now _

pub loop-home-preserved : goal.loop-home-preserved
loop-home-preserved c = modules_more c.args.homes.now c.loop-home.home c.loop-home.listed c.add_aliases.new.listed c.loop-home.invariant c.in_ok-add_aliases.ensures.kept c.in_ok-add_aliases.ensures.there

pub returns : goal.returns
returns c = modules_end c.args.homes.now c.loop-home.home c.args.count c.loop-home.listed c.loop-home.invariant c.loop-home-test.false
