use Rattle.uc_module_writes.proofs.BoundNames.{all_bind, none_bind}
use Rattle.uc_module_writes.proofs.bound.paired_names.Goals as goal

pub returns-then-not-merges : goal.returns-then-not-merges
returns-then-not-merges c = none_bind _ c.args.modules.now c.new-none.ensures (c.in_ok-merges.ensures c.if-not-merges.true)

pub returns : goal.returns
returns c = all_bind _ c.args.modules.now c.in_ok-names.ensures
