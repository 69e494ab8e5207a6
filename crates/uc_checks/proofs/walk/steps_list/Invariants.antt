use Rattle.std.specs.Option.{option_copied}
use Rattle.uc_checks.proofs.Walking.{WalkedTo}
use Rattle.uc_checks.proofs.walk.steps_list.Given as goal

abbrev pub invariant-loop-next : goal.invariant-loop-next
invariant-loop-next l = WalkedTo l.walk.layout.now l.walk.interp.now (option_copied l.walk.site) l.fn.state l.fn.listed l.rest l.old l.last l.next-index
