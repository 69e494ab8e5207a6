use Rattle.std.proofs.Common.{◌≡◌, drop}
use Rattle.uc_uses.specs.Trees.{led_node}
use Rattle.uc_uses.proofs.tree.InstanceTree.led.Given as goal

abbrev pub invariant-loop-next : goal.invariant-loop-next
invariant-loop-next l = led_node l.self l.at.node l.at.name (drop l.next-index l.behind) ≡ led_node l.self l.node l.name l.behind
