use Rattle.std.proofs.Common.{◌≡◌, drop}
use Rattle.uc_lookup.specs.Parts.{system_in}
use Rattle.uc_order_rules.specs.Roots.{led}
use Rattle.uc_order_rules.specs.Mentions.{dotted}
use Rattle.uc_sizes.proofs.way.led.Given as goal

abbrev pub invariant-loop-selection : goal.invariant-loop-selection
invariant-loop-selection l = led (system_in l.system) l.there l.last (dotted (drop l.selection-index l.selections)) ≡ led (system_in l.system) l.path l.name (dotted l.selections)
