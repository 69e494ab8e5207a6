use Rattle.std.proofs.Common.{Some, sym, ◌∙◌, ap}
use Rattle.uc_uses.proofs.InstanceTreeWalks.{led_below, led_end, led_here, led_lost}
use Rattle.uc_uses.proofs.tree.InstanceTree.led.Goals as goal

pub returns-in-None : goal.returns-in-None
returns-in-None c =
    sym (led_here c.args.self.now c.loop-next.at.node c.loop-next.at.name c.args.behind.now c.loop-next.next-index c.loop-next-test.true (sym c.instance.ensures ∙ c.in-None.is)) ∙ c.loop-next.invariant

pub returns-in-None-found : goal.returns-in-None-found
returns-in-None-found c =
    sym (led_lost c.args.self.now c.loop-next.at.node c.loop-next.at.name c.args.behind.now c.loop-next.next-index c.loop-next-test.true (sym c.instance.ensures ∙ c.in-Some.is ∙ ap (λ o. Some o) c.in-None-found.is)) ∙ c.loop-next.invariant

pub loop-next-preserved : goal.loop-next-preserved
loop-next-preserved c =
    sym (led_below c.args.self.now c.loop-next.at.node c.loop-next.at.name c.args.behind.now c.loop-next.next-index c.in-Some-found.below c.loop-next-test.true (sym c.instance.ensures ∙ c.in-Some.is ∙ ap (λ o. Some o) c.in-Some-found.is)) ∙ c.loop-next.invariant

pub returns : goal.returns
returns c = sym (led_end c.args.self.now c.loop-next.at.node c.loop-next.at.name c.args.behind.now c.loop-next.next-index c.loop-next-test.false) ∙ c.loop-next.invariant
