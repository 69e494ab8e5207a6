use Rattle.std.proofs.Common.{◌≡◌, true, false, ap, ◌∙◌, rules}
use Rattle.std.specs.Option.{is_some}
use Rattle.uc_lookup.specs.Parts.{system_in}
use Rattle.uc_order_rules.specs.Roots.{instance_named_at, led}
use Rattle.uc_order_rules.specs.Mentions.{dotted}
use Rattle.uc_sizes.proofs.Ways.{led_end, led_field, led_more, led_other}
use Rattle.uc_sizes.proofs.way.led.Goals as goal

pub loop-selection-init : goal.loop-selection-init
loop-selection-init c = ap (λ p. led (system_in c.args.system.now) p c.args.name (dotted c.args.selections.now)) c.in_ok-there.ensures

pub loop-selection-preserved : goal.loop-selection-preserved
loop-selection-preserved c =
    let hit : c.is_instance.result ≡ true = search rules in
    led_more _ _ _ _ _ c.selection-item.result _ c.field_of.result _ c.loop-selection.invariant c.loop-selection-test.true c.selection-item.is c.field_of.ensures _ c.is_instance.result _ c.in-Some.is
    (c.is_instance.ensures ∙ ap (λ p. is_some (instance_named_at (system_in c.args.system.now) p c.loop-selection.last)) c.as_slice.ensures) hit c.in_ok-push-in-Some.ensures.ok

pub returns-then-not-is_instance : goal.returns-then-not-is_instance
returns-then-not-is_instance c =
    let away : c.is_instance.result ≡ false = search rules in
    c.name_at.ensures
    ∙ led_field _ _ _ _ _ c.selection-item.result _ c.field_of.result _ c.loop-selection.invariant c.loop-selection-test.true c.selection-item.is c.field_of.ensures _ c.is_instance.result c.in-Some.is
    (c.is_instance.ensures ∙ ap (λ p. is_some (instance_named_at (system_in c.args.system.now) p c.loop-selection.last)) c.as_slice.ensures) away

pub returns-in-None : goal.returns-in-None
returns-in-None c =
    c.name_at-in-None.ensures ∙ led_other _ _ _ _ _ c.selection-item.result _ c.field_of.result _ c.loop-selection.invariant c.loop-selection-test.true c.selection-item.is c.field_of.ensures c.in-None.is

pub returns : goal.returns
returns c = c.name_at-2.ensures ∙ led_end _ _ _ _ _ _ c.loop-selection.invariant c.loop-selection-test.false
