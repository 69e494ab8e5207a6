use Rattle.std.proofs.Common.{◌-◌, ◌++◌, map, ap, ◌∙◌}
use Rattle.std.specs.List.{flat_map}
use Rattle.uc_syntax.proofs.Added.{added_end}
use Rattle.uc_meaning.specs.Cells.{instances_from}
use Rattle.uc_lookup.specs.Parts.{system_in}
use Rattle.uc_layout.specs.Instances.{instance_meant}
use Rattle.uc_layout.proofs.Listed.{from_none, from_some, pushed, flat_of_map}
use Rattle.uc_layout.proofs.instance.+add_from.Goals as goal

pub returns-then-depth-eq0 : goal.returns-then-depth-eq0
returns-then-depth-eq0 t c = from_none c.args.depth (system_in c.args.design.now) (instance_meant c.args.here.now) _ c.if-depth-eq0.true

pub returns : goal.returns
returns t c =
    from_some c.args.depth (system_in c.args.design.now) (instance_meant c.args.here.now) _ _ _ c.if-depth-eq0.false
    (pushed instance_meant c.args.all.now c.push.new.self c.in_ok-copied.field-0 (instance_meant c.args.here.now) c.in_ok-push.ensures.ok c.in_ok-copied.ensures)
    (added_end _ _ _ _ _ c.loop-instance.invariant c.loop-instance-test.false
    ∙ ap (λ ys. map instance_meant c.push.new.self ++ ys)
    (ap (flat_map (λ i. instances_from (c.args.depth - 1) (system_in c.args.design.now) (instance_meant i))) c.as_slice-instance-items.ensures
    ∙ flat_of_map (instances_from (c.args.depth - 1) (system_in c.args.design.now)) instance_meant c.in_ok-inside.inside
    ∙ ap (flat_map (instances_from (c.args.depth - 1) (system_in c.args.design.now))) c.in_ok-inside.ensures))
