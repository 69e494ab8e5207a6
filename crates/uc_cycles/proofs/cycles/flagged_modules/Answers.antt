use Rattle.std.proofs.Common.{◌≡◌, map, refl, subst, sym}
use Rattle.std.specs.Prelude.{IfOk}
use Rattle.uc_graph.specs.Cycles.{MarksCycles}
use Rattle.uc_rules.specs.Cycles.{instance_steps, on_instance_cycle}
use Rattle.uc_cycles.specs.Numbers.{flag_at, name_number, name_places}
use Rattle.uc_cycles.proofs.Flagged.{modules_flagged}
use Rattle.uc_cycles.proofs.cycles.flagged_modules.Goals as goal

pub returns : goal.returns
returns c =
    let made = c.in_ok-modules in
    let held = c.in_ok-modules-2 in
    let graph = map (λ x. name_places made.modules (instance_steps c.args.homes.now x)) made.modules.keys in
    λ enough x. subst (λ t. flag_at held.flags (name_number t x) ≡ on_instance_cycle c.args.homes.now x) (sym held.ensures.0)
    (modules_flagged c.args.homes.now made.modules graph graph held.flags c.args.count enough made.ensures refl refl (subst (λ r. IfOk r (MarksCycles graph)) held.ensures.1 c.module_flags-flags.ensures) x)
