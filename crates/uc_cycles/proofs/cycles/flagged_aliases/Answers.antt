use Rattle.std.proofs.Common.{◌≡◌, map, refl, subst, sym}
use Rattle.std.specs.Prelude.{IfOk}
use Rattle.uc_graph.specs.Cycles.{MarksCycles}
use Rattle.uc_rules.specs.Cycles.{alias_steps, on_alias_cycle}
use Rattle.uc_cycles.specs.Numbers.{flag_at, key_name, key_of, type_number, type_places}
use Rattle.uc_cycles.proofs.Flagged.{aliases_flagged}
use Rattle.uc_cycles.proofs.cycles.flagged_aliases.Goals as goal

pub returns : goal.returns
returns c =
    let made = c.in_ok-aliases in
    let held = c.in_ok-aliases-2 in
    let graph = map (λ k. type_places made.aliases (alias_steps c.args.homes.now (key_name k))) made.aliases.keys in
    λ enough p. subst (λ t. flag_at held.flags (type_number t (key_of p)) ≡ on_alias_cycle c.args.homes.now p) (sym held.ensures.0)
    (aliases_flagged c.args.homes.now made.aliases graph graph held.flags c.args.count enough made.ensures refl refl (subst (λ r. IfOk r (MarksCycles graph)) held.ensures.1 c.alias_flags-flags.ensures) p)
