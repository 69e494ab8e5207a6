use Rattle.std.proofs.Common.{◌≡◌, ◌≤◌, ℕ, Bool, List, ap, length, subst, sym, ◌∙◌, arith}
use Rattle.std.specs.Prelude.{IfOk}
use Rattle.uc_meaning.specs.Lookup.{System}
use Rattle.uc_rules.specs.Cycles.{on_alias_cycle, on_instance_cycle}
use Rattle.uc_cycles.specs.Numbers.{flag_at, key_of, name_number, type_number}
use Rattle.uc_cycles.proofs.cycles.cycles_of.Goals as goal

pub returns : goal.returns
returns c =
    let same : length c.system.result.modules.now ≡ length c.args.homes.now.modules = ap (λ (s : System). length s.modules) (c.system.ensures ∙ c.design.ensures) in
    let enough : length c.args.homes.now.modules ≤ length c.system.result.modules.now = omega (arith, same) in
    let held = c.in_ok-aliases-2 in
    let modules = subst (λ r. IfOk r (λ q. length c.args.homes.now.modules ≤ length c.system.result.modules.now → (x : ℕ) → flag_at q.1 (name_number q.0 x) ≡ on_instance_cycle c.args.homes.now x)) held.ensures.1 c.flagged_modules-modules.ensures in
    record {
      aliases = λ p. subst (λ q. flag_at q.1 (type_number q.0 (key_of p)) ≡ on_alias_cycle c.args.homes.now p) (sym held.ensures.0) (c.in_ok-aliases.ensures enough p);
      modules = modules enough;
    }
