-- How far ways of uses are followed.
use Rattle.std.specs.Prelude.{◌≡◌, ℕ, Bool, true, false, length, slice_get, Some}
use Rattle.uc_syntax.specs.declared.declaration.Module.{Module}
use Rattle.uc_meaning.specs.Lookup.{System, InstanceParts, instance_of, instances_of, module_named}
use Rattle.uc_declared_types.specs.AliasLaw.{IsAmong}
use Rattle.uc_rules.specs.Cycles.{leads_to, on_instance_cycle}
use Rattle.uc_order_rules.specs.Roots.{rooted, is_bound_input}
use Rattle.uc_order_rules.specs.Uses.{Used, UsedDefine, UsedProcedure, UsedInput, uses_of, same_use, all_uses}
use Rattle.uc_uses.specs.Ways.{Leads}

-- no two instances of a module have one name
abbrev pub InstancesStand : System → Type 0
InstancesStand system = (m : Module) (i : InstanceParts) → IsAmong m system.modules → IsAmong i (instances_of m) → instance_of m i.name ≡ Some i

-- Modules and instances are found by their names, and no module has itself as an instance.
pub record InstancesEnd (system : System) : Type 0 where
  pub stand : InstancesStand system
  pub alone : (k : ℕ) (m : Module) → slice_get system.modules k ≡ Some m → module_named system m.name ≡ Some m
  pub ends : (x : ℕ) → on_instance_cycle system x ≡ false

-- a define, a procedure or a bound input
abbrev pub is_counted : System → Used → Bool
is_counted system (UsedDefine n) = true
is_counted system (UsedProcedure n) = true
is_counted system (UsedInput n) = is_bound_input system n

-- Where some way of uses leads, one leads of no more steps than there are defines, procedures and bound inputs.
abbrev pub UsesAreFollowed : Type 0
UsesAreFollowed =
    (system : System) → InstancesEnd system → (k : ℕ) (u v : Used) → is_counted (rooted system k) u ≡ true → Leads (rooted system k) u v → leads_to (length (all_uses (rooted system k))) (uses_of (rooted system k)) (same_use v) u ≡ true
