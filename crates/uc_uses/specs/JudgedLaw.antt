-- The instances below a root that is judged.
use Rattle.std.specs.Prelude.{◌≡◌, ℕ, true, slice_get, Some}
use Rattle.uc_syntax.specs.declared.declaration.Module.{Module}
use Rattle.uc_meaning.specs.Lookup.{System}
use Rattle.uc_meaning.specs.Cells.{instances}
use Rattle.uc_order_rules.specs.Roots.{rooted, instances_in}
use Rattle.uc_order_rules.specs.Order.{is_judged}
use Rattle.uc_uses.specs.BoundLaw.{InstancesEnd}

-- Where a root is judged, all instances below it are followed through as many modules as a chain may have.
abbrev pub JudgedInstancesAreAll : Type 0
JudgedInstancesAreAll = (s : System) (k : ℕ) (m : Module) → InstancesEnd s → slice_get s.modules k ≡ Some m → is_judged (rooted s k, m) ≡ true → instances_in (rooted s k) ≡ instances (rooted s k)
