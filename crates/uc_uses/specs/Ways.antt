-- Ways of uses.
use Rattle.std.specs.Prelude.{◌≡◌, ℕ, true}
use Rattle.uc_meaning.specs.Lookup.{System}
use Rattle.uc_rules.specs.Cycles.{leads_to}
use Rattle.uc_order_rules.specs.Uses.{Used, uses_of, same_use}

-- some way of uses and calls leads from one use to another one
abbrev pub Leads : System → Used → Used → Type 0
Leads system u v = (n : ℕ) × (leads_to n (uses_of system) (same_use v) u ≡ true)
