-- How far ways through aliases and through instances are followed.
use Rattle.std.specs.Prelude.{◌≡◌, ℕ, Bool, true, length}
use Rattle.uc_meaning.specs.Lookup.{System}
use Rattle.uc_rules.specs.Cycles.{TypeName, alias_steps, instance_steps, leads_to}
use Rattle.uc_rules.specs.Types.{longest_alias}

-- Some way leads to what passes a test only where one does of no more steps than the design has declarations.
abbrev pub AliasWaysAreFollowed : Type 0
AliasWaysAreFollowed = (system : System) (test : TypeName → Bool) (n : ℕ) (p : TypeName) → leads_to n (alias_steps system) test p ≡ true → leads_to (longest_alias system) (alias_steps system) test p ≡ true

-- The same of instances, with the modules of the design.
abbrev pub InstanceWaysAreFollowed : Type 0
InstanceWaysAreFollowed = (system : System) (test : ℕ → Bool) (n x : ℕ) → leads_to n (instance_steps system) test x ≡ true → leads_to (length system.modules) (instance_steps system) test x ≡ true
