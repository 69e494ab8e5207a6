-- The modules of the instances of a design.
use Rattle.std.specs.Prelude.{◌≡◌, ℕ, List, None}
use Rattle.uc_syntax.specs.Contents.{Contents}
use Rattle.uc_syntax.specs.declared.declaration.Module.{Module}
use Rattle.uc_meaning.specs.Lookup.{System, InstanceParts, instances_of, module_named}
use Rattle.uc_rules.specs.Declarations.{KeepsRules, system_with}
use Rattle.uc_declared_types.specs.AliasLaw.{IsAmong}

-- the module of each instance is there
abbrev pub HasModules : System → Type 0
HasModules system = (m : Module) (i : InstanceParts) → IsAmong m system.modules → IsAmong i (instances_of m) → module_named system i.module_name ≡ None → ⊥

abbrev pub RulesKeepModules : Type 0
RulesKeepModules = (design : Contents) (main : List ℕ) → KeepsRules design main → HasModules (system_with design main)
