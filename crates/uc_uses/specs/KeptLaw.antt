-- What a design has that keeps the static rules.
use Rattle.std.specs.Prelude.{ℕ, List}
use Rattle.uc_syntax.specs.Contents.{Contents}
use Rattle.uc_rules.specs.Declarations.{KeepsRules, system_with}
use Rattle.uc_uses.specs.BoundLaw.{InstancesEnd}

-- Modules and instances are found by their names, and no module has itself as an instance.
abbrev pub RulesKeepInstances : Type 0
RulesKeepInstances = (design : Contents) (main : List ℕ) → KeepsRules design main → InstancesEnd (system_with design main)
