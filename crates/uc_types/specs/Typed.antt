-- Designs that keep the static rules, and what a refusal says.
use Rattle.std.specs.Prelude.{◌≡◌, ℕ, List, Option, Some, unwrap_or}
use Rattle.uc_syntax.specs.Contents.{Contents}
use Rattle.uc_rules.specs.declared.fault.Fault.{Fault as Broken}
use Rattle.uc_rules.specs.Declarations.{KeepsRules, main_number}
use Rattle.uc_types.specs.declared.error.TypeError.{TypeError}
use Rattle.uc_types.specs.declared.error.TypeError.TheVariants.{NoMemory, Fault}

-- A design with the place of main among its modules.
pub record Typed : Type 0 where
  pub contents : Contents
  pub main : ℕ

-- No rule is broken, where the module at that place is main by its name.
pub record KeepsTypes (t : Typed) : Type 0 where
  pub name : List ℕ
  pub is_main : main_number t.contents name ≡ Some t.main
  pub keeps : KeepsRules t.contents name

-- the place of main, and that of the first module where main isn't there
abbrev pub main_or_first : Option ℕ → ℕ
main_or_first found = unwrap_or found 0

-- a fault is right
abbrev pub IsTypeError : (Broken → Type 0) → TypeError → Type 0
IsTypeError IsRight (Fault f) = IsRight f
IsTypeError IsRight NoMemory = Unit {0}
