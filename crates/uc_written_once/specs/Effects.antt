-- What effects say of names.
use Rattle.std.specs.Prelude.{◌≡◌, ℕ, nat_eq, List, Option, Some, None}
use Rattle.std.specs.Option.{option_copied}
use Rattle.indexmap.specs.IndexMap.{get}
use Rattle.uc_syntax.specs.declared.declaration.Procedure.{Procedure as ProcedureParts}
use Rattle.uc_order_rules.specs.Writes.{Stepping, met, modified_names, no_step, overlap, Part}
use Rattle.uc_written_once.specs.declared.effects.Effects.{Effects}
use Rattle.uc_written_once.specs.declared.effects.Stepped.{Stepped}

-- the procedure of a name
abbrev pub procedure_by : Effects → ℕ → Option ProcedureParts
procedure_by e f = option_copied (get nat_eq e.procedures.things f)

-- the names that it modifies
abbrev pub modified_by : Effects → ℕ → List ℕ
modified_by e f = modified_names (procedure_by e f)

abbrev pub stepping_of : Option Stepped → Stepping
stepping_of None = no_step
stepping_of (Some s) = record { parts = s.parts; meet = s.meet }

-- what was entered for the instance of a name
abbrev pub stepped_by : Effects → ℕ → Option Stepped
stepped_by e i = get nat_eq e.steps i

-- what it is to step it
abbrev pub step_by : Effects → ℕ → Stepping
step_by e i = stepping_of (stepped_by e i)

-- two lists of parts overlap the same parts
abbrev pub OverlapAlike : List Part → List Part → Type 0
OverlapAlike a b = (p : Part) → met overlap a p ≡ met overlap b p

-- two steps write parts that overlap the same, and meet both or not
pub record SameStep (a b : Stepping) : Type 0 where
  pub parts : OverlapAlike a.parts b.parts
  pub meet : a.meet ≡ b.meet

-- The effects are those of these procedures and these steps.
pub record AreEffects (e : Effects) (modified : ℕ → List ℕ) (steps : ℕ → Stepping) : Type 0 where
  pub procedures : (f : ℕ) → modified_by e f ≡ modified f
  pub instances : (i : ℕ) → SameStep (step_by e i) (steps i)
