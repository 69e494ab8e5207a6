-- What one target asks, what a call asks of the parts that it leaves, and what is met there.
use Rattle.std.specs.Prelude.{ℕ, true, false, List, ◌++◌}
use Rattle.std.specs.List.{flat_map}
use Rattle.uc_syntax.specs.declared.statement.Target.{Target}
use Rattle.uc_values.specs.declared.value.Value.{Value}
use Rattle.uc_meaning.specs.declared.scope.Scope.{Scope}
use Rattle.uc_meaning.specs.declared.overflow.Wide.{Wide}
use Rattle.uc_meaning.specs.Lookup.{System}
use Rattle.uc_meaning.specs.Overflow.{met, name_met}
use Rattle.uc_meaning.specs.Steps.{CellPart, Constraint, kept_if, is_assigned, writes, target_parts, name_parts}
use Rattle.uc_meaning.specs.OverflowsRuns.{target_met}

-- a target has its value in the new state, and is written
abbrev pub check_target : System → Target → Value → Constraint
check_target system t v w = kept_if (is_assigned system w.scope t v) (writes (target_parts system w.scope t) w)

-- the new part, and then what a write of the target would meet
abbrev pub one_assigned_met : System → Scope → Target → List Wide
one_assigned_met system s t = name_met system (met system) s t.name true ++ target_met system s t.name t.parts

-- a part in the new state, and behind a call
abbrev pub one_left_met : System → Scope → Scope → ℕ → List Wide
one_left_met system s after_call x = name_met system (met system) s x true ++ name_met system (met system) after_call x false

-- the parts that a call writes: its targets, and the names that its procedure modifies
abbrev pub call_parts : System → Scope → List Target → List ℕ → List CellPart
call_parts system s targets names = flat_map (target_parts system s) targets ++ flat_map (name_parts system s) names
