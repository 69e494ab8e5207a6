-- Parts that are written twice on one path through a next block, and variables that are named twice among the targets of one statement.
use Rattle.std.specs.Prelude.{ℕ, zero, suc, Bool, true, false, ◌||◌, ◌&&◌, not, nat_eq, if◌then◌else◌, List, [], ◌∷◌, ◌++◌, map, length, Option, Some, None}
use Rattle.std.specs.List.{flat_map, list_any, filter_map}
use Rattle.std.specs.Option.{is_some, option_and_then, option_map}
use Rattle.uc_lexer.specs.declared.place.Place.{Place}
use Rattle.uc_syntax.specs.declared.expression.Expr.TheViews.{out-Expr}
use Rattle.uc_syntax.specs.declared.statement.Target.{Target}
use Rattle.uc_syntax.specs.declared.statement.Stmt.{Stmt}
use Rattle.uc_syntax.specs.declared.statement.Stmt.TheOpen.{Stmt-F}
use Rattle.uc_syntax.specs.declared.statement.Stmt.TheOpen.Stmt-F.{Block, Havoc, Assign, If as Choice, Case as Cases, For, Call, Next}
use Rattle.uc_syntax.specs.declared.statement.Stmt.TheFolds.{fold-Stmt}
use Rattle.uc_syntax.specs.declared.declaration.Procedure.{Procedure as ProcedureParts}
use Rattle.uc_syntax.specs.declared.declaration.Decl.{Decl}
use Rattle.uc_syntax.specs.declared.declaration.Decl.TheVariants.{Init, Procedure}
use Rattle.uc_syntax.specs.declared.declaration.Module.{Module}
use Rattle.uc_meaning.specs.Lookup.{System, InstanceParts, module_at, module_named, instance_of, procedure_of, bound_to, next_of}
use Rattle.uc_meaning.specs.Code.{written_cell, turns, modifies_of, name_form}
use Rattle.uc_meaning.specs.Steps.{CellPart, fields_before, part_of_cell, is_prefix}
use Rattle.uc_rules.specs.declared.fault.Fault.{Fault}
use Rattle.uc_rules.specs.declared.rule.Rule.TheVariants.{TwiceAssigned}
use Rattle.uc_rules.specs.Faults.{breaks_where}
use Rattle.uc_order_rules.specs.Mentions.{all_of, otherwise_of}
use Rattle.uc_order_rules.specs.Paths.{Along, Stretch, nothing, in_turn, turned, arms}

-- The cells that a statement writes, by parts: up to the first index of a target; a bound output is the name that it is bound to.

abbrev pub target_part : System → List ℕ → Target → List CellPart
target_part system path t = part_of_cell (fields_before t.parts) (written_cell system path t.name)

abbrev pub name_part : System → List ℕ → ℕ → List CellPart
name_part system path x = part_of_cell [] (written_cell system path x)

abbrev pub modified_parts : System → List ℕ → Option ProcedureParts → List CellPart
modified_parts system path None = []
modified_parts system path (Some p) = flat_map (name_part system path) (modifies_of p)

-- a call writes its targets and what the procedure may modify
abbrev pub call_parts : System → List ℕ → List Target → ℕ → List CellPart
call_parts system path targets f =
    flat_map (target_part system path) targets ++ modified_parts system path (option_and_then (λ m. procedure_of m f) (module_at system path))

-- A part of what a module writes: the name of a variable or an output of the module, with the names of the fields down to the part; or the
-- name of an instance, for all cells inside it. Only stepping an instance writes cells inside it, and each step writes the same ones. A
-- module declares no name twice.
abbrev pub Part : Type 0
Part = List ℕ

-- one part lies in the other
abbrev pub overlap : Part → Part → Bool
overlap p q = is_prefix p q || is_prefix q p

-- a target, up to its first index
abbrev pub part_of_target : Target → Part
part_of_target t = t.name ∷ fields_before t.parts

abbrev pub part_of_name : ℕ → Part
part_of_name x = x ∷ []

abbrev pub modified_names : Option ProcedureParts → List ℕ
modified_names None = []
modified_names (Some p) = modifies_of p

abbrev pub modified_in : Module → ℕ → List ℕ
modified_in m f = modified_names (procedure_of m f)

-- Which of two parts meet, an earlier one and a later one.
abbrev pub Meets : Type 0
Meets = Part → Part → Bool

-- a part that meets an earlier one
abbrev pub met : Meets → List Part → Part → Bool
met meets before p = list_any (λ q. meets q p) before

-- parts that are written from left to right, one of which meets an earlier one
unfoldable pub clash : Meets → List Part → List Part → Bool
clash meets before [] = false
clash meets before (p ∷ ps) = met meets before p || clash meets (before ++ p ∷ []) ps

abbrev pub is_empty : {A : Type 0} → List A → Bool
is_empty [] = true
is_empty (x ∷ xs) = false

-- a statement that writes these parts
abbrev pub writes_at : Meets → Place → List Part → Stretch Part
writes_at meets place parts before = record { happens = parts; faults = breaks_where (clash meets before parts) TwiceAssigned place }

-- What it is to step an instance: the parts that are written, and whether some of them, written on one path inside, meet.
pub record Stepping : Type 0 where
  pub parts : List Part
  pub meet : Bool

abbrev pub no_step : Stepping
no_step = record { parts = []; meet = false }

-- a step is at fault where one of its parts meets an earlier one, or two of them meet on a path inside the instance
abbrev pub stepped_at : Meets → Place → Stepping → Stretch Part
stepped_at meets place s before = record { happens = s.parts; faults = breaks_where (list_any (met meets before) s.parts || s.meet) TwiceAssigned place }

-- a statement, by the names that procedures modify and by what it is to step instances
abbrev pub writes_form : (ℕ → List ℕ) → (ℕ → Stepping) → Meets → Stmt-F (Stretch Part) → Stretch Part
writes_form modified steps meets (Block place block) = in_turn block
writes_form modified steps meets (Havoc place i primed) = writes_at meets place (part_of_name i.name ∷ [])
writes_form modified steps meets (Assign place targets sources) = writes_at meets place (map part_of_target targets)
writes_form modified steps meets (Choice place as' otherwise) = arms as' otherwise
writes_form modified steps meets (Cases place as' otherwise) = arms as' otherwise
writes_form modified steps meets (For place x type from to block) = turned (length (turns from to)) block
writes_form modified steps meets (Call place targets f arguments) = writes_at meets place (map part_of_target targets ++ map part_of_name (modified f.name))
writes_form modified steps meets (Next place i) = stepped_at meets place (steps i.name)
writes_form modified steps meets other = λ before. nothing

unfoldable pub written_by : (ℕ → List ℕ) → (ℕ → Stepping) → Meets → List Stmt → Stretch Part
written_by modified steps meets code = in_turn (map (fold-Stmt (Stretch Part) (writes_form modified steps meets)) code)

-- A stepped instance writes what its module writes: a bound output is the parent's name, and all else is inside the instance.

-- the parent's name that is bound to a name of the instance's module; no other expression counts
abbrev pub outer_name : InstanceParts → ℕ → Option ℕ
outer_name i x = option_and_then (λ e. name_form (out-Expr e)) (bound_to i x)

-- a part of an instance's module as one of the parent's, where it is one
abbrev pub outer_part : InstanceParts → Part → Option Part
outer_part i [] = None
outer_part i (x ∷ fields) = option_map (λ y. y ∷ fields) (outer_name i x)

abbrev pub is_inside : InstanceParts → Part → Bool
is_inside i p = not (is_some (outer_part i p))

-- what stepping an instance writes in the parent: the parts of bound names, and all cells inside the instance as one where it writes one of these
abbrev pub stepped_parts : InstanceParts → List Part → List Part
stepped_parts i parts = filter_map (outer_part i) parts ++ (if list_any (is_inside i) parts then part_of_name i.name ∷ [] else [])

-- Two parts that meet in the instance's module are judged there. Where they meet in the parent alone, as two outputs that are bound to one
-- variable, the statement that steps the instance is at fault.
abbrev pub meets_as : Meets → Option Part → Option Part → Bool
meets_as meets (Some p) (Some q) = meets p q
meets_as meets o r = false

-- parts that meet in the parent and not in the instance's module
abbrev pub meets_outside : InstanceParts → Meets → Meets
meets_outside i meets p q = not (overlap p q) && meets_as meets (outer_part i p) (outer_part i q)

-- How the next blocks of modules write.
abbrev pub Modules : Type 0
Modules = Meets → Module → Along Part

abbrev pub stepping : Modules → Meets → InstanceParts → Option Module → Stepping
stepping modules meets i None = no_step
stepping modules meets i (Some m) = record {
  parts = stepped_parts i (modules meets m).happens;
  meet = not (is_empty (modules (meets_outside i meets) m).faults);
}

abbrev pub stepping_as : System → Modules → Meets → Option InstanceParts → Stepping
stepping_as system modules meets None = no_step
stepping_as system modules meets (Some i) = stepping modules meets i (module_named system i.module_name)

abbrev pub steps_in : System → Modules → Meets → Module → ℕ → Stepping
steps_in system modules meets m x = stepping_as system modules meets (instance_of m x)

-- modules with at most n instances inside each other
unfoldable pub written_through : ℕ → System → Modules
written_through zero system meets m = nothing
written_through (suc n) system meets m = written_by (modified_in m) (steps_in system (written_through n system) meets m) meets (next_of m) []

-- parts that a module's next block writes twice: each at the later statement
abbrev pub twice_in_step : System → Module → List Fault
twice_in_step system m = (written_through (suc (length system.modules)) system overlap m).faults

-- Sequential code: among the targets of one assignment or call each name stands once.

unfoldable pub is_named_twice : List ℕ → Bool
is_named_twice [] = false
is_named_twice (x ∷ xs) = list_any (nat_eq x) xs || is_named_twice xs

abbrev pub target_names : List Target → List ℕ
target_names ts = map (λ t. t.name) ts

-- an assignment or a call is at fault where two of its targets have one name
abbrev pub twice_form : Stmt-F (List Fault) → List Fault
twice_form (Block place block) = all_of block
twice_form (Assign place targets sources) = breaks_where (is_named_twice (target_names targets)) TwiceAssigned place
twice_form (Choice place as' otherwise) = flat_map (λ a. all_of a.body) as' ++ otherwise_of otherwise
twice_form (Cases place as' otherwise) = flat_map (λ a. all_of a.body) as' ++ otherwise_of otherwise
twice_form (For place x type from to block) = all_of block
twice_form (Call place targets f arguments) = breaks_where (is_named_twice (target_names targets)) TwiceAssigned place
twice_form other = []

abbrev pub twice_in_code : List Stmt → List Fault
twice_in_code code = flat_map (fold-Stmt (List Fault) twice_form) code

abbrev pub sequential_in : Decl → List Stmt
sequential_in (Init place block) = block
sequential_in (Procedure place p) = p.body
sequential_in other = []

-- the faults of a module: in its next block, and in its sequential code
abbrev pub twice_assigned : System → Module → List Fault
twice_assigned system m = twice_in_step system m ++ flat_map (λ d. twice_in_code (sequential_in d)) m.decls
