-- What the walk over statements finds: the first of what was noted before and of the faults that are found, and the scope of what follows.
use Rattle.std.specs.Prelude.{◌≡◌, ℕ, Bool, not, if◌then◌else◌, true, List, [], ◌∷◌, ◌++◌, Option, Some, None}
use Rattle.std.specs.List.{flat_map, list_all, filter_map}
use Rattle.uc_lexer.specs.declared.place.Place.{Place}
use Rattle.uc_syntax.specs.declared.place.Identifier.{Identifier}
use Rattle.uc_syntax.specs.declared.type_expression.TypeExpr.{TypeExpr}
use Rattle.uc_syntax.specs.declared.statement.Target.{Target}
use Rattle.uc_syntax.specs.declared.statement.RangeBound.{RangeBound}
use Rattle.uc_syntax.specs.declared.statement.Arm.{Arm}
use Rattle.uc_syntax.specs.declared.statement.Stmt.{Stmt}
use Rattle.uc_syntax.specs.declared.declaration.Clause.{Clause}
use Rattle.uc_syntax.specs.declared.declaration.Procedure.{Procedure}
use Rattle.uc_values.specs.declared.ty.Ty.{Ty}
use Rattle.uc_meaning.specs.Lookup.{some_if}
use Rattle.uc_rules.specs.declared.fault.Fault.{Fault}
use Rattle.uc_rules.specs.declared.rule.Rule.TheVariants.{UnknownName, BadPrime, NotModifies}
use Rattle.uc_rules.specs.declared.known.Role.{Role}
use Rattle.uc_rules.specs.declared.known.Role.TheVariants.{Counter}
use Rattle.uc_rules.specs.Faults.{breaks_where, first_of}
use Rattle.uc_rules.specs.Names.{repeated_in_scope, value_named}
use Rattle.uc_rules.specs.Outcomes.{type_in}
use Rattle.uc_rules.specs.Types.{parameter_types}
use Rattle.uc_rules.specs.Expressions.{Context, condition_faults}
use Rattle.uc_rules.specs.Statements.{binds, bound_names, code_faults, counter_outcome, fit_faults, found, instance_there, is_written_value, may_modify, modifies_in, range_faults, range_outcome, target_faults, target_types, written_type_faults}

-- what is found of several targets
pub record JudgesTargets (c : Context) (ts : List Target) (old new : Option Fault) (types : List (Option Ty)) : Type 0 where
  pub are : types ≡ target_types c ts
  pub found : new ≡ first_of old (target_faults c ts)

-- a name of the module that is a variable or an output
abbrev pub name_written : Context → Identifier → Option ℕ
name_written c i = some_if (is_written_value (value_named c.system c.home i.name)) i.name

-- a listed name may be modified here, where it is a variable or an output
abbrev pub name_may : Context → Identifier → Bool
name_may c i = if is_written_value (value_named c.system c.home i.name) then may_modify c.modifies i.name else true

-- whether all that clauses let a procedure modify may be modified here
abbrev pub clauses_may : Context → List Clause → Bool
clauses_may c qs = list_all (λ q. list_all (may_modify c.modifies) (filter_map (name_written c) (modifies_in q))) qs

-- the faults of a call of a procedure that is there
abbrev pub called_procedure_faults : Context → Place → List (Option Ty) → Procedure → List (Option Ty) → List Fault
called_procedure_faults c place targets p arguments =
    fit_faults place (parameter_types c.system c.home p.parameters) arguments
    ++ (fit_faults place (parameter_types c.system c.home p.results) targets ++ breaks_where (not (clauses_may c p.clauses)) NotModifies place)

-- the faults of `next` of an instance
abbrev pub step_faults : Context → Place → Identifier → List Fault
step_faults c place i = breaks_where (not c.in_next) BadPrime place ++ breaks_where (not (instance_there c i)) UnknownName i.place

-- the first of what was noted before and of these faults, and this scope
pub record JudgesAfter (old new : Option Fault) (after : Context) (fs : List Fault) (c : Context) : Type 0 where
  pub noted : new ≡ first_of old fs
  pub scope : after ≡ c

-- names are declared: each is noted that is taken, and all are known then
abbrev pub Declares : Context → Role → List Identifier → Option Ty → Option Fault → Option Fault → Context → Type 0
Declares c role is t old new after = JudgesAfter old new after (repeated_in_scope c.system c.home (bound_names c) is) (binds c role is t)

-- what is found of a statement
abbrev pub JudgesStatement : Context → Stmt → Option Fault → Option Fault → Context → Type 0
JudgesStatement c s old new after = JudgesAfter old new after (found s c).faults (found s c).after

-- what is found of a block, behind which the scope is the same
abbrev pub JudgesBlock : Context → List Stmt → Option Fault → Option Fault → Context → Type 0
JudgesBlock c block old new after = JudgesAfter old new after (code_faults block c) c

-- the faults of arms and of the blocks that they guard
abbrev pub arms_found : Context → List (Arm Stmt) → List Fault
arms_found c arms = flat_map (λ a. condition_faults c a.condition ++ code_faults a.body c) arms

abbrev pub else_found : Context → Option (List Stmt) → List Fault
else_found c None = []
else_found c (Some block) = code_faults block c

-- what is found of arms
abbrev pub JudgesArms : Context → List (Arm Stmt) → Option Fault → Option Fault → Context → Type 0
JudgesArms c arms old new after = JudgesAfter old new after (arms_found c arms) c

-- what is found of the block that stands for all that arms leave out
abbrev pub JudgesElse : Context → Option (List Stmt) → Option Fault → Option Fault → Context → Type 0
JudgesElse c otherwise old new after = JudgesAfter old new after (else_found c otherwise) c

-- what is found of a loop before its body, in which its variable is known
abbrev pub head_faults : Context → Place → Identifier → Option TypeExpr → RangeBound → RangeBound → List Fault
head_faults c place i type from to = (repeated_in_scope c.system c.home (bound_names c) (i ∷ []) ++ written_type_faults c type) ++ range_faults c place type from to

abbrev pub counter_type : Context → Option TypeExpr → RangeBound → RangeBound → Option Ty
counter_type c type from to = type_in (counter_outcome c type (type_in (range_outcome from to)))

abbrev pub EntersLoop : Context → Place → Identifier → Option TypeExpr → RangeBound → RangeBound → Option Fault → Option Fault → Context → Type 0
EntersLoop c place i type from to old new after = JudgesAfter old new after (head_faults c place i type from to) (binds c Counter (i ∷ []) (counter_type c type from to))
