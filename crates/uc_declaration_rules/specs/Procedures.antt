-- What the walk over parameters, results and clauses finds.
use Rattle.std.specs.Prelude.{false, List, ◌++◌, Option, Some}
use Rattle.std.specs.List.{filter_map, flat_map}
use Rattle.uc_syntax.specs.declared.type_expression.Parameter.{Parameter}
use Rattle.uc_syntax.specs.declared.type_expression.TypeExpr.{TypeExpr}
use Rattle.uc_syntax.specs.declared.declaration.Clause.{Clause}
use Rattle.uc_syntax.specs.declared.declaration.Clause.TheVariants.{Requires, Ensures, Modifies}
use Rattle.uc_syntax.specs.declared.declaration.Procedure.{Procedure}
use Rattle.uc_rules.specs.declared.fault.Fault.{Fault}
use Rattle.uc_rules.specs.declared.known.Role.{Role}
use Rattle.uc_rules.specs.Declarations.{identifiers_of, in_ensures_of, in_requires, modifies_faults, names_of_parameters, parameters_found, with_parameters}
use Rattle.uc_rules.specs.Expressions.{Context, condition_faults}
use Rattle.uc_rules.specs.Names.{repeated_in_list, repeated_in_scope}
use Rattle.uc_rules.specs.Statements.{bound_names, code_faults, modifies_written}
use Rattle.uc_rules.specs.Types.{parameter_faults}
use Rattle.uc_statement_rules.specs.Judging.{JudgesAfter, name_written}

-- the faults of parameters where they become known, by their names and their types
abbrev pub parameters_noted : Context → List (Parameter TypeExpr) → List Fault
parameters_noted c ps = repeated_in_scope c.system c.home (bound_names c) (identifiers_of ps) ++ parameter_faults c.system c.home ps

-- the scope in which parameters or results are known too
abbrev pub knows_parameters : Context → Role → List (Parameter TypeExpr) → Context
knows_parameters c role ps = record c { bound = with_parameters c.system c.home role ps c.bound }

-- what is found of parameters or results
abbrev pub NotesParameters : Context → Role → List (Parameter TypeExpr) → Option Fault → Option Fault → Context → Type 0
NotesParameters c role ps old new after = JudgesAfter old new after (parameters_noted c ps) (knows_parameters c role ps)

-- what is found of a procedure's parameters: the scope of its `requires`
abbrev pub Asks : Context → Procedure → Option Fault → Option Fault → Context → Type 0
Asks h p old new s = JudgesAfter old new s (parameters_found h.system h.home p.parameters) (in_requires h.system h.home p)

-- the faults of a procedure's results
abbrev pub results_found : Context → Procedure → List Fault
results_found h p = repeated_in_scope h.system h.home (names_of_parameters p.parameters) (identifiers_of p.results) ++ parameter_faults h.system h.home p.results

-- what is found of a procedure's results: the scope of its `ensures`
abbrev pub NotesKnown : Context → Procedure → Option Fault → Option Fault → Context → Type 0
NotesKnown h p old new s = JudgesAfter old new s (results_found h p) (in_ensures_of h.system h.home p)

-- the faults of a clause, by the scopes of `requires` and of `ensures`
abbrev pub asked_faults : Context → Context → Clause → List Fault
asked_faults asked known (Requires place e) = condition_faults asked e
asked_faults asked known (Ensures place e) = condition_faults known e
asked_faults asked known (Modifies place is) = flat_map (modifies_faults asked.system asked.home) is

-- the faults of a procedure's clauses and of its body, by the same scopes
abbrev pub known_faults : Context → Context → Procedure → List Fault
known_faults asked known p =
    (repeated_in_list (modifies_written p) ++ flat_map (asked_faults asked known) p.clauses)
    ++ code_faults p.body (record known { in_ensures = false; modifies = Some (filter_map (name_written asked) (modifies_written p)) })
