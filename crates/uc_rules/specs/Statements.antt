-- The faults of statements.
use Rattle.std.specs.Prelude.{ℕ, Bool, true, false, not, ◌&&◌, ◌||◌, nat_eq, if◌then◌else◌, List, [], ◌∷◌, ◌++◌, map, length, Option, Some, None}
use Rattle.std.specs.List.{flat_map, list_all, filter_map}
use Rattle.std.specs.Option.{is_some}
use Rattle.uc_lexer.specs.declared.place.Place.{Place}
use Rattle.uc_syntax.specs.declared.place.Identifier.{Identifier}
use Rattle.uc_syntax.specs.declared.type_expression.TypeExpr.{TypeExpr}
use Rattle.uc_syntax.specs.declared.expression.Expr.{Expr}
use Rattle.uc_syntax.specs.declared.statement.Target.{Target}
use Rattle.uc_syntax.specs.declared.statement.TargetPart.{TargetPart}
use Rattle.uc_syntax.specs.declared.statement.TargetPart.TheVariants.{Field, Element}
use Rattle.uc_syntax.specs.declared.statement.RangeBound.{RangeBound}
use Rattle.uc_syntax.specs.declared.statement.RangeBound.TheVariants.{Number as NumberBound, BitsLiteral as BitsBound}
use Rattle.uc_syntax.specs.declared.statement.Arm.{Arm}
use Rattle.uc_syntax.specs.declared.statement.Stmt.{Stmt}
use Rattle.uc_syntax.specs.declared.statement.Stmt.TheOpen.{Stmt-F}
use Rattle.uc_syntax.specs.declared.statement.Stmt.TheOpen.Stmt-F.{Local as Declare, Skip, Block, Assert, Assume, Havoc, Assign, If as Choice, Case as Cases, For, Call, Next as Step}
use Rattle.uc_syntax.specs.declared.statement.Stmt.TheFolds.{fold-Stmt}
use Rattle.uc_syntax.specs.declared.declaration.Clause.{Clause}
use Rattle.uc_syntax.specs.declared.declaration.Clause.TheVariants.{Modifies}
use Rattle.uc_syntax.specs.declared.declaration.Procedure.{Procedure}
use Rattle.uc_syntax.specs.declared.declaration.VariableKind.{VariableKind}
use Rattle.uc_syntax.specs.declared.declaration.VariableKind.TheVariants.{Variable, Output}
use Rattle.uc_syntax.specs.declared.declaration.Module.{Module}
use Rattle.uc_values.specs.declared.ty.Ty.{Ty}
use Rattle.uc_meaning.specs.Lookup.{System, some_if}
use Rattle.uc_rules.specs.declared.fault.Fault.{Fault}
use Rattle.uc_rules.specs.declared.rule.Rule.TheVariants.{UnknownName, WrongType, NotAssignable, BadPrime, NotModifies}
use Rattle.uc_rules.specs.declared.known.Known.{Known}
use Rattle.uc_rules.specs.declared.known.Role.{Role}
use Rattle.uc_rules.specs.declared.known.Role.TheVariants.{Parameter, Local, Counter}
use Rattle.uc_rules.specs.declared.outcome.Outcome.{Outcome}
use Rattle.uc_rules.specs.declared.rows.Chain.TheVariants.{Number}
use Rattle.uc_rules.specs.Faults.{broken, breaks, breaks_where}
use Rattle.uc_rules.specs.Outcomes.{type_in, faults_in, outcome_of}
use Rattle.uc_rules.specs.Rows.{Fit, Misfits, types_fit, number_literal, bits_literal, pair, same_outcome, field_on, element_on}
use Rattle.uc_rules.specs.Names.{Valued, ValuedVariable, ValuedLabel, value_named, procedure_named, instance_named, is_name_of, names_one_of, repeated_in_scope}
use Rattle.uc_rules.specs.Types.{type_of, type_faults, parameter_types}
use Rattle.uc_rules.specs.Expressions.{Context, Standing, ValueOf, Wrong, Judged, Own, judged, faults_of, types_of, condition_faults, bound_named, standing_faults, standing_type}

-- Scopes.

abbrev pub bound_names : Context → List ℕ
bound_names c = map (λ k. k.name) c.bound

-- names with one type in the scope of what follows, the last one first
abbrev pub with_names : Role → List Identifier → Option Ty → List Known → List Known
with_names role [] t bound = bound
with_names role (i ∷ is) t bound = with_names role is t (record { name = i.name; role = role; ty = t } ∷ bound)

abbrev pub binds : Context → Role → List Identifier → Option Ty → Context
binds c role is t = record c { bound = with_names role is t c.bound }

-- What may be written.

-- a variable or an output
abbrev pub is_written_kind : VariableKind → Bool
is_written_kind Variable = true
is_written_kind Output = true
is_written_kind other = false

abbrev pub is_written_value : Option Valued → Bool
is_written_value (Some (ValuedVariable kind type)) = is_written_kind kind
is_written_value other = false

-- the names of a procedure's `modifies` clauses
abbrev pub modifies_in : Clause → List Identifier
modifies_in (Modifies place is) = is
modifies_in other = []

abbrev pub modifies_written : Procedure → List Identifier
modifies_written p = flat_map modifies_in p.clauses

-- the variables and outputs that a procedure may modify
abbrev pub modifies_of : System → Module → Procedure → List ℕ
modifies_of system m p = filter_map (λ i. some_if (is_written_value (value_named system m i.name)) i.name) (modifies_written p)

-- whether a name may be modified: outside procedures every name may
abbrev pub may_modify : Option (List ℕ) → ℕ → Bool
may_modify None x = true
may_modify (Some xs) x = names_one_of xs x

-- a variable or output that is written, by the procedure around it too
abbrev pub modified : Context → Place → ℕ → Option Ty → Standing
modified c place x t = if may_modify c.modifies x then ValueOf t else Wrong (broken NotModifies place)

-- a local or a result is written outside next blocks, where it bears no prime
abbrev pub role_written : Context → Place → Bool → Role → Option Ty → Standing
role_written c place fits Parameter t = Wrong (broken NotAssignable place)
role_written c place fits Counter t = Wrong (broken NotAssignable place)
role_written c place fits role t = if fits then ValueOf t else Wrong (broken BadPrime place)

-- what is no value at all: some other name of the module, or nothing
abbrev pub not_written : Context → Place → ℕ → Standing
not_written c place x = Wrong (broken (if is_name_of c.system c.home x then NotAssignable else UnknownName) place)

abbrev pub kind_written : Context → Place → ℕ → Bool → VariableKind → Option Ty → Standing
kind_written c place x fits kind t =
    if is_written_kind kind then (if fits then modified c place x t else Wrong (broken BadPrime place)) else Wrong (broken NotAssignable place)

abbrev pub value_written : Context → Place → ℕ → Bool → Option Valued → Standing
value_written c place x fits (Some (ValuedVariable kind type)) = kind_written c place x fits kind (type_of c.system c.home type)
value_written c place x fits (Some (ValuedLabel e)) = Wrong (broken NotAssignable place)
value_written c place x fits None = not_written c place x

-- a name that is written, where its prime fits for a variable and for a local as given
abbrev pub written_from : Context → Place → ℕ → Bool → Bool → Option Known → Standing
written_from c place x variable_fits local_fits (Some k) = role_written c place local_fits k.role k.ty
written_from c place x variable_fits local_fits None = value_written c place x variable_fits (value_named c.system c.home x)

-- a target: in a next block it bears a prime, elsewhere it bears none
abbrev pub target_standing : Context → Place → ℕ → Bool → Standing
target_standing c place x primed = written_from c place x (if c.in_next then primed else not primed) (not c.in_next && not primed) (bound_named c x)

-- in a next block `havoc x;` and `havoc x';` mean the same
abbrev pub havoc_standing : Context → Place → ℕ → Bool → Standing
havoc_standing c place x primed = written_from c place x (c.in_next || not primed) (not primed) (bound_named c x)

-- Targets.

abbrev pub part_place : TargetPart → Place
part_place (Field place f) = place
part_place (Element place e) = place

abbrev pub part_outcome : Context → Option Ty → TargetPart → Outcome
part_outcome c t (Field place f) = field_on t f.name
part_outcome c t (Element place e) = element_on t (judged e c).type

abbrev pub part_inner : Context → TargetPart → List Fault
part_inner c (Field place f) = []
part_inner c (Element place e) = (judged e c).faults

unfoldable pub parts_faults : Context → Option Ty → List TargetPart → List Fault
parts_faults c t [] = []
parts_faults c t (p ∷ ps) = (part_inner c p ++ faults_in (part_place p) (part_outcome c t p)) ++ parts_faults c (type_in (part_outcome c t p)) ps

unfoldable pub parts_type : Context → Option Ty → List TargetPart → Option Ty
parts_type c t [] = t
parts_type c t (p ∷ ps) = parts_type c (type_in (part_outcome c t p)) ps

abbrev pub target_own : Context → Target → Own
target_own c t = record {
  faults = standing_faults (target_standing c t.place t.name t.is_primed) ++ parts_faults c (standing_type (target_standing c t.place t.name t.is_primed)) t.parts;
  type = parts_type c (standing_type (target_standing c t.place t.name t.is_primed)) t.parts;
}

abbrev pub target_faults : Context → List Target → List Fault
target_faults c ts = flat_map (λ t. (target_own c t).faults) ts

abbrev pub target_types : Context → List Target → List (Option Ty)
target_types c ts = map (λ t. (target_own c t).type) ts

abbrev pub all_judged_in : Context → List Expr → List Judged
all_judged_in c es = map (λ e. judged e c) es

-- Assignments, calls and loops, whose faults of types and numbers are at their first token.

abbrev pub misfit_faults : Place → Fit → List Fault
misfit_faults place Misfits = breaks WrongType place
misfit_faults place other = []

-- as many values as are asked for, whatever their types, and each of its type
abbrev pub fit_faults : Place → List (Option Ty) → List (Option Ty) → List Fault
fit_faults place ps ts = if nat_eq (length ps) (length ts) then misfit_faults place (types_fit ps ts) else breaks WrongType place

-- the targets and the sources by themselves, and then whether they fit each other
abbrev pub assign_faults : Context → Place → List Target → List Expr → List Fault
assign_faults c place targets sources =
    target_faults c targets ++ (faults_of (all_judged_in c sources) ++ fit_faults place (target_types c targets) (types_of (all_judged_in c sources)))

-- a procedure that is called modifies no more than the one that calls it may
abbrev pub call_modifies : Context → Procedure → Bool
call_modifies c p = list_all (may_modify c.modifies) (modifies_of c.system c.home p)

-- there is such a procedure, the arguments fit its parameters and its results the targets, and it modifies no more than may be modified here
abbrev pub called_faults : Context → Place → List (Option Ty) → Identifier → Option Procedure → List (Option Ty) → List Fault
called_faults c place targets i None arguments = breaks UnknownName i.place
called_faults c place targets i (Some p) arguments =
    fit_faults place (parameter_types c.system c.home p.parameters) arguments
    ++ (fit_faults place (parameter_types c.system c.home p.results) targets ++ breaks_where (not (call_modifies c p)) NotModifies place)

-- the targets and the arguments of a call by themselves, and then the call
abbrev pub call_faults : Context → Place → List Target → Identifier → List Expr → List Fault
call_faults c place targets i arguments =
    target_faults c targets
    ++ (faults_of (all_judged_in c arguments)
    ++ called_faults c place (target_types c targets) i (procedure_named c.system c.home i.name) (types_of (all_judged_in c arguments)))

abbrev pub bound_place : RangeBound → Place
bound_place (NumberBound place minus n) = place
bound_place (BitsBound place n w) = place

abbrev pub bound_outcome : RangeBound → Outcome
bound_outcome (NumberBound place minus n) = number_literal n
bound_outcome (BitsBound place n w) = bits_literal n w

-- both bounds are integers, or both of one width
abbrev pub range_outcome : RangeBound → RangeBound → Outcome
range_outcome from to = pair Number (type_in (bound_outcome from)) (type_in (bound_outcome to))

-- the variable of a loop has the type of the bounds, also where its type is written
abbrev pub counter_outcome : Context → Option TypeExpr → Option Ty → Outcome
counter_outcome c None t = outcome_of t
counter_outcome c (Some type) t = same_outcome t (type_of c.system c.home type)

abbrev pub written_type_faults : Context → Option TypeExpr → List Fault
written_type_faults c None = []
written_type_faults c (Some type) = type_faults c.system c.home type

abbrev pub range_faults : Context → Place → Option TypeExpr → RangeBound → RangeBound → List Fault
range_faults c place type from to =
    (faults_in (bound_place from) (bound_outcome from) ++ faults_in (bound_place to) (bound_outcome to))
    ++ (faults_in place (range_outcome from to) ++ faults_in place (counter_outcome c type (type_in (range_outcome from to))))

-- Statements.

-- What the rules say of a statement where it stands: its faults, and where the next statement of its block stands.
pub record Found : Type 0 where
  pub faults : List Fault
  pub after : Context

-- Parts of statements, by what is said of them where they stand.
abbrev pub Piece : Type 0
Piece = Context → Found

-- a statement that declares nothing for what follows
abbrev pub stays : Context → List Fault → Found
stays c fs = record { faults = fs; after = c }

-- the faults of a block: each local is known in what follows it
unfoldable pub block_faults : List Piece → Context → List Fault
block_faults [] c = []
block_faults (p ∷ ps) c = (p c).faults ++ block_faults ps (p c).after

abbrev pub arms_faults : List (Arm Piece) → Context → List Fault
arms_faults arms c = flat_map (λ a. condition_faults c a.condition ++ block_faults a.body c) arms

abbrev pub else_faults : Option (List Piece) → Context → List Fault
else_faults None c = []
else_faults (Some block) c = block_faults block c

-- no local stands in a next block, its names are new in their scope, and its type is right
abbrev pub declare_faults : Context → Place → List Identifier → TypeExpr → List Fault
declare_faults c place is type =
    breaks_where c.in_next BadPrime place ++ (repeated_in_scope c.system c.home (bound_names c) is ++ type_faults c.system c.home type)

-- the name of the variable is new in its scope, and stands for a counter in the block
abbrev pub for_faults : Context → Place → Identifier → Option TypeExpr → RangeBound → RangeBound → List Piece → List Fault
for_faults c place i type from to block =
    (repeated_in_scope c.system c.home (bound_names c) (i ∷ []) ++ written_type_faults c type)
    ++ (range_faults c place type from to ++ block_faults block (binds c Counter (i ∷ []) (type_in (counter_outcome c type (type_in (range_outcome from to))))))

abbrev pub instance_there : Context → Identifier → Bool
instance_there c i = is_some (instance_named c.system c.home i.name)

-- what the rules say of each statement; only a local is known to what follows it
abbrev pub found_form : Stmt-F Piece → Piece
found_form (Declare place is type) c = record { faults = declare_faults c place is type; after = binds c Local is (type_of c.system c.home type) }
found_form (Skip place) c = stays c []
found_form (Block place block) c = stays c (block_faults block c)
found_form (Assert place name e) c = stays c (condition_faults c e)
found_form (Assume place e) c = stays c (condition_faults c e)
found_form (Havoc place i primed) c = stays c (standing_faults (havoc_standing c i.place i.name primed))
found_form (Assign place targets sources) c = stays c (assign_faults c place targets sources)
found_form (Choice place arms otherwise) c = stays c (arms_faults arms c ++ else_faults otherwise c)
found_form (Cases place arms otherwise) c = stays c (arms_faults arms c ++ else_faults otherwise c)
found_form (For place i type from to block) c = stays c (for_faults c place i type from to block)
found_form (Call place targets i arguments) c = stays c (call_faults c place targets i arguments)
found_form (Step place i) c = stays c (breaks_where (not c.in_next) BadPrime place ++ breaks_where (not (instance_there c i)) UnknownName i.place)

unfoldable pub found : Stmt → Piece
found = fold-Stmt Piece found_form

-- the faults of a block of statements
abbrev pub code_faults : List Stmt → Context → List Fault
code_faults block c = block_faults (map found block) c
