-- What the walk over instances finds.
use Rattle.std.specs.Prelude.{◌≡◌, ℕ, Bool, not, ◌++◌, nat_eq, if◌then◌else◌, List, [], Option, Some, None}
use Rattle.std.specs.List.{flat_map, list_all, list_any}
use Rattle.std.specs.Option.{is_some}
use Rattle.uc_lexer.specs.declared.place.Place.{Place}
use Rattle.uc_syntax.specs.declared.place.Identifier.{Identifier}
use Rattle.uc_syntax.specs.declared.declaration.Binding.{Binding}
use Rattle.uc_syntax.specs.declared.declaration.VariableKind.{VariableKind}
use Rattle.uc_syntax.specs.declared.declaration.VariableKind.TheVariants.{Input, Output}
use Rattle.uc_syntax.specs.declared.declaration.Module.{Module}
use Rattle.uc_values.specs.declared.ty.Ty.{Ty}
use Rattle.uc_meaning.specs.Lookup.{System, module_named}
use Rattle.uc_rules.specs.declared.fault.Fault.{Fault}
use Rattle.uc_rules.specs.declared.rule.Rule.TheVariants.{UnknownName, Unbound, NotAssignable}
use Rattle.uc_rules.specs.Declarations.{are_bound, output_named, path_faults}
use Rattle.uc_rules.specs.Expressions.{Context, judged}
use Rattle.uc_rules.specs.Faults.{breaks, breaks_where}
use Rattle.uc_rules.specs.Names.{Valued, ValuedVariable, names_one_of, value_named}
use Rattle.uc_rules.specs.Outcomes.{faults_in}
use Rattle.uc_rules.specs.Rows.{same_outcome}
use Rattle.uc_rules.specs.Types.{type_of}

-- the faults of an output that is bound, by the type of the expression and by its own
abbrev pub output_faults : Context → Binding → Option Ty → Option Ty → List Fault
output_faults c b t u = output_named c.system c.home b.identifier.place t u (judged b.expression c).name

-- an input has the type of the expression, an output is bound to what can be written, and nothing else is bound
abbrev pub kind_faults : Context → Binding → VariableKind → Option Ty → Option Ty → List Fault
kind_faults c b Input t u = faults_in b.identifier.place (same_outcome t u)
kind_faults c b Output t u = output_faults c b t u
kind_faults c b other t u = breaks UnknownName b.identifier.place

-- the same by what the name is in the instance's module n
abbrev pub value_faults : Context → Module → Binding → Option Ty → Option Valued → List Fault
value_faults c n b t (Some (ValuedVariable kind type)) = kind_faults c b kind t (type_of c.system n type)
value_faults c n b t other = breaks UnknownName b.identifier.place

-- the faults of a binding in an instance of module n, by the type of its expression
abbrev pub bound_faults : Context → Module → Binding → Option Ty → List Fault
bound_faults c n b t = value_faults c n b t (value_named c.system n b.identifier.name)

-- an output that is bound to a name with a value: a variable or an output, or something else
abbrev pub valued_faults : Place → Bool → Option Ty → Option Ty → List Fault
valued_faults place is_written t u = if is_written then faults_in place (same_outcome t u) else breaks NotAssignable place

-- the faults of a binding where the instance's module is there
abbrev pub bound_where : Context → Option Module → Binding → List Fault
bound_where c None b = []
bound_where c (Some n) b = bound_faults c n b (judged b.expression c).type

-- the faults of an expression that is bound, and those of its binding
abbrev pub judged_and_bound : Context → Option Module → Binding → List Fault
judged_and_bound c o b = (judged b.expression c).faults ++ bound_where c o b

-- a module that isn't there, and an input that isn't bound
abbrev pub missing_faults : Identifier → Identifier → List Binding → Option Module → List Fault
missing_faults i k bindings None = breaks UnknownName k.place
missing_faults i k bindings (Some n) = breaks_where (not (are_bound n bindings)) Unbound i.place

-- these are the names that are bound
unfoldable pub KnowsBindings : List Binding → List ℕ → Type 0
KnowsBindings bindings names = (x : ℕ) → names_one_of names x ≡ list_any (λ b. nat_eq b.identifier.name x) bindings

-- whether each of some identifiers is one of these names
abbrev pub are_known : List ℕ → List Identifier → Bool
are_known names is = list_all (λ i. names_one_of names i.name) is

-- a module whose types are brought in is there: else a fault at its name
abbrev pub import_faults : System → Identifier → List Fault
import_faults system i = breaks_where (not (is_some (module_named system i.name))) UnknownName i.place

-- the faults of the paths to print, where some are written
abbrev pub printed_faults : Context → Option (List (List Identifier)) → List Fault
printed_faults c None = []
printed_faults c (Some paths) = flat_map (path_faults c.system c.home) paths
