-- Each module is judged with itself as the root: its paths and cells begin there, and its inputs and outputs are not bound.
use Rattle.std.specs.Prelude.{ℕ, zero, suc, Bool, true, false, ◌&&◌, if◌then◌else◌, List, [], ◌∷◌, ◌++◌, length, Option, Some, None}
use Rattle.std.specs.List.{flat_map}
use Rattle.std.specs.Option.{is_some, option_and_then}
use Rattle.uc_syntax.specs.declared.type_expression.TypeExpr.{TypeExpr}
use Rattle.uc_syntax.specs.declared.declaration.VariableKind.{VariableKind}
use Rattle.uc_syntax.specs.declared.declaration.VariableKind.TheVariants.{Input}
use Rattle.uc_syntax.specs.declared.declaration.Module.{Module}
use Rattle.uc_meaning.specs.Lookup.{System, InstanceParts, module_at, main_module, instance_of, variable_of}
use Rattle.uc_meaning.specs.Cells.{as_list, InstanceAt, instances_from, main_instance}
use Rattle.uc_meaning.specs.Expressions.{binding_of}

-- the same design with another module as its root
abbrev pub rooted : System → ℕ → System
rooted system k = record system { main = k }

-- The root and all instances below it. No chain of instances is longer than there are modules, since none leads round.
unfoldable pub instances_in : System → List InstanceAt
instances_in system = flat_map (λ m. instances_from (suc (length system.modules)) system (main_instance m)) (as_list (main_module system))

-- A name of the module at a path.
pub record NameAt : Type 0 where
  pub path : List ℕ
  pub name : ℕ

abbrev pub name_at : List ℕ → ℕ → NameAt
name_at path x = record { path = path; name = x }

abbrev pub instance_named_at : System → List ℕ → ℕ → Option InstanceParts
instance_named_at system path x = option_and_then (λ m. instance_of m x) (module_at system path)

-- where a name and the names behind its dots lead: through instances to a name of one of them
unfoldable pub led : System → List ℕ → ℕ → List ℕ → NameAt
led system path x [] = name_at path x
led system path x (y ∷ ys) = if is_some (instance_named_at system path x) then led system (path ++ x ∷ []) y ys else name_at path x

abbrev pub is_input : Option (VariableKind × TypeExpr) → Bool
is_input (Some d) = is_input_kind d.0
  where
    is_input_kind : VariableKind → Bool
    is_input_kind Input = true
    is_input_kind other = false
is_input None = false

-- whether a name is an input to which the parent binds an expression
abbrev pub is_bound_input : System → NameAt → Bool
is_bound_input system n = is_input (option_and_then (λ m. variable_of m n.name) (module_at system n.path)) && is_some (binding_of system n.path n.name)
