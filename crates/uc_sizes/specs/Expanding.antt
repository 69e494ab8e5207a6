-- What main expands to, part by part.
use Rattle.std.specs.Prelude.{◌≡◌, ℕ, Bool, nat_eq, if◌then◌else◌, List, [], ◌∷◌, map, Option, Some, None}
use Rattle.std.specs.List.{flat_map, list_any}
use Rattle.uc_syntax.specs.declared.expression.Expr.{Expr}
use Rattle.uc_syntax.specs.declared.declaration.Decl.{Decl}
use Rattle.uc_syntax.specs.declared.declaration.Module.{Module}
use Rattle.uc_meaning.specs.Lookup.{System, instance_in, or_else}
use Rattle.uc_meaning.specs.Cells.{InstanceAt, as_list, instances}
use Rattle.uc_order_rules.specs.Sizes.{Size, axiom_nodes, instance_size, nodes, procedure_size, size, sum, total}
use Rattle.uc_uses.specs.Counting.{instances_by}

-- the nodes of expressions at a path
abbrev pub expression_sizes : System → List ℕ → List Expr → Size
expression_sizes system path es = size 0 (total (map (nodes system path) es))

-- An instance of this module at this path.
pub record IsHere (p : List ℕ) (m : Module) (here : InstanceAt) : Type 0 where
  pub path : here.path ≡ p
  pub code : here.code ≡ m

abbrev pub instances_size : System → List InstanceAt → Size
instances_size system is = sum (map (instance_size system) is)

-- the instance that a declaration declares, with those inside it
abbrev pub sizes_inside : ℕ → System → InstanceAt → Decl → Size
sizes_inside n system here d = instances_size system (instances_by n system here (instance_in d))

-- the path of the first instance of a module
unfoldable pub first_place : ℕ → List InstanceAt → Option (List ℕ)
first_place name [] = None
first_place name (i ∷ is) = if nat_eq i.code.name name then Some i.path else first_place name is

abbrev pub place_inside : ℕ → ℕ → System → InstanceAt → Decl → Option (List ℕ)
place_inside name n system here d = first_place name (instances_by n system here (instance_in d))

-- the axioms of a module, if it is in use
abbrev pub used_axioms : System → Module → Size
used_axioms system m = if list_any (λ i. nat_eq i.code.name m.name) (instances system) then size 0 (axiom_nodes system m) else size 0 0

-- the procedures of main
abbrev pub declared_procedures : System → Option Module → Size
declared_procedures system main = sum (map (procedure_size system) (flat_map (λ m. m.decls) (as_list main)))
