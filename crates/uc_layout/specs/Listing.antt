-- What is listed of the instances of a design, instance by instance.
use Rattle.std.specs.Prelude.{ℕ, zero, suc, Bool, true, false, is_some, if◌then◌else◌, List, [], ◌∷◌, ◌++◌, Option, Some, None}
use Rattle.std.specs.List.{flat_map}
use Rattle.uc_syntax.specs.declared.place.Identifier.{Identifier}
use Rattle.uc_syntax.specs.declared.declaration.VariableKind.{VariableKind}
use Rattle.uc_syntax.specs.declared.declaration.Decl.{Decl}
use Rattle.uc_syntax.specs.declared.declaration.Decl.TheVariants.{Variables}
use Rattle.uc_syntax.specs.declared.declaration.Module.{Module}
use Rattle.uc_meaning.specs.Lookup.{System, InstanceParts, first_some, some_if, is_named, instance_in, module_named, main_module, bound_to}
use Rattle.uc_meaning.specs.Cells.{InstanceAt, Cell, is_cell, instances_from, instances, longest_chain}
use Rattle.uc_layout.specs.declared.layout_cells.CellName.{CellName}
use Rattle.uc_layout.specs.declared.listing.Here.{Here}

abbrev pub instance_at : Here → InstanceAt
instance_at h = record { path = h.path; code = h.code.now; is_bound = λ x. is_some (first_some (λ b. some_if (is_named x b.identifier) b.expression) h.bindings.now) }

-- a cell without its type
abbrev pub cell_name : Cell → CellName
cell_name c = record { path = c.path; name = c.name; kind = c.kind }

abbrev pub cells_of_name : InstanceAt → VariableKind → Identifier → List CellName
cells_of_name here kind i = if is_cell here kind i.name then record { path = here.path; name = i.name; kind = kind } ∷ [] else []

abbrev pub cells_of_declaration : InstanceAt → Decl → List CellName
cells_of_declaration here (Variables place kind names type) = flat_map (cells_of_name here kind) names
cells_of_declaration here other = []

-- the cells of an instance
abbrev pub cells_at : InstanceAt → List CellName
cells_at here = flat_map (cells_of_declaration here) here.code.decls

-- the name of the module of an instance
abbrev pub code_at : InstanceAt → List ℕ
code_at here = here.code.name ∷ []

-- what is listed of an instance and of those inside it
abbrev pub walk : {A : Type 0} → (InstanceAt → List A) → ℕ → System → InstanceAt → List A
walk f n system here = flat_map f (instances_from n system here)

-- the instance in another one, with its module
abbrev pub inside : InstanceAt → InstanceParts → Module → InstanceAt
inside here i m = record { path = here.path ++ i.name ∷ []; code = m; is_bound = λ x. is_some (bound_to i x) }

abbrev pub walk_inside : {A : Type 0} → (InstanceAt → List A) → ℕ → System → InstanceAt → InstanceParts → Option Module → List A
walk_inside f n system here i None = []
walk_inside f n system here i (Some m) = walk f n system (inside here i m)

abbrev pub walk_instance : {A : Type 0} → (InstanceAt → List A) → ℕ → System → InstanceAt → Option InstanceParts → List A
walk_instance f n system here None = []
walk_instance f n system here (Some i) = walk_inside f n system here i (module_named system i.module_name)

-- what is listed of the instance that a declaration declares
abbrev pub below : {A : Type 0} → (InstanceAt → List A) → ℕ → System → InstanceAt → Decl → List A
below f n system here d = walk_instance f n system here (instance_in d)

-- what is listed of all instances
abbrev pub listed : {A : Type 0} → (InstanceAt → List A) → System → List A
listed f system = flat_map f (instances system)
