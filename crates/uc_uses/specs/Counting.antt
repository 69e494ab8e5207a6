-- Instances and their cells, counted up to a limit.
use Rattle.std.specs.Prelude.{◌≡◌, ℕ, ◌+◌, ◌<◌, ◌≤◌, Bool, true, false, is_some, if◌then◌else◌, List, [], ◌∷◌, ◌++◌, map, length, Option, Some, None}
use Rattle.std.specs.List.{flat_map}
use Rattle.uc_syntax.specs.declared.place.Identifier.{Identifier}
use Rattle.uc_syntax.specs.declared.declaration.VariableKind.{VariableKind}
use Rattle.uc_syntax.specs.declared.declaration.Decl.{Decl}
use Rattle.uc_syntax.specs.declared.declaration.Module.{Module}
use Rattle.uc_meaning.specs.Lookup.{System, InstanceParts, bound_to, first_some, instance_in, is_named, main_module, module_named, some_if}
use Rattle.uc_meaning.specs.Cells.{InstanceAt, as_list, cells_in, instances_from, is_cell, is_main, main_instance}
use Rattle.uc_order_rules.specs.Sizes.{total}
use Rattle.uc_uses.specs.declared.counts.Counted.{Counted}
use Rattle.uc_uses.specs.declared.counts.Counted.TheVariants.{Instances, Cells}
use Rattle.uc_uses.specs.declared.counts.Place.{Place}

-- so much more is counted, or that passes the limit
abbrev pub Reaches : ℕ → Bool → ℕ → ℕ → ℕ → Type 0
Reaches limit true old new amount = (new ≡ old + amount) × (new ≤ limit)
Reaches limit false old new amount = limit < old + amount

-- the same where what was counted before is within the limit
unfoldable pub Counts : ℕ → Bool → ℕ → ℕ → ℕ → Type 0
Counts limit b old new amount = old ≤ limit → Reaches limit b old new amount

-- An instance of this module, with these bindings, that is main or not.
pub record IsPlace (p : Place) (here : InstanceAt) : Type 0 where
  pub code : here.code ≡ p.code.now
  pub main : is_main here.path ≡ p.is_main
  pub bound : (x : ℕ) → here.is_bound x ≡ is_some (first_some (λ b. some_if (is_named x b.identifier) b.expression) p.bindings.now)

-- how many cells a declaration gives an instance
abbrev pub cell_count : System → InstanceAt → Decl → ℕ
cell_count system here d = length (cells_in system here d)

abbrev pub one_cell : InstanceAt → VariableKind → Identifier → ℕ
one_cell here kind i = if is_cell here kind i.name then 1 else 0

-- what is counted of an instance
abbrev pub own : Counted → System → InstanceAt → ℕ
own Instances system here = 1
own Cells system here = total (map (cell_count system here) here.code.decls)

abbrev pub all_own : Counted → System → List InstanceAt → ℕ
all_own counted system is = total (map (own counted system) is)

-- the instance in another one, with its module
abbrev pub inside : InstanceAt → InstanceParts → Module → InstanceAt
inside here i m = record { path = here.path ++ i.name ∷ []; code = m; is_bound = λ x. is_some (bound_to i x) }

abbrev pub instances_with : ℕ → System → InstanceAt → InstanceParts → Option Module → List InstanceAt
instances_with n system here i None = []
instances_with n system here i (Some m) = instances_from n system (inside here i m)

abbrev pub instances_by : ℕ → System → InstanceAt → Option InstanceParts → List InstanceAt
instances_by n system here None = []
instances_by n system here (Some i) = instances_with n system here i (module_named system i.module_name)

-- what is counted of the instance that a declaration declares, and of those inside it
abbrev pub own_inside : Counted → ℕ → System → InstanceAt → Decl → ℕ
own_inside counted n system here d = all_own counted system (instances_by n system here (instance_in d))

-- main and the instances below it, on chains of at most so many modules
abbrev pub instances_of_main : ℕ → System → List InstanceAt
instances_of_main n system = flat_map (λ m. instances_from n system (main_instance m)) (as_list (main_module system))
