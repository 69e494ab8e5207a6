-- Tables of what each name stands for first.
use Rattle.std.specs.Prelude.{◌≡◌, ℕ, nat_eq, Option}
use Rattle.std.specs.Option.{option_map}
use Rattle.std.specs.List.{position_from}
use Rattle.indexmap.specs.IndexMap.{get}
use Rattle.uc_syntax.specs.declared.declaration.Module.{Module}
use Rattle.uc_meaning.specs.Lookup.{System, or_else, variable_of}
use Rattle.uc_meaning.specs.Types.{label_of}
use Rattle.uc_lookup.specs.Parts.{variable_parts}
use Rattle.uc_type_reader.specs.Reading.{label_meant}
use Rattle.uc_flat_making.specs.declared.table.Declared.{Declared}
use Rattle.uc_flat_making.specs.Cells.{own_cells, own_constants}

-- each name has what it had before, else what is entered for it
abbrev pub Enters : {T B : Type 0} → (T → B) → (ℕ → Option B) → (ℕ → Option T) → (ℕ → Option T) → Type 0
Enters meant gives old new = (x : ℕ) → option_map meant (new x) ≡ or_else (option_map meant (old x)) (gives x)

-- each name has what is given for it
abbrev pub Gives : {T B : Type 0} → (T → B) → (ℕ → Option B) → (ℕ → Option T) → Type 0
Gives meant gives table = (x : ℕ) → option_map meant (table x) ≡ gives x

-- for each name its label, its variable, and the numbers of its cell and of its constant in a module
pub record AreDeclared (system : System) (code : Module) (d : Declared) : Type 0 where
  pub labels : Gives label_meant (label_of system code) (get nat_eq d.labels.things)
  pub variables : Gives variable_parts (variable_of code) (get nat_eq d.variables.things)
  pub cells : (x : ℕ) → get nat_eq d.cells.things x ≡ position_from (λ c. nat_eq c.name x) 0 (own_cells system code)
  pub constants : (x : ℕ) → get nat_eq d.constants.things x ≡ position_from (λ c. nat_eq c.name x) 0 (own_constants system code)
