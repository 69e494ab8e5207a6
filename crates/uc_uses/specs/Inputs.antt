-- The inputs of a module by their names.
use Rattle.std.specs.Prelude.{◌≡◌, ℕ, Bool, nat_eq, List, Option, Some}
use Rattle.std.specs.Option.{option_map}
use Rattle.indexmap.specs.IndexMap.{get}
use Rattle.uc_syntax.specs.declared.declaration.Decl.{Decl}
use Rattle.uc_meaning.specs.Lookup.{first_some, variable_in}
use Rattle.uc_order_rules.specs.Roots.{is_input}
use Rattle.uc_names.specs.declared.firsts.Firsts.{Firsts}

-- what a declaration says of a name: whether it is an input
abbrev pub input_said : ℕ → Decl → Option Bool
input_said x d = option_map (λ v. is_input (Some v)) (variable_in x d)

-- a table has for each name what the first declaration of a variable of the name says
unfoldable pub KnowsInputs : List Decl → Firsts Bool → Type 0
KnowsInputs ds t = (x : ℕ) → get nat_eq t.things x ≡ option_map (λ v. is_input (Some v)) (first_some (variable_in x) ds)
