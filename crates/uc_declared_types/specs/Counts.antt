-- How many labels enums have.
use Rattle.std.specs.Prelude.{◌≡◌, ℕ, List, map, length}
use Rattle.std.specs.List.{flat_map}
use Rattle.uc_syntax.specs.declared.declaration.Module.{Module}
use Rattle.uc_syntax.specs.WrittenTypes.{enums_of_module}
use Rattle.uc_meaning.specs.Lookup.{System}
use Rattle.uc_type_names.specs.declared.enums.WrittenEnum.{WrittenEnum}
use Rattle.uc_declared_types.specs.declared.aliases.AliasTypes.{AliasTypes}
use Rattle.uc_declared_types.specs.Aliases.{KnowsAliases}

-- those that a module writes
abbrev pub counts_in : Module → List ℕ
counts_in m = map (λ e. length e.labels) (enums_of_module m)

abbrev pub written_counts : List WrittenEnum → List ℕ
written_counts es = map (λ e. length e.labels.now) es

-- What is known of the types of a design: its aliases, and how many labels each enum has.
pub record KnowsTypes (s : System) (aliases : AliasTypes) (counts : List ℕ) : Type 0 where
  pub aliases_known : KnowsAliases s aliases
  pub labels_counted : counts ≡ flat_map counts_in s.modules
