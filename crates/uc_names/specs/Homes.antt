-- The tables of all modules of a design.
use Rattle.std.specs.Prelude.{◌≡◌, ℕ, ◌+◌, ◌≤◌, nat_eq, List, [], ◌∷◌, length}
use Rattle.std.specs.Option.{option_map}
use Rattle.indexmap.specs.IndexMap.{get}
use Rattle.uc_meaning.specs.Lookup.{System}
use Rattle.uc_rules.specs.Names.{names_in, type_of_module}
use Rattle.uc_names.specs.declared.firsts.Firsts.{Firsts}
use Rattle.uc_names.specs.declared.senses.DeclaredType.{DeclaredType}
use Rattle.uc_names.specs.declared.table.NameTable.{NameTable}
use Rattle.uc_names.specs.Senses.{declared_meant, module_in}
use Rattle.uc_names.specs.Tables.{Holds}
use Rattle.uc_names.specs.declared.numbers.OpaqueNumbers.{OpaqueNumbers}
use Rattle.uc_names.specs.TypeHomesNumbers.{KnowsOpaques}

-- each of a list, by its place from k on
unfoldable pub EachFrom : {A : Type 0} → (ℕ → A → Type 0) → ℕ → List A → Type 0
EachFrom P k [] = Unit {0}
EachFrom P k (x ∷ xs) = P k x × EachFrom P (k + 1) xs

-- Each of a list, by its place, and they are at least so many.
pub record AllOf {A : Type 0} (P : ℕ → A → Type 0) (xs : List A) (count : ℕ) : Type 0 where
  pub each : EachFrom P 0 xs
  pub enough : count ≤ length xs

-- a table holds the names of the module at a place
abbrev pub HoldsNames : System → ℕ → NameTable → Type 0
HoldsNames s k t = Holds s.modules t (names_in s (module_in s.modules k))

-- a table holds the types that the module at a place declares itself
abbrev pub HoldsOwn : System → ℕ → Firsts DeclaredType → Type 0
HoldsOwn s k t = (x : ℕ) → option_map (declared_meant s.modules) (get nat_eq t.things x) ≡ type_of_module (module_in s.modules k) x

-- The tables are those of the modules of a design.
pub record KnowsHomes (s : System) (names : List NameTable) (own : List (Firsts DeclaredType)) (opaques : OpaqueNumbers) : Type 0 where
  pub names_known : AllOf (HoldsNames s) names (length s.modules)
  pub own_known : AllOf (HoldsOwn s) own (length s.modules)
  pub opaques_known : KnowsOpaques s opaques
