-- Types and modules of a design by their numbers, and which of them lie on a cycle.
use Rattle.std.specs.Prelude.{◌≡◌, ℕ, Bool, true, false, ◌<◌, ◌&&◌, cond, nat_eq, List, [], ◌∷◌, length, map, slice_get, slice_index_or, Option, Some, None}
use Rattle.std.specs.List.{flat_map, filter_map}
use Rattle.indexmap.specs.IndexMap.{get}
use Rattle.uc_syntax.specs.declared.type_expression.TypeExpr.{TypeExpr}
use Rattle.uc_syntax.specs.declared.declaration.Decl.{Decl}
use Rattle.uc_syntax.specs.declared.declaration.Decl.TheVariants.{TypeAlias, Instance}
use Rattle.uc_syntax.specs.declared.declaration.Module.{Module}
use Rattle.uc_meaning.specs.Lookup.{System}
use Rattle.uc_meaning.specs.Types.{TypeEntry, Alias}
use Rattle.uc_rules.specs.Cycles.{TypeName, on_alias_cycle, on_instance_cycle}
use Rattle.uc_declared_types.specs.AliasLaw.{IsAmong}
use Rattle.uc_names.specs.declared.firsts.Firsts.{Firsts}
use Rattle.uc_names.specs.Senses.{module_in}
use Rattle.uc_declared_types.specs.Names.{names_in}
use Rattle.uc_cycles.specs.declared.types.TypeKey.{TypeKey}
use Rattle.uc_cycles.specs.declared.types.TypeNumbers.{TypeNumbers}
use Rattle.uc_cycles.specs.declared.names.NameNumbers.{NameNumbers}
use Rattle.uc_cycles.specs.declared.cycles.DesignCycles.{DesignCycles}
use Rattle.uc_cycles.specs.contracts.types.TypeKeyPartialEq.TheImpl.{eq-value}

abbrev pub key_of : TypeName → TypeKey
key_of p = record { owner = p.0; name = p.1 }

abbrev pub key_name : TypeKey → TypeName
key_name k = (k.owner, k.name)

-- the place of a type in a table, and of a name
abbrev pub type_number : TypeNumbers → TypeKey → Option ℕ
type_number t k = get eq-value.it t.numbers k

abbrev pub name_number : NameNumbers → ℕ → Option ℕ
name_number t x = get nat_eq t.numbers.things x

-- the place of a type where one is entered
abbrev pub with_place : TypeKey → ℕ → TypeKey → Option ℕ → Option ℕ
with_place key n k known = cond (nat_eq key.owner k.owner && nat_eq key.name k.name) (Some n) known

-- a type stands at its place
unfoldable pub KnowsTypes : TypeNumbers → Type 0
KnowsTypes t = (k : TypeKey) (n : ℕ) → type_number t k ≡ Some n → slice_get t.keys n ≡ Some k

unfoldable pub KnowsNames : NameNumbers → Type 0
KnowsNames t = (x n : ℕ) → name_number t x ≡ Some n → slice_get t.keys n ≡ Some x

-- A type has a place now, and each that had one has it still.
pub record EntersType (key : TypeKey) (old new : TypeNumbers) : Type 0 where
  pub knows : KnowsTypes new
  pub kept : (k : TypeKey) (n : ℕ) → type_number old k ≡ Some n → type_number new k ≡ Some n
  pub there : (n : ℕ) × (type_number new key ≡ Some n)

pub record EntersName (name : ℕ) (old new : NameNumbers) : Type 0 where
  pub knows : KnowsNames new
  pub kept : (x n : ℕ) → name_number old x ≡ Some n → name_number new x ≡ Some n
  pub there : (n : ℕ) × (name_number new name ≡ Some n)

-- each of some types has a place
abbrev pub HasAll : List TypeName → TypeNumbers → Type 0
HasAll ps t = (p : TypeName) → IsAmong p ps → (n : ℕ) × (type_number t (key_of p) ≡ Some n)

-- Each of some types has a place now, and each that had one has it still.
pub record EntersAliases (ps : List TypeName) (old new : TypeNumbers) : Type 0 where
  pub knows : KnowsTypes new
  pub kept : (k : TypeKey) (n : ℕ) → type_number old k ≡ Some n → type_number new k ≡ Some n
  pub there : HasAll ps new

-- the alias that a declaration of a module declares
abbrev pub alias_of : ℕ → Decl → List TypeName
alias_of owner (TypeAlias place i type) = (owner, i.name) ∷ []
alias_of owner other = []

-- the aliases of the first modules have places
pub record HasAliases (s : System) (count : ℕ) (t : TypeNumbers) : Type 0 where
  pub knows : KnowsTypes t
  pub there : (home : ℕ) → home < count → HasAll (names_in (module_in s.modules home)) t

-- the names of the first modules have places
pub record HasModules (s : System) (count : ℕ) (t : NameNumbers) : Type 0 where
  pub knows : KnowsNames t
  pub there : (home : ℕ) → home < count → (n : ℕ) × (name_number t (module_in s.modules home).name ≡ Some n)

abbrev pub listed : Option ℕ → List ℕ
listed None = []
listed (Some n) = n ∷ []

-- the places of those of some types that have one, and of names
unfoldable pub type_places : TypeNumbers → List TypeName → List ℕ
type_places t ps = flat_map (λ p. listed (type_number t (key_of p))) ps

unfoldable pub name_places : NameNumbers → List ℕ → List ℕ
name_places t xs = flat_map (λ x. listed (name_number t x)) xs

-- the module of the instance that a declaration declares
abbrev pub instance_name : Decl → List ℕ
instance_name (Instance place i m bindings) = m.name ∷ []
instance_name other = []

abbrev pub instance_names : List Decl → List ℕ
instance_names ds = flat_map instance_name ds

-- the type that an alias writes
abbrev pub alias_written : TypeEntry → Option TypeExpr
alias_written (Alias type) = Some type
alias_written other = None

abbrev pub flag_at : List Bool → Option ℕ → Bool
flag_at flags None = false
flag_at flags (Some n) = slice_index_or flags n false

abbrev pub is_alias_flagged : DesignCycles → TypeName → Bool
is_alias_flagged c p = flag_at c.alias_flags (type_number c.aliases (key_of p))

abbrev pub is_name_flagged : DesignCycles → ℕ → Bool
is_name_flagged c x = flag_at c.module_flags (name_number c.modules x)

-- Exactly those are flagged that lie on a cycle.
pub record KnowsCycles (s : System) (c : DesignCycles) : Type 0 where
  pub aliases : (p : TypeName) → is_alias_flagged c p ≡ on_alias_cycle s p
  pub modules : (x : ℕ) → is_name_flagged c x ≡ on_instance_cycle s x
