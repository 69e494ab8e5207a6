-- What is known of the types of aliases.
use Rattle.std.specs.Prelude.{◌≡◌, ◌⊎◌, ◌&&◌, ◌<◌, ℕ, Bool, true, nat_eq, List, ◌++◌, ◌∷◌, [], map, cond, slice_get, Option, Some, None}
use Rattle.std.specs.Option.{is_some}
use Rattle.indexmap.specs.IndexMap.{get}
use Rattle.uc_syntax.specs.declared.type_expression.Parameter.{Parameter}
use Rattle.uc_syntax.specs.declared.type_expression.TypeExpr.{TypeExpr}
use Rattle.uc_values.specs.declared.ty.Ty.{Ty}
use Rattle.uc_values.specs.declared.ty.Field.{Field}
use Rattle.uc_meaning.specs.Lookup.{System}
use Rattle.uc_meaning.specs.Types.{TypeEntry, Alias}
use Rattle.uc_rules.specs.Types.{Aliases, found_by, known_fields, longest_alias, type_through}
use Rattle.uc_syntax.specs.declared.declaration.Decl.{Decl}
use Rattle.uc_syntax.specs.declared.declaration.Decl.TheVariants.{TypeAlias}
use Rattle.uc_syntax.specs.declared.declaration.Module.{Module}
use Rattle.uc_declared_types.specs.AliasLaw.{IsAmong}
use Rattle.uc_names.specs.contracts.senses.DeclaredTypePartialEq.TheImpl.{eq-value}
use Rattle.uc_names.specs.declared.senses.DeclaredType.{DeclaredType}
use Rattle.uc_names.specs.Senses.{entry_at, module_in}
use Rattle.uc_declared_types.specs.declared.aliases.AliasTypes.{AliasTypes}

-- what a table knows of a declared type
abbrev pub type_at : AliasTypes → DeclaredType → Option Ty
type_at table d = get eq-value.it table.types d

abbrev pub same_declared : DeclaredType → DeclaredType → Bool
same_declared d e = nat_eq d.home e.home && nat_eq d.declaration e.declaration

-- what is known of a type where that of a declared one is entered
abbrev pub with_type : DeclaredType → Ty → DeclaredType → Option Ty → Option Ty
with_type declared type d known = cond (same_declared declared d) (Some type) known

-- what a declared type says in its module
abbrev pub entry_of : System → DeclaredType → TypeEntry
entry_of s d = entry_at (slice_get (module_in s.modules d.home).decls d.declaration)

-- How much one knows against another one: at most as much, at least as much, or the same.
pub data Side : Type 0 where
  Below : Side
  Above : Side
  Same : Side

-- what the first knows the second knows to be the same
abbrev pub Follows : {A : Type 0} → Option A → Option A → Type 0
Follows {A} o p = (x : A) → o ≡ Some x → p ≡ Some x

unfoldable pub Related : {A : Type 0} → Side → Option A → Option A → Type 0
Related Below o p = Follows o p
Related Above o p = Follows p o
Related Same o p = o ≡ p

-- what a table knows of the aliases of a design against a reading of aliases
unfoldable pub Agrees : Side → System → AliasTypes → Aliases → Type 0
Agrees side s table alias = (d : DeclaredType) (type : TypeExpr) → entry_of s d ≡ Alias type → Related side (type_at table d) (alias (module_in s.modules d.home) type)

-- how the aliases of a design are read to their end
abbrev pub read_to_end : System → Aliases
read_to_end s = type_through (longest_alias s) s

-- A table knows of each alias of a design what it stands for.
abbrev pub KnowsAliases : System → AliasTypes → Type 0
KnowsAliases s table = Agrees Same s table (read_to_end s)

-- what a table knows of an alias is known
abbrev pub IsSettled : System → AliasTypes → DeclaredType → Type 0
IsSettled s table d = (type : TypeExpr) → entry_of s d ≡ Alias type → is_some (type_at table d) ≡ true

-- an alias has no type where no more than a table knows is known of the others
unfoldable pub IsStuck : System → AliasTypes → DeclaredType → Type 0
IsStuck s table d = (alias : Aliases) (type : TypeExpr) → Agrees Above s table alias → entry_of s d ≡ Alias type → (found_by s alias (module_in s.modules d.home) type).type ≡ None

-- a record's fields with one more, where all are known
abbrev pub with_field_at_end : Option (List (Field Ty)) → ℕ → Option Ty → Option (List (Field Ty))
with_field_at_end (Some fields) name (Some t) = Some (fields ++ record { name = name; ty = t } ∷ [])
with_field_at_end fields name t = None

-- the fields of a record, by what is found of their types
abbrev pub fields_found : System → Aliases → Module → List (Parameter TypeExpr) → Option (List (Field Ty))
fields_found s alias m ps = known_fields (map (λ p. record { identifier = p.identifier; ty = found_by s alias m p.ty }) ps)

-- the type that an alias writes
abbrev pub alias_written : TypeEntry → Option TypeExpr
alias_written (Alias type) = Some type
alias_written other = None

-- what was among some still is
abbrev pub IsKept : List DeclaredType → List DeclaredType → Type 0
IsKept ds es = (d : DeclaredType) → IsAmong d ds → IsAmong d es

unfoldable pub IsAliasDeclaration : Decl → Type 0
IsAliasDeclaration (TypeAlias place i type) = Unit {0}
IsAliasDeclaration other = ⊥

-- the aliases of the module at a place are among some
abbrev pub HasAlias : System → ℕ → List DeclaredType → Type 0
HasAlias s home ds = (declaration : ℕ) (type : TypeExpr) → entry_of s (record { home = home; declaration = declaration }) ≡ Alias type → IsAmong (record { home = home; declaration = declaration }) ds

-- the aliases of the first modules are among some
unfoldable pub HasAliases : System → ℕ → List DeclaredType → Type 0
HasAliases s count ds = (home : ℕ) → home < count → HasAlias s home ds

-- what is known stays known
abbrev pub KeepsKnown : AliasTypes → AliasTypes → Type 0
KeepsKnown old new = (d : DeclaredType) → is_some (type_at old d) ≡ true → is_some (type_at new d) ≡ true

-- An alias is known now, or it has no type by what is known, which stays as it is, and it is kept for later.
abbrev pub IsTaken : System → DeclaredType → AliasTypes → AliasTypes → List DeclaredType → List DeclaredType → Type 0
IsTaken s d old new rest more = (IsSettled s new d × (more ≡ rest)) ⊎ ((new ≡ old) × (IsStuck s old d × (more ≡ rest ++ d ∷ [])))
