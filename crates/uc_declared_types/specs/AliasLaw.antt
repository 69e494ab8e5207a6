-- The aliases of a design, and what they stand for.
use Rattle.std.specs.Prelude.{◌≡◌, ◌⊎◌, List, [], ◌∷◌}
use Rattle.std.specs.List.{flat_map}
use Rattle.uc_syntax.specs.declared.type_expression.TypeExpr.{TypeExpr}
use Rattle.uc_syntax.specs.declared.declaration.Decl.{Decl}
use Rattle.uc_syntax.specs.declared.declaration.Decl.TheVariants.{TypeAlias}
use Rattle.uc_syntax.specs.declared.declaration.Module.{Module}
use Rattle.uc_meaning.specs.Lookup.{System}
use Rattle.uc_rules.specs.Types.{type_through, type_of, longest_alias}

-- the alias that a declaration declares, with its module
abbrev pub alias_in : Module → Decl → List (Module × TypeExpr)
alias_in m (TypeAlias place i type) = (m, type) ∷ []
alias_in m other = []

abbrev pub aliases_of_module : Module → List (Module × TypeExpr)
aliases_of_module m = flat_map (alias_in m) m.decls

-- the aliases that a design declares
abbrev pub aliases_of : System → List (Module × TypeExpr)
aliases_of system = flat_map aliases_of_module system.modules

-- one of a list
unfoldable pub IsAmong : {A : Type 0} → A → List A → Type 0
IsAmong x [] = ⊥
IsAmong x (y ∷ ys) = (x ≡ y) ⊎ IsAmong x ys

-- An alias stands for what its written type stands for, whose own aliases are read to the end.
abbrev pub AliasesAreRead : Type 0
AliasesAreRead = (system : System) (m : Module) (type : TypeExpr) → IsAmong (m, type) (aliases_of system) → type_through (longest_alias system) system m type ≡ type_of system m type
