-- The constants and the functions that are listed, by the names of the modules in use.
use Rattle.std.specs.Prelude.{ℕ, nat_eq, if◌then◌else◌, List, [], ◌∷◌}
use Rattle.std.specs.List.{flat_map, list_any}
use Rattle.uc_syntax.specs.declared.place.Identifier.{Identifier}
use Rattle.uc_syntax.specs.declared.declaration.VariableKind.TheVariants.{Constant as ConstantKind}
use Rattle.uc_syntax.specs.declared.declaration.Decl.{Decl}
use Rattle.uc_syntax.specs.declared.declaration.Decl.TheVariants.{Variables, Function as FunctionDecl}
use Rattle.uc_syntax.specs.declared.declaration.Module.{Module}
use Rattle.uc_meaning.specs.Cells.{Symbol}
use Rattle.uc_layout.specs.declared.symbols.SymbolName.{SymbolName}
use Rattle.uc_layout.specs.declared.symbols.SymbolKind.{SymbolKind}
use Rattle.uc_layout.specs.declared.symbols.SymbolKind.TheVariants.{Constant, Function}

abbrev pub symbol_meant : SymbolName → Symbol
symbol_meant s = record { module_name = s.module_name; name = s.name }

abbrev pub symbol_name : Symbol → SymbolName
symbol_name s = record { module_name = s.module_name; name = s.name }

abbrev pub symbol_of_name : ℕ → Identifier → List SymbolName
symbol_of_name m i = record { module_name = m; name = i.name } ∷ []

abbrev pub constants_named : Decl → List Identifier
constants_named (Variables place ConstantKind names type) = names
constants_named other = []

abbrev pub functions_named : Decl → List Identifier
functions_named (FunctionDecl place i parameters type) = i ∷ []
functions_named other = []

abbrev pub symbols_in : SymbolKind → ℕ → Decl → List SymbolName
symbols_in Constant m d = flat_map (symbol_of_name m) (constants_named d)
symbols_in Function m d = flat_map (symbol_of_name m) (functions_named d)

-- those of a module, where it is in use
abbrev pub symbols_at : SymbolKind → List ℕ → Module → List SymbolName
symbols_at kind codes m = if list_any (λ c. nat_eq c m.name) codes then flat_map (symbols_in kind m.name) m.decls else []

abbrev pub symbols_listed : SymbolKind → List ℕ → List Module → List SymbolName
symbols_listed kind codes modules = flat_map (symbols_at kind codes) modules
