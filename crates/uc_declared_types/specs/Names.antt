-- The names of the aliases that a design declares.
use Rattle.std.specs.Prelude.{List, [], ◌∷◌}
use Rattle.std.specs.List.{flat_map}
use Rattle.uc_syntax.specs.declared.declaration.Decl.{Decl}
use Rattle.uc_syntax.specs.declared.declaration.Decl.TheVariants.{TypeAlias}
use Rattle.uc_syntax.specs.declared.declaration.Module.{Module}
use Rattle.uc_meaning.specs.Lookup.{System}
use Rattle.uc_rules.specs.Cycles.{TypeName}

abbrev pub alias_name : Module → Decl → List TypeName
alias_name m (TypeAlias place i type) = (m.name, i.name) ∷ []
alias_name m other = []

abbrev pub names_in : Module → List TypeName
names_in m = flat_map (alias_name m) m.decls

abbrev pub alias_names : System → List TypeName
alias_names system = flat_map names_in system.modules
