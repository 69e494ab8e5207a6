-- The types without a definition that a design declares.
use Rattle.std.specs.Prelude.{ℕ, List}
use Rattle.std.specs.List.{flat_map}
use Rattle.uc_syntax.specs.declared.declaration.Decl.{Decl}
use Rattle.uc_syntax.specs.declared.declaration.Module.{Module}
use Rattle.uc_meaning.specs.Types.{opaque_in}
use Rattle.uc_meaning.specs.Cells.{as_list}

-- the type without a definition that a declaration declares, by module and name
abbrev pub opaque_at : ℕ → Decl → List (ℕ × ℕ)
opaque_at m d = as_list (opaque_in m d)

abbrev pub opaques_in : Module → List (ℕ × ℕ)
opaques_in m = flat_map (opaque_at m.name) m.decls
