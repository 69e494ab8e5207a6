-- The types that a module itself declares.
use Rattle.std.specs.Prelude.{ℕ, Bool, false, nat_eq, Option, Some, None}
use Rattle.uc_syntax.specs.declared.declaration.Decl.{Decl}
use Rattle.uc_syntax.specs.declared.declaration.Decl.TheVariants.{OpaqueType, TypeAlias}

-- the name of the type that a declaration declares
abbrev pub name_of_type : Decl → Option ℕ
name_of_type (TypeAlias place i type) = Some i.name
name_of_type (OpaqueType place i) = Some i.name
name_of_type other = None

abbrev pub is_name : ℕ → Option ℕ → Bool
is_name x None = false
is_name x (Some n) = nat_eq n x
