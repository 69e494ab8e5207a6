-- The names that the parts of a module give.
use Rattle.std.specs.Prelude.{List, [], ◌++◌, map}
use Rattle.std.specs.List.{flat_map}
use Rattle.std.specs.Borrow.{Bor}
use Rattle.uc_lexer.specs.declared.place.Place.{Place}
use Rattle.uc_syntax.specs.declared.type_expression.TypeExpr.{TypeExpr}
use Rattle.uc_syntax.specs.declared.declaration.Decl.{Decl}
use Rattle.uc_syntax.specs.declared.declaration.Decl.TheVariants.{TypeImport, Variables}
use Rattle.uc_syntax.specs.declared.declaration.Module.{Module}
use Rattle.uc_syntax.specs.WrittenTypes.{types_in}
use Rattle.uc_meaning.specs.Lookup.{System}
use Rattle.uc_meaning.specs.Types.{enum_number}
use Rattle.uc_rules.specs.Names.{Entry as Meant, labels_from, labels_in, name_at, names_of}
use Rattle.uc_type_names.specs.declared.enums.WrittenEnum.{WrittenEnum}

-- the labels of an enum as they are brought in at a place
abbrev pub labels_of_enum : System → Place → WrittenEnum → List Meant
labels_of_enum system at e = labels_from (enum_number system e.place) 0 (map (λ l. name_at at l.name) e.labels.now)

-- the labels of some types
abbrev pub labels_by_types : System → List (Bor TypeExpr) → List Meant
labels_by_types system ts = flat_map (λ t. labels_in system t.now) ts

-- the names of a declaration, and the labels of the types that it writes
abbrev pub names_by : System → Module → Decl → List Meant
names_by system m d = names_of system m d ++ flat_map (labels_in system) (types_in d)

-- the name that a declaration has, but for those of variables and those that are brought in
abbrev pub own_names : System → Module → Decl → List Meant
own_names system m (TypeImport place n) = []
own_names system m (Variables place kind is type) = []
own_names system m other = names_of system m other
