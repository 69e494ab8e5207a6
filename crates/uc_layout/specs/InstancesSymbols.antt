-- The types of the constants and of the functions of a module.
use Rattle.std.specs.Prelude.{nat_eq, if◌then◌else◌, List, [], ◌∷◌, map}
use Rattle.std.specs.List.{flat_map, list_any}
use Rattle.uc_syntax.specs.declared.declaration.Decl.{Decl}
use Rattle.uc_syntax.specs.declared.declaration.Module.{Module}
use Rattle.uc_values.specs.declared.ty.Ty.{Ty}
use Rattle.uc_meaning.specs.Lookup.{System}
use Rattle.uc_meaning.specs.Cells.{FunctionParts, constants_in, functions_in}
use Rattle.uc_layout.specs.declared.instance.InstanceRef.{InstanceRef}
use Rattle.uc_layout.specs.declared.instances_symbols.FunctionTypes.{FunctionTypes}

abbrev pub signature_of : FunctionParts → FunctionTypes
signature_of f = record { arguments = f.arguments; result = f.result }

abbrev pub constants_typed : System → Module → Decl → List Ty
constants_typed system m d = map (λ c. c.type) (constants_in system m d)

abbrev pub constants_at : System → Module → List Ty
constants_at system m = flat_map (constants_typed system m) m.decls

abbrev pub functions_typed : System → Module → Decl → List FunctionTypes
functions_typed system m d = map signature_of (functions_in system m d)

abbrev pub functions_at : System → Module → List FunctionTypes
functions_at system m = flat_map (functions_typed system m) m.decls

-- a module, where it is that of some instance
abbrev pub if_used : List InstanceRef → Module → List Module
if_used used m = if list_any (λ i. nat_eq i.code.now.name m.name) used then m ∷ [] else []
