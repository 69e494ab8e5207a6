-- The names that stand at places of code: the label of an `assert`, and the procedure of a `call`.
use Rattle.std.specs.Prelude.{ℕ, List, [], ◌∷◌, ◌++◌, Option, Some, None}
use Rattle.std.specs.Option.{option_map}
use Rattle.std.specs.List.{find, flat_map}
use Rattle.uc_lexer.specs.declared.place.Place.{Place}
use Rattle.uc_syntax.specs.declared.place.Identifier.{Identifier}
use Rattle.uc_syntax.specs.declared.statement.Arm.{Arm}
use Rattle.uc_syntax.specs.declared.statement.Stmt.{Stmt}
use Rattle.uc_syntax.specs.declared.statement.Stmt.TheOpen.{Stmt-F}
use Rattle.uc_syntax.specs.declared.statement.Stmt.TheOpen.Stmt-F.{Block, Assert, If, Case, For, Call}
use Rattle.uc_syntax.specs.declared.statement.Stmt.TheFolds.{fold-Stmt}
use Rattle.uc_syntax.specs.declared.declaration.Decl.{Decl}
use Rattle.uc_syntax.specs.declared.declaration.Decl.TheVariants.{Init, Next, Procedure}
use Rattle.uc_meaning.specs.Lookup.{System, same_place}
use Rattle.uc_meaning.specs.Cells.{as_list}

-- The place of a word `assert` or `call`, and the name that it gives.
abbrev pub Named : Type 0
Named = Place × ℕ

abbrev pub joined : List (List Named) → List Named
joined parts = flat_map (λ p. p) parts

abbrev pub arms_named : List (Arm (List Named)) → List Named
arms_named arms = flat_map (λ a. joined a.body) arms

abbrev pub label_named : Place → Option Identifier → List Named
label_named place None = []
label_named place (Some label) = (place, label.name) ∷ []

abbrev pub named_form : Stmt-F (List Named) → List Named
named_form (Assert place label e) = label_named place label
named_form (Call place targets f arguments) = (place, f.name) ∷ []
named_form (Block place block) = joined block
named_form (If place arms otherwise) = arms_named arms ++ flat_map joined (as_list otherwise)
named_form (Case place arms otherwise) = arms_named arms ++ flat_map joined (as_list otherwise)
named_form (For place x type from to block) = joined block
named_form other = []

-- the names in a statement, with the statements inside it
unfoldable pub named_in : Stmt → List Named
named_in s = fold-Stmt (List Named) named_form s

abbrev pub named_in_block : List Stmt → List Named
named_in_block block = flat_map named_in block

abbrev pub named_in_arms : List (Arm Stmt) → List Named
named_in_arms arms = flat_map (λ a. named_in_block a.body) arms

-- a block that may be missing
abbrev pub named_in_else : Option (List Stmt) → List Named
named_in_else None = []
named_in_else (Some block) = named_in_block block

abbrev pub named_in_decl : Decl → List Named
named_in_decl (Init place block) = named_in_block block
named_in_decl (Next place block) = named_in_block block
named_in_decl (Procedure place p) = named_in_block p.body
named_in_decl other = []

-- the names in the code of all modules
unfoldable pub named_places : System → List Named
named_places system = flat_map (λ m. flat_map named_in_decl m.decls) system.modules

-- the name at a place
abbrev pub name_in : List Named → Place → Option ℕ
name_in named place = option_map (λ n. n.1) (find (λ n. same_place n.0 place) named)
