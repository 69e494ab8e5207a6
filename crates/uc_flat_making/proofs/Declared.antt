-- The cells of a design of one module are those that its module declares.
use Rattle.std.proofs.Common.{◌≡◌, ℕ, ◌+◌, true, false, cond, List, [], ◌∷◌, ◌++◌, map, Some, refl, sym, ap, ◌∙◌}
use Rattle.std.specs.Prelude.{◌&&◌, nat_eq}
use Rattle.std.specs.List.{flat_map, filter, position_from}
use Rattle.std.proofs.lemmas.List.{map-append}
use Rattle.uc_lexer.specs.declared.place.Place.{Place}
use Rattle.uc_syntax.specs.declared.place.Identifier.{Identifier}
use Rattle.uc_syntax.specs.declared.type_expression.TypeExpr.{TypeExpr}
use Rattle.uc_syntax.specs.declared.declaration.Decl.{Decl}
use Rattle.uc_syntax.specs.declared.declaration.Decl.TheVariants.{Variables}
use Rattle.uc_syntax.specs.declared.declaration.VariableKind.{VariableKind}
use Rattle.uc_syntax.specs.declared.declaration.VariableKind.TheVariants.{Variable, Input, Output, Constant}
use Rattle.uc_syntax.specs.declared.declaration.Module.{Module}
use Rattle.uc_values.specs.declared.ty.Ty.{Ty}
use Rattle.uc_meaning.specs.Lookup.{System}
use Rattle.uc_meaning.specs.Types.{type_of_written}
use Rattle.uc_meaning.specs.Cells.{same_path, main_instance, Cell, cells_in, cells_of, cell_of}
use Rattle.uc_flat_design.specs.Names.{StandsAlone, types_of}
use Rattle.uc_flat_design.proofs.Cells.{alone_cells}
use Rattle.uc_flat_making.specs.declared.cells.OwnCell.{OwnCell}
use Rattle.uc_flat_making.specs.Cells.{cell_of_name, declared_cells, own_cells}

-- a cell of main as one of the design
abbrev pub full : OwnCell → Cell
full c = record { path = []; name = c.name; kind = c.kind; type = c.ty }

all_kept : (ids : List Identifier) → filter (λ (i : Identifier). true) ids ≡ ids
all_kept [] = refl
all_kept (i ∷ ids) = ap (λ js. i ∷ js) (all_kept ids)

none_kept : (ids : List Identifier) → filter (λ (i : Identifier). false) ids ≡ []
none_kept [] = refl
none_kept (i ∷ ids) = none_kept ids

abbrev made : VariableKind → Ty → Identifier → Cell
made kind ty i = record { path = []; name = i.name; kind = kind; type = ty }

made_full : (kind : VariableKind) (ty : Ty) (ids : List Identifier) → map (made kind ty) ids ≡ map full (flat_map (cell_of_name kind ty) ids)
made_full kind ty [] = refl
made_full kind ty (i ∷ ids) = ap (λ cs. made kind ty i ∷ cs) (made_full kind ty ids)

by_kind : (system : System) (code : Module) (place : Place) (kind : VariableKind) (ids : List Identifier) (type : TypeExpr)
    → cells_in system (main_instance code) (Variables place kind ids type) ≡ map full (declared_cells system code (Variables place kind ids type))
by_kind system code place Variable ids type = let ty = type_of_written system code type in ap (map (made Variable ty)) (all_kept ids) ∙ made_full Variable ty ids
by_kind system code place Input ids type = let ty = type_of_written system code type in ap (map (made Input ty)) (all_kept ids) ∙ made_full Input ty ids
by_kind system code place Output ids type = let ty = type_of_written system code type in ap (map (made Output ty)) (all_kept ids) ∙ made_full Output ty ids
by_kind system code place Constant ids type = ap (map (made Constant (type_of_written system code type))) (none_kept ids)

declared_full : (system : System) (code : Module) (d : Decl) → cells_in system (main_instance code) d ≡ map full (declared_cells system code d)
declared_full system code (Variables place kind ids type) = by_kind system code place kind ids type
declared_full system code other = refl

all_full : (system : System) (code : Module) (ds : List Decl) → flat_map (cells_in system (main_instance code)) ds ≡ map full (flat_map (declared_cells system code) ds)
all_full system code [] = refl
all_full system code (d ∷ ds) =
    ap (λ cs. cs ++ flat_map (cells_in system (main_instance code)) ds) (declared_full system code d)
    ∙ ap (λ cs. map full (declared_cells system code d) ++ cs) (all_full system code ds)
    ∙ sym (map-append full (declared_cells system code d) (flat_map (declared_cells system code) ds))

pub cells_full : (system : System) (code : Module) → StandsAlone system code → cells_of system ≡ map full (own_cells system code)
cells_full system code a = alone_cells system code a ∙ all_full system code code.decls

types_full : (cells : List OwnCell) → map (λ (c : Cell). c.type) (map full cells) ≡ map (λ (c : OwnCell). c.ty) cells
types_full [] = refl
types_full (c ∷ cells) = ap (λ ts. c.ty ∷ ts) (types_full cells)

-- the types of the cells
pub types_are : (system : System) (code : Module) → StandsAlone system code → map (λ (c : OwnCell). c.ty) (own_cells system code) ≡ types_of system
types_are system code a = sym (ap (map (λ (c : Cell). c.type)) (cells_full system code a) ∙ types_full (own_cells system code))

place_full : (x k : ℕ) (cells : List OwnCell) → position_from (λ (c : Cell). same_path c.path [] && nat_eq c.name x) k (map full cells) ≡ position_from (λ (c : OwnCell). nat_eq c.name x) k cells
unfolding same_path
place_full x k [] = refl
place_full x k (c ∷ cells) = ap (λ o. cond (nat_eq c.name x) (Some k) o) (place_full x (k + 1) cells)

-- the number of a name's cell
pub place_is : (system : System) (code : Module) (x : ℕ) → StandsAlone system code → position_from (λ (c : OwnCell). nat_eq c.name x) 0 (own_cells system code) ≡ cell_of system [] x
unfolding cell_of
place_is system code x a = sym (ap (position_from (λ (c : Cell). same_path c.path [] && nat_eq c.name x) 0) (cells_full system code a) ∙ place_full x 0 (own_cells system code))
