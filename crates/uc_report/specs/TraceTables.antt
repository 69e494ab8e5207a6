-- What the tables hold that counterexamples are written with.
use Rattle.std.specs.Prelude.{◌≡◌, ℕ, ◌<◌, Bool, ◌&&◌, nat_eq, if◌then◌else◌, List, [], map, length, get_or, Option, Some, None, All}
use Rattle.std.specs.Option.{option_map}
use Rattle.std.specs.List.{position_from}
use Rattle.uc_syntax.specs.WrittenTypes.{labels_of}
use Rattle.uc_flat.specs.declared.flat.Cell.{Cell as FlatCell}
use Rattle.uc_flat.specs.declared.flat.Constant.{Constant}
use Rattle.uc_meaning.specs.Lookup.{System, main_module}
use Rattle.uc_meaning.specs.Cells.{Cell, ConstantParts, cells_of, constants_of, same_path}
use Rattle.uc_meaning.specs.Types.{opaque_types_of}
use Rattle.uc_report.specs.Described.{described}
use Rattle.uc_report.specs.HeadsTables.{AreHeadTables}
use Rattle.uc_report.specs.declared.shown.ShownDesign.{ShownDesign}
use Rattle.uc_report.specs.declared.trace_tables.CexTables.{CexTables}

-- a cell without its kind
abbrev pub listed : Cell → FlatCell
listed c = record { path = c.path; name = c.name; ty = c.type }

-- a constant without its module
abbrev pub without_module : ConstantParts → Constant
without_module c = record { name = c.symbol.name; ty = c.type }

-- the name of main
abbrev pub name_of_main : System → Option ℕ
name_of_main d = option_map (λ m. m.name) (main_module d)

-- the constants in their order, of which main declares all
pub record AreConstants (d : System) (constants : List Constant) : Type 0 where
  pub all : constants ≡ map without_module (constants_of d)
  pub mains : All (λ c. name_of_main d ≡ Some c.symbol.module_name) (constants_of d)

-- the labels of every enum in the order of their numbers, and the constants and the cells of a state in theirs
pub record IsShown (d : ShownDesign) : Type 0 where
  pub labels : d.labels.now ≡ labels_of d.view.modules.now
  pub constants : AreConstants (described d.view) d.constants.now
  pub cells : d.cells.now ≡ map listed (cells_of (described d.view))

-- the cell of a name at a path, by its place
abbrev pub place_among : List FlatCell → List ℕ → ℕ → Option ℕ
place_among cells path x = position_from (λ c. same_path c.path path && nat_eq c.name x) 0 cells

-- a cell of main of that name
abbrev pub is_mains : ℕ → FlatCell → Bool
is_mains x c = same_path c.path [] && nat_eq c.name x

-- for each name the place of the first cell of main, as far as the list goes
abbrev pub ArePlaces : List FlatCell → List (Option ℕ) → Type 0
ArePlaces cells places = (x : ℕ) → x < length places → get_or places x None ≡ place_among cells [] x

-- no name has a place
abbrev pub AreNone : List (Option ℕ) → Type 0
AreNone places = (x : ℕ) → x < length places → get_or places x None ≡ None

-- the places with that of a cell, which goes before the others of its name
abbrev pub IsEntered : ℕ → FlatCell → List (Option ℕ) → List (Option ℕ) → Type 0
IsEntered place c before after = (length after ≡ length before) × ((x : ℕ) → x < length after → get_or after x None ≡ (if is_mains x c then Some place else get_or before x None))

-- the labels of every enum of a design and its types without a definition, both in the order of their numbers, its constants and its cells, and where those of main stand
pub record AreCexTables (d : System) (tables : CexTables) : Type 0 where
  pub heads : AreHeadTables d tables.heads
  pub labels : tables.labels.now ≡ labels_of d.modules
  pub opaque_types : tables.opaque_types.items ≡ opaque_types_of d
  pub constants : AreConstants d tables.constants.now
  pub cells : tables.cells.now ≡ map listed (cells_of d)
  pub places : ArePlaces tables.cells.now tables.places.items
