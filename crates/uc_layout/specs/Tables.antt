-- What a layout keeps.
use Rattle.std.specs.Prelude.{◌≡◌, List, map}
use Rattle.uc_meaning.specs.Lookup.{System}
use Rattle.uc_meaning.specs.Cells.{cells_of, constants_of, functions_of}
use Rattle.uc_layout.specs.declared.layout_cells.CellName.{CellName}
use Rattle.uc_layout.specs.declared.symbols.SymbolName.{SymbolName}
use Rattle.uc_layout.specs.Listing.{cell_name}
use Rattle.uc_layout.specs.Symbols.{symbol_name}

-- The lists are the cells, the constants and the functions of the design, in their order.
pub record AreTables (system : System) (cells : List CellName) (constants functions : List SymbolName) : Type 0 where
  pub cells_listed : cells ≡ map cell_name (cells_of system)
  pub constants_listed : constants ≡ map (λ c. symbol_name c.symbol) (constants_of system)
  pub functions_listed : functions ≡ map (λ f. symbol_name f.symbol) (functions_of system)
