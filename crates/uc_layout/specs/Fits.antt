-- Values that fit types, as tests.
use Rattle.std.specs.Prelude.{Bool, true, false, ◌&&◌, List, [], ◌∷◌, Option, Some, None}
use Rattle.std.specs.List.{list_all}
use Rattle.uc_values.specs.declared.ty.Ty.{Ty}
use Rattle.uc_values.specs.declared.value.Value.{Value}
use Rattle.uc_values.specs.declared.table.Row.{Row}
use Rattle.uc_values.specs.declared.table.Table.{Table}
use Rattle.uc_values.specs.Values.{fits}
use Rattle.uc_layout.specs.declared.instances_symbols.FunctionTypes.{FunctionTypes}

-- there is a value, and it fits
abbrev pub fits_some : Ty → Option Value → Bool
fits_some t None = false
fits_some t (Some v) = fits t v

-- there is one value for each type, and it fits it
unfoldable pub all_fit : List Ty → List Value → Bool
all_fit [] [] = true
all_fit (t ∷ ts) (v ∷ vs) = fits t v && all_fit ts vs
all_fit [] (v ∷ vs) = false
all_fit (t ∷ ts) [] = false

abbrev pub row_fits : FunctionTypes → Row → Bool
row_fits f row = all_fit f.arguments row.arguments && fits f.result row.result

abbrev pub table_fits : FunctionTypes → Table → Bool
table_fits f t = list_all (row_fits f) t.rows && fits f.result t.default

unfoldable pub tables_fit : List FunctionTypes → List Table → Bool
tables_fit [] [] = true
tables_fit (f ∷ fs) (t ∷ ts) = table_fits f t && tables_fit fs ts
tables_fit [] (t ∷ ts) = false
tables_fit (f ∷ fs) [] = false
