-- What an array holds at an index, and what it becomes by a store.
use Rattle.std.specs.Prelude.{Bool, true, false, if◌then◌else◌, List, [], ◌∷◌}
use Rattle.uc_values.specs.Values.{Form, Exception, same_scalar}
use Rattle.uc_values.specs.declared.value.Value.{Value}
use Rattle.uc_values.specs.declared.value.Value.TheVariants.{Arr}
use Rattle.uc_values.specs.declared.value.Value.TheViews.{out-Value}
use Rattle.uc_values.specs.declared.value.Value.TheOpen.Value-F.{Arr as array}

-- the element that is listed at an index, else the default
abbrev pub element_at : Value → List Exception → Value → Value
element_at default [] i = default
element_at default (row ∷ rows) i = if same_scalar row.0 i then row.1 else element_at default rows i

-- what an array holds at an index; any other value holds itself
abbrev pub at_form : Value → Form → Value → Value
at_form a (array default rows) i = element_at default rows i
at_form a other i = a

abbrev pub at : Value → Value → Value
at a i = at_form a (out-Value a) i

-- the exceptions with x in place of the element at i, or after the last where i is not listed
abbrev pub stored : List Exception → Value → Value → List Exception
stored [] i x = (i, x) ∷ []
stored (row ∷ rows) i x = if same_scalar row.0 i then (row.0, x) ∷ rows else row ∷ stored rows i x

-- an array with the element at an index changed; any other value stays
abbrev pub store_form : Value → Form → Value → Value → Value
store_form a (array default rows) i x = Arr default (stored rows i x)
store_form a other i x = a

abbrev pub store : Value → Value → Value → Value
store a i x = store_form a (out-Value a) i x

-- what is left to store where the index may have been found
abbrev pub stored_from : Bool → List Exception → Value → Value → List Exception
stored_from true rows i x = rows
stored_from false rows i x = stored rows i x
