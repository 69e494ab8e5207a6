-- What code does where each free value is read in one list, by number.
use Rattle.std.specs.Prelude.{ℕ, ◌+◌, Bool, not, ◌&&◌, if◌then◌else◌, List, [], ◌∷◌, ◌++◌, map, slice_get, slice_set}
use Rattle.uc_values.specs.declared.ty.Ty.{Ty}
use Rattle.uc_values.specs.declared.value.Value.{Value}
use Rattle.uc_ops.specs.declared.model.Model.{Model}
use Rattle.uc_ops.specs.Typing.{part_type}
use Rattle.uc_ops.specs.Meaning.{fitting}
use Rattle.uc_flat.specs.declared.expression.Expression.{Expression}
use Rattle.uc_flat.specs.declared.statement.Statement.{Statement}
use Rattle.uc_flat.specs.declared.statement.Statement.TheOpen.{Statement-F}
use Rattle.uc_flat.specs.declared.statement.Statement.TheOpen.Statement-F.{Assign, Havoc, Assume, Assert, If}
use Rattle.uc_flat.specs.declared.statement.Statement.TheFolds.{fold-Statement}
use Rattle.uc_flat.specs.Reading.{value_of, is_true}

-- Where code is: the values of the cells, whether all assumptions held, whether the code is taken, the choices that were taken, the sites of the assertions that were false where they were taken, each in order, and the number of the next free value.
pub record Drawn : Type 0 where
  pub cells : List Value
  pub goes : Bool
  pub taken : Bool
  pub chosen : List Value
  pub sites : List ℕ
  pub next : ℕ

-- the free value of a number, which fits the type
abbrev pub free : List Value → Ty → ℕ → Value
free frees ty n = fitting ty (slice_get frees n)

abbrev pub either : {A : Type 0} → Bool → A → A → A
either c x y = if c then x else y

abbrev pub listed_if : {A : Type 0} → Bool → A → List A
listed_if b x = if b then x ∷ [] else []

unfoldable pub in_order : List (Drawn → Drawn) → Drawn → Drawn
in_order [] r = r
in_order (x ∷ xs) r = in_order xs (x r)

-- A cell takes the value of an expression. Code that is not taken does so too: what it leaves in the cells is dropped behind the conditional.
abbrev pub assigns : Model → List Ty → ℕ → Expression → Drawn → Drawn
assigns m types k e r = record { cells = slice_set r.cells k (value_of m types r.cells e); goes = r.goes; taken = r.taken; chosen = r.chosen; sites = r.sites; next = r.next }

-- A cell takes the next free value, which code that is not taken uses up too. It is a choice only where the code is taken and the havoc lists it.
abbrev pub takes : Bool → Value → ℕ → Drawn → Drawn
takes listed v k r = record { cells = slice_set r.cells k v; goes = r.goes; taken = r.taken; chosen = r.chosen ++ listed_if (r.taken && listed) v; sites = r.sites; next = r.next + 1 }

-- the run goes on only where what is assumed is true
abbrev pub assumes : Model → List Ty → Expression → Drawn → Drawn
assumes m types e r = record { cells = r.cells; goes = r.goes && is_true m types r.cells e; taken = r.taken; chosen = r.chosen; sites = r.sites; next = r.next }

-- the site is listed where the code is taken and what is asserted is false; the run goes on all the same
abbrev pub asserts : Model → List Ty → ℕ → Expression → Drawn → Drawn
asserts m types site e r = record { cells = r.cells; goes = r.goes; taken = r.taken; chosen = r.chosen; sites = r.sites ++ listed_if (r.taken && not (is_true m types r.cells e)) site; next = r.next }

-- Both arms of a conditional are run, the second with the free values after those of the first, and what the taken one gives is kept.
abbrev pub arm : Bool → Drawn → Drawn
arm c r = record { cells = r.cells; goes = r.goes; taken = r.taken && c; chosen = r.chosen; sites = r.sites; next = r.next }

abbrev pub other_arm : Bool → Drawn → Drawn → Drawn
other_arm c r first = record { cells = r.cells; goes = r.goes; taken = r.taken && not c; chosen = first.chosen; sites = first.sites; next = first.next }

abbrev pub joined : Bool → Drawn → Drawn → Drawn → Drawn
joined c r first second = record { cells = either c first.cells second.cells; goes = either c first.goes second.goes; taken = r.taken; chosen = second.chosen; sites = second.sites; next = second.next }

abbrev pub either_arm : Bool → (Drawn → Drawn) → (Drawn → Drawn) → Drawn → Drawn
either_arm c then_code else_code r = joined c r (then_code (arm c r)) (else_code (other_arm c r (then_code (arm c r))))

abbrev pub go_form : Model → List Ty → List Value → Statement-F (Drawn → Drawn) → Drawn → Drawn
go_form m types frees (Assign k e) r = assigns m types k e r
go_form m types frees (Havoc k listed) r = takes listed (free frees (part_type types k) r.next) k r
go_form m types frees (Assume e) r = assumes m types e r
go_form m types frees (Assert site e) r = asserts m types site e r
go_form m types frees (If e xs ys) r = either_arm (is_true m types r.cells e) (in_order xs) (in_order ys) r

unfoldable pub go : Model → List Ty → List Value → Statement → Drawn → Drawn
go m types frees = fold-Statement (Drawn → Drawn) (go_form m types frees)

-- Where code leads. Constants and functions are those of the model, the cells have these types, and the free values are these.
unfoldable pub drawn : Model → List Ty → List Value → List Statement → Drawn → Drawn
drawn m types frees code = in_order (map (go m types frees) code)
