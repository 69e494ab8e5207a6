-- Laws of code over free values: which of them it reads, and when it runs on choices.
use Rattle.std.specs.Prelude.{◌≡◌, ℕ, ◌+◌, ◌<◌, ◌≤◌, true, List, ◌++◌, length, slice_get, Some}
use Rattle.uc_values.specs.declared.ty.Ty.{Ty}
use Rattle.uc_values.specs.declared.value.Value.{Value}
use Rattle.uc_ops.specs.declared.model.Model.{Model}
use Rattle.uc_flat.specs.declared.statement.Statement.{Statement}
use Rattle.uc_flat.specs.Reading.{value_of}
use Rattle.uc_flat.specs.Drawn.{Drawn, drawn}
use Rattle.uc_flat.specs.Counts.{all_draws}
use Rattle.uc_flat.specs.Fine.{AreFine, CodeReadsBelow}
use Rattle.uc_flat.specs.Running.{Placed, Execution, run_all}
use Rattle.uc_flat.specs.Order.{Guarded, taken_in_order, Allows, AreOrdered, given}

-- the same place, where the free values are read from the beginning of a list of their own
abbrev pub from_zero : Drawn → Drawn
from_zero r = record { cells = r.cells; goes = r.goes; taken = r.taken; chosen = r.chosen; sites = r.sites; next = 0 }

-- two places are the same but for the number of the next free value
pub record SamePlace (r s : Drawn) : Type 0 where
  pub cells : r.cells ≡ s.cells
  pub goes : r.goes ≡ s.goes
  pub taken : r.taken ≡ s.taken
  pub chosen : r.chosen ≡ s.chosen
  pub sites : r.sites ≡ s.sites

-- What code does on free values of its own it does on them behind the values that were read before.
abbrev pub ExtendsLaw : Type 0
ExtendsLaw =
    (m : Model) (types : List Ty) (code : List Statement) (before frees : List Value) (r : Drawn) → r.next ≡ length before → all_draws code ≤ length frees
    → SamePlace (drawn m types (before ++ frees) code r) (drawn m types frees code (from_zero r))

-- What code did on the free values so far stays when more are added.
abbrev pub KeepsLaw : Type 0
KeepsLaw =
    (m : Model) (types : List Ty) (code : List Statement) (frees more : List Value) (r : Drawn) → r.next + all_draws code ≤ length frees
    → drawn m types (frees ++ more) code r ≡ drawn m types frees code r

-- The number of the next free value grows by a number of the code alone.
abbrev pub CountsLaw : Type 0
CountsLaw = (m : Model) (types : List Ty) (code : List Statement) (frees : List Value) (r : Drawn) → (drawn m types frees code r).next ≡ r.next + all_draws code

-- two models have the same functions, and the same constants below n
pub record AgreeBelow (n : ℕ) (m m' : Model) : Type 0 where
  pub symbols : (k : ℕ) → k < n → slice_get m.symbols k ≡ slice_get m'.symbols k
  pub tables : m.tables ≡ m'.tables

-- Code that reads constants below n does the same under models that agree on these and on the functions.
abbrev pub ConstantsLaw : Type 0
ConstantsLaw =
    (n : ℕ) (m m' : Model) (types : List Ty) (code : List Statement) (frees : List Value) (r : Drawn) → CodeReadsBelow n code → AgreeBelow n m m'
    → drawn m types frees code r ≡ drawn m' types frees code r

-- From r to s, an execution ends in the same cells, uses up the choices that s lists besides those of r, and lists the sites that s lists besides those of r.
pub record Uses (run : Execution) (r s : Drawn) : Type 0 where
  pub went : r.goes ≡ true
  pub used : List Value
  pub others : List Value
  pub hits : List ℕ
  pub chosen : s.chosen ≡ r.chosen ++ used
  pub listed : s.sites ≡ r.sites ++ hits
  pub ends : (left more : List Value) (sites : List ℕ) → run (record { cells = r.cells; left = used ++ left; others = others ++ more; sites = sites })
      ≡ Some (record { cells = s.cells; left = left; others = more; sites = sites ++ hits })

-- Where all assumptions hold on free values, fine code runs on the choices that it lists, to the same cells, and lists the same sites.
abbrev pub RunsLaw : Type 0
RunsLaw =
    (m : Model) (types : List Ty) (frees : List Value) (code : List Statement) (r : Drawn) → AreFine types code → r.taken ≡ true → (drawn m types frees code r).goes ≡ true
    → Uses (run_all m types code) r (drawn m types frees code r)

-- the values stand in the list from a number on
abbrev pub StandAt : List Value → ℕ → List Value → Type 0
StandAt list a values = (k : ℕ) → k < length values → slice_get list (a + k) ≡ slice_get values k

pub record GoesTo (s : Drawn) (q : Placed) (chosen : List Value) (sites : List ℕ) : Type 0 where
  pub goes : s.goes ≡ true
  pub cells : s.cells ≡ q.cells
  pub lists : s.chosen ≡ chosen
  pub listed : s.sites ≡ sites

-- There are n free values on which code, wherever they stand in a list, goes from p to q; it lists the choices that are used and the sites that are listed on the way.
pub record Finds (code : List Value → Drawn → Drawn) (n : ℕ) (p q : Placed) : Type 0 where
  pub frees : List Value
  pub count : length frees ≡ n
  pub used : List Value
  pub others : List Value
  pub hits : List ℕ
  pub left : p.left ≡ used ++ q.left
  pub more : p.others ≡ others ++ q.others
  pub sites : q.sites ≡ p.sites ++ hits
  pub ways : (list : List Value) (r : Drawn) → StandAt list r.next frees → r.cells ≡ p.cells → r.goes ≡ true → r.taken ≡ true → GoesTo (code list r) q (r.chosen ++ used) (r.sites ++ hits)

-- Where code runs on choices, there are as many free values as it reads on which it goes the same way.
abbrev pub FindsLaw : Type 0
FindsLaw = (m : Model) (types : List Ty) (code : List Statement) (p q : Placed) → run_all m types code p ≡ Some q → Finds (λ frees. drawn m types frees code) (all_draws code) p q

-- What ordered statements give in order is allowed by them as a constraint.
abbrev pub OrderAllowsLaw : Type 0
OrderAllowsLaw =
    (m : Model) (types : List Ty) (frees : List Value) (gs : List Guarded) (old : List Value) → length frees ≡ length gs → AreOrdered (value_of m types) (length old) gs
    → Allows (value_of m types) gs old (taken_in_order (value_of m types) frees gs old)

-- What ordered statements allow as a constraint they give in order, where the free values are those of the new cells.
abbrev pub AllowsOrderLaw : Type 0
AllowsOrderLaw =
    (m : Model) (types : List Ty) (gs : List Guarded) (old new : List Value) → AreOrdered (value_of m types) (length old) gs → Allows (value_of m types) gs old new
    → taken_in_order (value_of m types) (given new gs) gs old ≡ new
