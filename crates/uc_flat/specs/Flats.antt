-- Designs over numbered cells: the types of the cells, and which designs are sound.
use Rattle.std.specs.Prelude.{◌≡◌, ℕ, zero, suc, ◌≤◌, List, [], ◌++◌, map, length, take, All}
use Rattle.uc_values.specs.declared.ty.Ty.{Ty}
use Rattle.uc_ops.specs.Typing.{AllValid}
use Rattle.uc_flat.specs.declared.flat.Flat.{Flat}
use Rattle.uc_flat.specs.declared.expression.Expression.{Expression}
use Rattle.uc_flat.specs.declared.flat.Formula.{Formula}
use Rattle.uc_flat.specs.Reading.{type_of}
use Rattle.uc_flat.specs.Fine.{AreFine, IsTyped, IsTest, ReadsBelow, CodeReadsBelow}

abbrev pub cell_types : Flat → List Ty
cell_types f = map (λ c. c.ty) f.cells

-- the types of cells, and of further ones behind them by what these begin with
abbrev pub wider_types : List Ty → List Expression → List Ty
wider_types types further = types ++ map (type_of types) further

-- the types of the cells that the init code has
abbrev pub init_types : Flat → List Ty
init_types f = wider_types (cell_types f) f.further

-- the types, so many times over
unfoldable pub repeated : ℕ → List Ty → List Ty
repeated zero types = []
repeated (suc n) types = types ++ repeated n types

abbrev pub axioms_of : Flat → List Formula
axioms_of f = take f.axioms f.formulas

-- a formula is a condition on the cells of its copies, and reads only constants that there are
pub record IsFormula (f : Flat) (x : Formula) : Type 0 where
  pub test : IsTest (repeated x.copies (cell_types f)) x.condition
  pub reads : ReadsBelow (length f.constants) x.condition

-- The types of the cells are types, all code, formulas and what further cells begin with fit them and read only constants that there are, and axioms speak of no copy.
pub record IsSound (f : Flat) : Type 0 where
  pub valid : AllValid (cell_types f)
  pub further : All (IsTyped (cell_types f)) f.further
  pub further_reads : All (ReadsBelow (length f.constants)) f.further
  pub init : AreFine (init_types f) f.init
  pub init_reads : CodeReadsBelow (length f.constants) f.init
  pub step : AreFine (cell_types f ++ cell_types f) f.step
  pub step_reads : CodeReadsBelow (length f.constants) f.step
  pub formulas : All (IsFormula f) f.formulas
  pub axioms : f.axioms ≤ length f.formulas
  pub no_copy : All (λ x. x.copies ≡ 0) (axioms_of f)
