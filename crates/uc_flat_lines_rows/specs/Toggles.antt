-- A design of one boolean, which is false at first, as a further cell of its init code is, and turned at each step where a constant is true.
use Rattle.std.specs.Prelude.{ℕ, false, List, [], ◌∷◌}
use Rattle.uc_values.specs.declared.ty.Ty.TheVariants.{Bool}
use Rattle.uc_values.specs.declared.value.Value.TheVariants.{Bool as Truth}
use Rattle.uc_ops.specs.declared.op.Op.TheVariants.{Const, Not, Eq, Symbol}
use Rattle.uc_flat.specs.declared.expression.Expression.{Expression}
use Rattle.uc_flat.specs.declared.expression.Expression.TheVariants.{Cell, Apply}
use Rattle.uc_flat.specs.declared.statement.Statement.{Statement}
use Rattle.uc_flat.specs.declared.statement.Statement.TheVariants.{Assign}
use Rattle.uc_flat.specs.declared.flat.Formula.{Formula}
use Rattle.uc_flat.specs.declared.flat.Flat.{Flat}

abbrev pub low : Expression
low = Apply (Const Bool (Truth false)) []

abbrev pub enabled : Expression
enabled = Apply (Symbol 0 Bool) []

abbrev pub turned : Expression
turned = Apply Not (Apply Eq (Cell 0 ∷ enabled ∷ []) ∷ [])

abbrev pub is_low : Expression
is_low = Apply Not (Cell 0 ∷ [])

abbrev pub gives : ℕ → Expression → List Statement
gives cell e = Assign cell e ∷ []

-- the cell is false
abbrev pub stays_low : Formula
stays_low = record { path = []; decl = 0; copies = 1; condition = is_low }

abbrev pub toggle : Flat
toggle = record {
  cells = record { path = []; name = 0; ty = Bool } ∷ [];
  constants = record { name = 1; ty = Bool } ∷ [];
  functions = [];
  further = low ∷ [];
  init = gives 0 (Cell 1);
  step = gives 1 turned;
  sites = [];
  formulas = stays_low ∷ [];
  axioms = 0;
}
