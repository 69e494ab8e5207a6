-- Forms of statements, and the cells that names write.
use Rattle.std.proofs.Common.{◌≡◌, ℕ, ◌+◌, List, [], refl, sym, ap, ◌∙◌, Bool, false, Option, Some, None, arith}
use Rattle.std.specs.Prelude.{slice_get}
use Rattle.uc_syntax.specs.declared.statement.Arm.{Arm}
use Rattle.uc_syntax.specs.declared.statement.Stmt.TheOpen.{Stmt-F}
use Rattle.uc_syntax.specs.declared.statement.Stmt.TheOpen.Stmt-F.{If, Case}
use Rattle.uc_values.specs.declared.value.Value.{Value}
use Rattle.uc_values.specs.Values.{truth_of}
use Rattle.uc_meaning.specs.Operators.{holds}
use Rattle.uc_flat_expressions.specs.declared.typed.Meant.{Meant}
use Rattle.uc_flat_expressions.specs.declared.typed.Meant.TheVariants.{Unknown, Cell, Label, Constant}
use Rattle.uc_flat_code.specs.declared.writing.Written.{Written}
use Rattle.uc_flat_code.specs.Code.{may_write, may_havoc, written_as, written, havocked}
use Rattle.uc_flat_code.specs.Init.{plainly}
use Rattle.uc_flat_design.proofs.FlatInitLawOptions.{some_same, if_some}

pub truth_holds : (v : Value) → holds v ≡ truth_of v
truth_holds v = refl

-- the arms and the block of `else` of a conditional
abbrev pub arms_in : {X : Type 0} → Stmt-F X → List (Arm X)
arms_in (If place arms otherwise) = arms
arms_in (Case place arms otherwise) = arms
arms_in other = []

abbrev pub else_in : {X : Type 0} → Stmt-F X → Option (List X)
else_in (If place arms otherwise) = otherwise
else_in (Case place arms otherwise) = otherwise
else_in other = None

-- A cell that a name writes, where targets have no prime.
pub record IsWritten (names : List Meant) (x : ℕ) (k : Written) : Type 0 where
  pub cell : ℕ
  pub new : Option ℕ
  pub is : slice_get names x ≡ Some (Cell cell new k.ty)
  pub same : k.cell ≡ cell

pub is_written_as : (shift : ℕ) (o : Option Meant) (k : Written) → written_as shift o ≡ Some k → (cell : ℕ) × (new : Option ℕ) × (o ≡ Some (Cell cell new k.ty)) × (k.cell ≡ cell + shift)
is_written_as shift None k h = absurd (cc)
is_written_as shift (Some Unknown) k h = absurd (cc)
is_written_as shift (Some (Label number labels place)) k h = absurd (cc)
is_written_as shift (Some (Constant number ty)) k h = absurd (cc)
is_written_as shift (Some (Cell old new ty)) k h =
    let e : record { cell = old + shift; ty = ty } ≡ k = some_same _ k h in
    (old, new, ap (λ (w : Written). Some (Cell old new w.ty)) e, ap (λ (w : Written). w.cell) (sym e))

written_known : (names : List Meant) (x : ℕ) (k : Written) → written_as 0 (slice_get names x) ≡ Some k → IsWritten names x k
written_known names x k h =
    let g = is_written_as 0 (slice_get names x) k h in
    record { cell = g.0; new = g.1; is = g.2; same = g.3 ∙ omega arith }

pub is_written : (names : List Meant) (x : ℕ) (primed : Bool) (k : Written) → written names plainly x primed ≡ Some k → IsWritten names x k
is_written names x primed k h = written_known names x k (if_some (may_write false primed) (written_as 0 (slice_get names x)) k h).1

pub is_havocked : (names : List Meant) (x : ℕ) (primed : Bool) (k : Written) → havocked names plainly x primed ≡ Some k → IsWritten names x k
is_havocked names x primed k h = written_known names x k (if_some (may_havoc false primed) (written_as 0 (slice_get names x)) k h).1
