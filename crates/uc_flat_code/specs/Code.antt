-- The code over cells that stands for code of a design.
use Rattle.std.specs.Prelude.{ℕ, ◌+◌, Bool as Truth, true, false, not, ◌&&◌, nat_eq, if◌then◌else◌, List, [], ◌∷◌, ◌++◌, map, Option, Some, None, slice_get, slice_set}
use Rattle.std.specs.Option.{option_map, option_and_then}
use Rattle.std.specs.List.{list_any, list_all, position_from}
use Rattle.uc_syntax.specs.declared.expression.Expr.{Expr}
use Rattle.uc_syntax.specs.declared.statement.Target.{Target}
use Rattle.uc_syntax.specs.declared.statement.TargetPart.{TargetPart}
use Rattle.uc_syntax.specs.declared.statement.TargetPart.TheVariants.{Field as FieldPart, Element as ElementPart}
use Rattle.uc_syntax.specs.declared.statement.Arm.{Arm}
use Rattle.uc_syntax.specs.declared.statement.Stmt.{Stmt}
use Rattle.uc_syntax.specs.declared.statement.Stmt.TheOpen.{Stmt-F}
use Rattle.uc_syntax.specs.declared.statement.Stmt.TheOpen.Stmt-F.{Skip, Block, Assume, Havoc, Assign, If, Case}
use Rattle.uc_syntax.specs.declared.statement.Stmt.TheFolds.{fold-Stmt}
use Rattle.uc_values.specs.declared.ty.Field.{Field}
use Rattle.uc_values.specs.declared.ty.Ty.{Ty}
use Rattle.uc_ops.specs.declared.op.Op.TheVariants.{MkRec, GetField}
use Rattle.uc_ops.specs.Equality.{equal_types}
use Rattle.uc_ops.specs.Typing.{fields_of}
use Rattle.uc_flat.specs.declared.expression.Expression.{Expression}
use Rattle.uc_flat.specs.declared.expression.Expression.TheVariants.{Cell as ReadCell, Apply}
use Rattle.uc_flat.specs.declared.expression.Expression.TheOpen.{Expression-F}
use Rattle.uc_flat.specs.declared.expression.Expression.TheOpen.Expression-F.{Cell as CellForm, Apply as ApplyForm}
use Rattle.uc_flat.specs.declared.expression.Expression.TheFolds.{fold-Expression}
use Rattle.uc_flat.specs.declared.statement.Statement.{Statement}
use Rattle.uc_flat.specs.declared.statement.Statement.TheVariants.{Assign as AssignCell, Havoc as HavocCell, Assume as AssumeThat, If as IfThat}
use Rattle.uc_flat_expressions.specs.declared.typed.TypedExpression.{TypedExpression}
use Rattle.uc_flat_expressions.specs.declared.typed.Meant.{Meant}
use Rattle.uc_flat_expressions.specs.declared.typed.Meant.TheVariants.{Cell}
use Rattle.uc_flat_expressions.specs.Types.{is_boolean}
use Rattle.uc_flat_expressions.specs.Expressions.{flat_of, all_of}
use Rattle.uc_flat_code.specs.declared.writing.Writing.{Writing}
use Rattle.uc_flat_code.specs.declared.writing.Written.{Written}
use Rattle.uc_flat_code.specs.declared.writing.FlatArm.{FlatArm}

-- what parts that may be missing give
abbrev pub MayBe : Type 0
MayBe = Option (List Statement)

-- statements in order, where none is missing
abbrev pub in_order : List MayBe → MayBe
in_order [] = Some []
in_order (o ∷ os) = option_and_then (λ x. option_map (λ xs. x ++ xs) (in_order os)) o

-- whether a target that has a prime, or none, may be written here
abbrev pub may_write : Truth → Truth → Truth
may_write true primed = primed
may_write false primed = not primed

-- the same of `havoc`, which in a next block means the same with a prime and without
abbrev pub may_havoc : Truth → Truth → Truth
may_havoc true primed = true
may_havoc false primed = not primed

-- the cell that is written where a name stands for a cell: that of the old state, or that many numbers behind it
abbrev pub written_as : ℕ → Option Meant → Option Written
written_as shift (Some (Cell old new ty)) = Some (record { cell = old + shift; ty = ty })
written_as shift other = None

-- the cell that a name writes, where the prime is as it must be
abbrev pub written : List Meant → Writing → ℕ → Truth → Option Written
written names w x primed = if may_write w.primed primed then written_as w.shift (slice_get names x) else None

abbrev pub havocked : List Meant → Writing → ℕ → Truth → Option Written
havocked names w x primed = if may_havoc w.primed primed then written_as w.shift (slice_get names x) else None

-- ---- parts of cells

abbrev pub field_in : Expression → ℕ → Expression
field_in whole k = Apply (GetField k) (whole ∷ [])

-- the fields of a record from number k on, as they are in the whole
unfoldable pub fields_in : Expression → ℕ → List (Field Ty) → List Expression
fields_in whole k [] = []
fields_in whole k (d ∷ ds) = field_in whole k ∷ fields_in whole (k + 1) ds

-- the whole with another field of number k
abbrev pub with_field : Expression → Ty → ℕ → Expression → Expression
with_field whole ty k e = Apply (MkRec ty) (slice_set (fields_in whole 0 (fields_of ty)) k e)

-- no two fields have one name
unfoldable pub are_different : List (Field Ty) → Truth
are_different [] = true
are_different (d ∷ ds) = not (list_any (λ f. nat_eq f.name d.name) ds) && are_different ds

-- the place of the first field of a name, where no two have one name
abbrev pub field_place : Ty → ℕ → Option ℕ
field_place ty name = if are_different (fields_of ty) then position_from (λ d. nat_eq d.name name) 0 (fields_of ty) else None

-- what a value of a type is to be where the part of it that fields lead to takes a value of the part's type; an index has no such form
unfoldable pub replaced_in : Expression → Ty → List TargetPart → TypedExpression → Option Expression
replaced_in whole ty [] t = if equal_types ty t.ty then Some t.expression else None
replaced_in whole ty (FieldPart place f ∷ parts) t =
    option_and_then (λ k. option_and_then (λ d. option_map (with_field whole ty k) (replaced_in (field_in whole k) d.ty parts t)) (slice_get (fields_of ty) k)) (field_place ty f.name)
replaced_in whole ty (ElementPart place e ∷ parts) t = None

-- ---- one statement

abbrev pub assume_of : TypedExpression → MayBe
assume_of t = if is_boolean t.ty then Some (AssumeThat t.expression ∷ []) else None

-- the value is a choice where targets have no prime
abbrev pub havoc_of : Writing → Written → List Statement
havoc_of w k = HavocCell k.cell (not w.primed) ∷ []

-- a cell, or a part of it behind fields, takes a value of its type; the rest of the cell stays as it is by now
abbrev pub assigned : Written → List TargetPart → TypedExpression → MayBe
assigned k parts t = option_map (λ e. AssignCell k.cell e ∷ []) (replaced_in (ReadCell k.cell) k.ty parts t)

-- an expression reads none of these cells
abbrev pub spares_form : List ℕ → Expression-F Truth → Truth
spares_form cells (CellForm k) = not (list_any (λ c. nat_eq c k) cells)
spares_form cells (ApplyForm op parts) = list_all (λ b. b) parts

unfoldable pub spares : List ℕ → Expression → Truth
spares cells = fold-Expression Truth (spares_form cells)

-- a target takes a source that reads none of these cells
abbrev pub one_assigned : List Meant → Writing → List ℕ → Target → Expr → MayBe
one_assigned names w before t e =
    option_and_then (λ k. option_and_then (λ x. if spares before x.expression then assigned k t.parts x else None) (flat_of names e)) (written names w t.name t.is_primed)

abbrev pub with_cell : List ℕ → Option Written → List ℕ
with_cell before None = before
with_cell before (Some k) = before ++ k.cell ∷ []

-- Targets from left to right, one for each source. A source has its value from before the assignment: it reads no cell that a target before its own writes.
unfoldable pub each_assigned : List Meant → Writing → List ℕ → List Target → List Expr → List MayBe
each_assigned names w before [] [] = []
each_assigned names w before (t ∷ ts) (e ∷ es) = one_assigned names w before t e ∷ each_assigned names w (with_cell before (written names w t.name t.is_primed)) ts es
each_assigned names w before ts es = None ∷ []

abbrev pub assign_of : List Meant → Writing → List Target → List Expr → MayBe
assign_of names w ts es = in_order (each_assigned names w [] ts es)

-- ---- statements with statements inside

abbrev pub arm_with : MayBe → TypedExpression → Option FlatArm
arm_with body c = if is_boolean c.ty then option_map (λ xs. record { condition = c.expression; body = xs }) body else None

-- an arm, whose condition is a truth value
abbrev pub arm_of : List Meant → Arm MayBe → Option FlatArm
arm_of names a = option_and_then (arm_with (in_order a.body)) (flat_of names a.condition)

-- the body of the first arm whose condition is true, else the code behind them
unfoldable pub joined_arms : List FlatArm → List Statement → List Statement
joined_arms [] rest = rest
joined_arms (a ∷ arms) rest = IfThat a.condition a.body (joined_arms arms rest) ∷ []

abbrev pub else_of : Option (List MayBe) → MayBe
else_of None = Some []
else_of (Some block) = in_order block

abbrev pub if_of : List Meant → List (Arm MayBe) → Option (List MayBe) → MayBe
if_of names arms otherwise = option_and_then (λ bodies. option_map (joined_arms bodies) (else_of otherwise)) (all_of (map (arm_of names) arms))

-- an arm with what its statements give
abbrev pub each_arm : {A B : Type 0} → (A → B) → Arm A → Arm B
each_arm f a = record { condition = a.condition; body = map f a.body }

-- a statement by what the statements inside it give
abbrev pub code_form : List Meant → Writing → Stmt-F MayBe → MayBe
code_form names w (Skip place) = Some []
code_form names w (Block place block) = in_order block
code_form names w (Assume place e) = option_and_then assume_of (flat_of names e)
code_form names w (Havoc place x primed) = option_map (havoc_of w) (havocked names w x.name primed)
code_form names w (Assign place targets sources) = assign_of names w targets sources
code_form names w (If place arms otherwise) = if_of names arms otherwise
code_form names w (Case place arms otherwise) = if_of names arms otherwise
code_form names w other = None

-- the code over cells of a statement
unfoldable pub statement_of : List Meant → Writing → Stmt → MayBe
statement_of names w = fold-Stmt MayBe (code_form names w)

-- The code over cells that stands for code.
abbrev pub code_of : List Meant → Writing → List Stmt → MayBe
code_of names w code = in_order (map (statement_of names w) code)
