-- Expressions and code that fit the types of the cells.
use Rattle.std.specs.Prelude.{◌≡◌, ℕ, ◌<◌, Bool as Truth, List, length, map, slice_get, Some, Contains}
use Rattle.uc_values.specs.declared.ty.Ty.{Ty}
use Rattle.uc_values.specs.declared.ty.Ty.TheVariants.{Bool}
use Rattle.uc_ops.specs.declared.op.Op.{Op}
use Rattle.uc_ops.specs.declared.op.Op.TheVariants.{Symbol}
use Rattle.uc_ops.specs.Typing.{Suits, Valid}
use Rattle.uc_flat.specs.declared.expression.Expression.{Expression}
use Rattle.uc_flat.specs.declared.expression.Expression.TheVariants.{Cell, Apply}
use Rattle.uc_flat.specs.declared.statement.Statement.{Statement}
use Rattle.uc_flat.specs.declared.statement.Statement.TheVariants.{Assign, Havoc, Assume, Assert, If}
use Rattle.uc_flat.specs.Reading.{type_of}

-- an expression is e or stands inside it
pub data IsWithin (e : Expression) : Expression → Type 0 where
  itself : IsWithin e e
  deeper : (op : Op) (parts : List Expression) (part : Expression) → IsWithin e (Apply op parts) → Contains parts part → IsWithin e part

-- the cells that are read are there, and the parts of each operation suit it
pub record IsTyped (types : List Ty) (e : Expression) : Type 0 where
  pub cells : (k : ℕ) → IsWithin e (Cell k) → k < length types
  pub parts : (op : Op) (parts : List Expression) → IsWithin e (Apply op parts) → Suits op (map (type_of types) parts)

-- a condition
pub record IsTest (types : List Ty) (e : Expression) : Type 0 where
  pub typed : IsTyped types e
  pub boolean : type_of types e ≡ Bool

-- a statement is one of the code or stands inside one
pub data IsInside (code : List Statement) : Statement → Type 0 where
  outermost : (s : Statement) → Contains code s → IsInside code s
  in_first : (e : Expression) (xs ys : List Statement) (s : Statement) → IsInside code (If e xs ys) → Contains xs s → IsInside code s
  in_second : (e : Expression) (xs ys : List Statement) (s : Statement) → IsInside code (If e xs ys) → Contains ys s → IsInside code s

-- Each statement of the code fits the types of the cells: what a cell is given has its type, and what is assumed, asserted or decided by is boolean.
pub record AreFine (types : List Ty) (code : List Statement) : Type 0 where
  pub assigns : (k : ℕ) (e : Expression) → IsInside code (Assign k e) → IsTyped types e × (slice_get types k ≡ Some (type_of types e))
  pub havocs : (k : ℕ) (listed : Truth) → IsInside code (Havoc k listed) → (ty : Ty) × (slice_get types k ≡ Some ty) × Valid ty
  pub assumes : (e : Expression) → IsInside code (Assume e) → IsTest types e
  pub asserts : (site : ℕ) (e : Expression) → IsInside code (Assert site e) → IsTest types e
  pub decides : (e : Expression) (xs ys : List Statement) → IsInside code (If e xs ys) → IsTest types e

-- each constant that an expression reads is one of these types, by its number, and is read at its type
abbrev pub ReadsTyped : List Ty → Expression → Type 0
ReadsTyped types e = (number : ℕ) (ty : Ty) (parts : List Expression) → IsWithin e (Apply (Symbol number ty) parts) → slice_get types number ≡ Some ty

-- the constants that are read have numbers below n
abbrev pub ReadsBelow : ℕ → Expression → Type 0
ReadsBelow n e = (k : ℕ) (ty : Ty) (parts : List Expression) → IsWithin e (Apply (Symbol k ty) parts) → k < n

-- the same of each expression of the code
pub record CodeReadsBelow (n : ℕ) (code : List Statement) : Type 0 where
  pub assigns : (k : ℕ) (e : Expression) → IsInside code (Assign k e) → ReadsBelow n e
  pub assumes : (e : Expression) → IsInside code (Assume e) → ReadsBelow n e
  pub asserts : (site : ℕ) (e : Expression) → IsInside code (Assert site e) → ReadsBelow n e
  pub decides : (e : Expression) (xs ys : List Statement) → IsInside code (If e xs ys) → ReadsBelow n e
