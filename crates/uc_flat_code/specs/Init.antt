-- The code over cells that stands for init code, with the further cells that it has: one for each local, and one for each source of an assignment of several targets.
use Rattle.std.specs.Prelude.{ℕ, ◌+◌, true, false, if◌then◌else◌, List, [], ◌∷◌, ◌++◌, map, length, Option, Some, None, slice_set}
use Rattle.std.specs.Option.{option_map, option_and_then}
use Rattle.uc_syntax.specs.declared.place.Identifier.{Identifier}
use Rattle.uc_syntax.specs.declared.statement.Target.{Target}
use Rattle.uc_syntax.specs.declared.statement.Arm.{Arm}
use Rattle.uc_syntax.specs.declared.statement.Stmt.{Stmt}
use Rattle.uc_syntax.specs.declared.statement.Stmt.TheOpen.{Stmt-F}
use Rattle.uc_syntax.specs.declared.statement.Stmt.TheOpen.Stmt-F.{Local as Declare, Skip, Block, Assume, Havoc, Assign, If, Case}
use Rattle.uc_syntax.specs.declared.statement.Stmt.TheFolds.{fold-Stmt}
use Rattle.uc_values.specs.declared.ty.Ty.{Ty}
use Rattle.uc_flat.specs.declared.expression.Expression.{Expression}
use Rattle.uc_flat.specs.declared.expression.Expression.TheVariants.{Cell as ReadCell}
use Rattle.uc_flat.specs.declared.statement.Statement.{Statement}
use Rattle.uc_flat.specs.declared.statement.Statement.TheVariants.{Assign as AssignCell, Havoc as HavocCell}
use Rattle.uc_flat_expressions.specs.declared.typed.TypedExpression.{TypedExpression}
use Rattle.uc_flat_expressions.specs.declared.typed.Meant.{Meant}
use Rattle.uc_flat_expressions.specs.declared.typed.Meant.TheVariants.{Cell}
use Rattle.uc_flat_expressions.specs.Types.{is_boolean}
use Rattle.uc_flat_expressions.specs.Expressions.{flat_of, all_of}
use Rattle.uc_flat_code.specs.declared.writing.Writing.{Writing}
use Rattle.uc_flat_code.specs.Code.{MayBe, written, havocked, assume_of, havoc_of, assigned, joined_arms, in_order as all_in_order}
use Rattle.uc_flat_code.specs.declared.made.MadeCode.{MadeCode}
use Rattle.uc_flat_code.specs.declared.made.MadeArms.{MadeArms}
use Rattle.uc_flat_code.specs.CellTypes.{Types}
use Rattle.uc_flat_code.specs.Zero.{zero_of}

-- Code with what its further cells begin with, in order, and what names stand for behind it.
pub record Made : Type 0 where
  pub code : List Statement
  pub further : List Expression
  pub names : List Meant

-- By what names stand for, and the number of the next further cell. None where something is not built.
abbrev pub Making : Type 0
Making = List Meant → ℕ → Option Made

-- code that has no further cells
abbrev pub alone : List Meant → List Statement → Made
alone names code = record { code = code; further = []; names = names }

abbrev pub then_made : Made → Made → Made
then_made a b = record { code = a.code ++ b.code; further = a.further ++ b.further; names = b.names }

unfoldable pub in_order : List Making → Making
in_order [] names n = Some (alone names [])
in_order (x ∷ xs) names n = option_and_then (λ a. option_map (then_made a) (in_order xs a.names (n + length a.further))) (x names n)

abbrev pub ended : List Meant → Made → Made
ended names a = record { code = a.code; further = a.further; names = names }

-- the names that a block declares end with it
abbrev pub in_block : List Making → Making
in_block xs names n = option_map (ended names) (in_order xs names n)

-- targets have no prime, and write the cells themselves
abbrev pub plainly : Writing
plainly = record { primed = false; shift = 0 }

-- ---- locals

-- each name stands for the next further cell, which takes a choice of the type
unfoldable pub declared : Ty → List Identifier → Making
declared ty [] names n = Some (alone names [])
declared ty (x ∷ xs) names n =
    option_map (then_made (record { code = HavocCell n true ∷ []; further = zero_of ty ∷ []; names = names }))
    (declared ty xs (slice_set names x.name (Cell n None ty)) (n + 1))

-- ---- assignments

-- the sources, in further cells from a number on
unfoldable pub kept : ℕ → List TypedExpression → List Statement
kept n [] = []
kept n (x ∷ xs) = AssignCell n x.expression ∷ kept (n + 1) xs

-- a target takes a value
abbrev pub given : List Meant → Target → TypedExpression → MayBe
given names t x = option_and_then (λ k. assigned k t.parts x) (written names plainly t.name t.is_primed)

-- the value that a further cell keeps
abbrev pub kept_in : ℕ → TypedExpression → TypedExpression
kept_in n x = record x { expression = ReadCell n }

-- targets from left to right, each with the value that is kept for it
unfoldable pub each_given : List Meant → ℕ → List Target → List TypedExpression → List MayBe
each_given names n [] [] = []
each_given names n (t ∷ ts) (x ∷ xs) = given names t (kept_in n x) ∷ each_given names (n + 1) ts xs
each_given names n ts xs = None ∷ []

abbrev pub through_kept : List Meant → ℕ → List TypedExpression → List Statement → Made
through_kept names n xs code = record { code = kept n xs ++ code; further = map (λ x. zero_of x.ty) xs; names = names }

-- One target takes its source. Of several, all sources are kept before any target is written.
unfoldable pub assigned_by : List Target → List TypedExpression → Making
assigned_by (t ∷ []) (x ∷ []) names n = option_map (alone names) (given names t x)
assigned_by ts xs names n = option_map (through_kept names n xs) (all_in_order (each_given names n ts xs))

-- ---- conditionals

-- an arm by its condition and its code
abbrev pub arm_by : Expression → Made → MadeArms
arm_by c a = record { arms = record { condition = c; body = a.code } ∷ []; further = a.further }

abbrev pub arm_with : List Meant → ℕ → List Making → TypedExpression → Option MadeArms
arm_with names n body c = if is_boolean c.ty then option_map (arm_by c.expression) (in_block body names n) else None

-- an arm, whose condition is a truth value
abbrev pub arm_made : List Meant → ℕ → Arm Making → Option MadeArms
arm_made names n a = option_and_then (arm_with names n a.body) (flat_of names a.condition)

abbrev pub then_arms : MadeArms → MadeArms → MadeArms
then_arms a b = record { arms = a.arms ++ b.arms; further = a.further ++ b.further }

-- the arms, in order
unfoldable pub arms_made : List Meant → ℕ → List (Arm Making) → Option MadeArms
arms_made names n [] = Some (record { arms = []; further = [] })
arms_made names n (a ∷ arms) = option_and_then (λ b. option_map (then_arms b) (arms_made names (n + length b.further) arms)) (arm_made names n a)

abbrev pub else_of : Option (List Making) → Making
else_of None names n = Some (alone names [])
else_of (Some block) names n = in_block block names n

abbrev pub joined : MadeArms → Made → Made
joined a rest = record { code = joined_arms a.arms rest.code; further = a.further ++ rest.further; names = rest.names }

abbrev pub if_of : List (Arm Making) → Option (List Making) → Making
if_of arms otherwise names n = option_and_then (λ a. option_map (joined a) (else_of otherwise names (n + length a.further))) (arms_made names n arms)

-- ---- all statements

abbrev pub making_form : Types → Stmt-F Making → Making
making_form types (Declare place xs type) names n = option_and_then (λ ty. declared ty xs names n) (types type)
making_form types (Skip place) names n = Some (alone names [])
making_form types (Block place block) names n = in_block block names n
making_form types (Assume place e) names n = option_map (alone names) (option_and_then assume_of (flat_of names e))
making_form types (Havoc place x primed) names n = option_map (λ k. alone names (havoc_of plainly k)) (havocked names plainly x.name primed)
making_form types (Assign place ts es) names n = option_and_then (λ xs. assigned_by ts xs names n) (all_of (map (flat_of names) es))
making_form types (If place arms otherwise) names n = if_of arms otherwise names n
making_form types (Case place arms otherwise) names n = if_of arms otherwise names n
making_form types other names n = None

unfoldable pub making_of : Types → Stmt → Making
making_of types = fold-Stmt Making (making_form types)

abbrev pub made_code : Made → MadeCode
made_code a = record { code = a.code; further = a.further }

-- The code over cells that stands for init code, by what names stand for and the number of its first further cell.
abbrev pub init_code : Types → List Meant → ℕ → List Stmt → Option MadeCode
init_code types names n code = option_map made_code (in_order (map (making_of types) code) names n)
