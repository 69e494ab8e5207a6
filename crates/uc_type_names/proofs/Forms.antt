-- The types in each form of a statement, in terms of its parts.
use Rattle.std.proofs.Common.{◌≡◌, ℕ, Bool, List, [], ◌∷◌, ◌++◌, map, Option, None, Some, refl, sym, ap, ◌∙◌, append_assoc}
use Rattle.std.specs.List.{flat_map}
use Rattle.std.specs.Borrow.{Bor}
use Rattle.std.proofs.lemmas.List.{map-append}
use Rattle.std.proofs.lemmas.Grind.{flat_map-append}
use Rattle.uc_lexer.specs.declared.place.Place.{Place}
use Rattle.uc_syntax.specs.declared.place.Identifier.{Identifier}
use Rattle.uc_syntax.specs.declared.type_expression.Parameter.{Parameter}
use Rattle.uc_syntax.specs.declared.type_expression.TypeExpr.{TypeExpr}
use Rattle.uc_syntax.specs.declared.expression.Expr.{Expr}
use Rattle.uc_syntax.specs.declared.statement.Target.{Target}
use Rattle.uc_syntax.specs.declared.statement.RangeBound.{RangeBound}
use Rattle.uc_syntax.specs.declared.statement.Arm.{Arm}
use Rattle.uc_syntax.specs.declared.statement.Stmt.{Stmt}
use Rattle.uc_syntax.specs.declared.statement.Stmt.TheOpen.Stmt-F.{Local as LocalForm, Skip as SkipForm, Block as BlockForm, Assert as AssertForm, Assume as AssumeForm, Havoc as HavocForm, Assign as AssignForm, If as IfForm, Case as CaseForm, For as ForForm, Call as CallForm, Next as NextForm}
use Rattle.uc_syntax.specs.declared.statement.Stmt.TheViews.{roll-Stmt, Block, If, Case, For}
use Rattle.uc_syntax.specs.declared.statement.Stmt.TheVariants.{Local, Skip, Assert, Assume, Havoc, Assign, Call, Next}
use Rattle.uc_syntax.specs.declared.statement.Stmt.TheFolds.{fold-Stmt, fold-roll-Stmt}
use Rattle.uc_syntax.specs.declared.declaration.VariableKind.{VariableKind}
use Rattle.uc_syntax.specs.declared.declaration.Procedure as procedures
use Rattle.uc_syntax.specs.declared.declaration.Decl.{Decl}
use Rattle.uc_syntax.specs.declared.declaration.Decl.TheVariants.{TypeAlias, Variables, Function, Define, Procedure, Init, Next as NextBlock}
use Rattle.uc_syntax.specs.WrittenTypes.{types_in, types_in_arms, types_in_block, types_in_form, types_of_parameters}
use Rattle.uc_syntax.proofs.Added.{append_nil}
use Rattle.uc_syntax.proofs.Labels.{flat_map_map}
use Rattle.uc_type_names.specs.Lent.{lent, types_by, types_in_arm}

pub lent_push : (ts : List (Bor TypeExpr)) (t : Bor TypeExpr) → lent (ts ++ t ∷ []) ≡ lent ts ++ t.now ∷ []
unfolding lent
lent_push ts t = map-append (λ b. b.now) ts (t ∷ [])

through_arm : Arm Stmt → Arm (List TypeExpr)
through_arm a = record { condition = a.condition; body = map (fold-Stmt (List TypeExpr) types_in_form) a.body }

block_types : (block : List Stmt) → flat_map (λ ts. ts) (map (fold-Stmt (List TypeExpr) types_in_form) block) ≡ flat_map types_by block
unfolding types_by
block_types block = flat_map_map (λ ts. ts) (fold-Stmt (List TypeExpr) types_in_form) block

arms_types : (arms : List (Arm Stmt)) → types_in_arms (map through_arm arms) ≡ flat_map types_in_arm arms
unfolding through_arm types_by
arms_types [] = refl
arms_types (a ∷ more) = (λ k. block_types a.body k ++ arms_types more k)

pub types_local : (place : Place) (names : List Identifier) (type : TypeExpr) → types_by (Local place names type) ≡ type ∷ []
unfolding types_by roll-Stmt denote.Hole.Carrier.roll
types_local place names type = fold-roll-Stmt (List TypeExpr) types_in_form (LocalForm place names type)

pub types_skip : (place : Place) → types_by (Skip place) ≡ []
unfolding types_by roll-Stmt denote.Hole.Carrier.roll
types_skip place = fold-roll-Stmt (List TypeExpr) types_in_form (SkipForm place)

pub types_block : (place : Place) (block : List Stmt) → types_by (Block place block) ≡ flat_map types_by block
unfolding types_by roll-Stmt denote.Hole.Carrier.roll
types_block place block = fold-roll-Stmt (List TypeExpr) types_in_form (BlockForm place block) ∙ block_types block

pub types_assert : (place : Place) (name : Option Identifier) (e : Expr) → types_by (Assert place name e) ≡ []
unfolding types_by roll-Stmt denote.Hole.Carrier.roll
types_assert place name e = fold-roll-Stmt (List TypeExpr) types_in_form (AssertForm place name e)

pub types_assume : (place : Place) (e : Expr) → types_by (Assume place e) ≡ []
unfolding types_by roll-Stmt denote.Hole.Carrier.roll
types_assume place e = fold-roll-Stmt (List TypeExpr) types_in_form (AssumeForm place e)

pub types_havoc : (place : Place) (i : Identifier) (primed : Bool) → types_by (Havoc place i primed) ≡ []
unfolding types_by roll-Stmt denote.Hole.Carrier.roll
types_havoc place i primed = fold-roll-Stmt (List TypeExpr) types_in_form (HavocForm place i primed)

pub types_assign : (place : Place) (targets : List Target) (sources : List Expr) → types_by (Assign place targets sources) ≡ []
unfolding types_by roll-Stmt denote.Hole.Carrier.roll
types_assign place targets sources = fold-roll-Stmt (List TypeExpr) types_in_form (AssignForm place targets sources)

pub types_if : (place : Place) (arms : List (Arm Stmt)) (block : List Stmt) → types_by (If place arms (Some block)) ≡ flat_map types_in_arm arms ++ flat_map types_by block
unfolding types_by through_arm roll-Stmt denote.Hole.Carrier.roll
types_if place arms block = fold-roll-Stmt (List TypeExpr) types_in_form (IfForm place arms (Some block)) ∙ (λ k. arms_types arms k ++ block_types block k)

pub types_if_alone : (place : Place) (arms : List (Arm Stmt)) → types_by (If place arms None) ≡ flat_map types_in_arm arms
unfolding types_by through_arm roll-Stmt denote.Hole.Carrier.roll
types_if_alone place arms = fold-roll-Stmt (List TypeExpr) types_in_form (IfForm place arms None) ∙ append_nil _ ∙ arms_types arms

pub types_case : (place : Place) (arms : List (Arm Stmt)) (block : List Stmt) → types_by (Case place arms (Some block)) ≡ flat_map types_in_arm arms ++ flat_map types_by block
unfolding types_by through_arm roll-Stmt denote.Hole.Carrier.roll
types_case place arms block = fold-roll-Stmt (List TypeExpr) types_in_form (CaseForm place arms (Some block)) ∙ (λ k. arms_types arms k ++ block_types block k)

pub types_case_alone : (place : Place) (arms : List (Arm Stmt)) → types_by (Case place arms None) ≡ flat_map types_in_arm arms
unfolding types_by through_arm roll-Stmt denote.Hole.Carrier.roll
types_case_alone place arms = fold-roll-Stmt (List TypeExpr) types_in_form (CaseForm place arms None) ∙ append_nil _ ∙ arms_types arms

pub types_for : (place : Place) (i : Identifier) (type : TypeExpr) (from : RangeBound) (to : RangeBound) (block : List Stmt) → types_by (For place i (Some type) from to block) ≡ (type ∷ []) ++ flat_map types_by block
unfolding types_by roll-Stmt denote.Hole.Carrier.roll
types_for place i type from to block = fold-roll-Stmt (List TypeExpr) types_in_form (ForForm place i (Some type) from to block) ∙ ap (λ ts. type ∷ ts) (block_types block)

pub types_for_alone : (place : Place) (i : Identifier) (from : RangeBound) (to : RangeBound) (block : List Stmt) → types_by (For place i None from to block) ≡ flat_map types_by block
unfolding types_by roll-Stmt denote.Hole.Carrier.roll
types_for_alone place i from to block = fold-roll-Stmt (List TypeExpr) types_in_form (ForForm place i None from to block) ∙ block_types block

pub types_call : (place : Place) (targets : List Target) (i : Identifier) (arguments : List Expr) → types_by (Call place targets i arguments) ≡ []
unfolding types_by roll-Stmt denote.Hole.Carrier.roll
types_call place targets i arguments = fold-roll-Stmt (List TypeExpr) types_in_form (CallForm place targets i arguments)

pub types_next : (place : Place) (i : Identifier) → types_by (Next place i) ≡ []
unfolding types_by roll-Stmt denote.Hole.Carrier.roll
types_next place i = fold-roll-Stmt (List TypeExpr) types_in_form (NextForm place i)

-- Declarations.

one_by_one : (ps : List (Parameter TypeExpr)) → flat_map (λ p. p.ty ∷ []) ps ≡ types_of_parameters ps
one_by_one [] = refl
one_by_one (p ∷ ps) = ap (λ ts. p.ty ∷ ts) (one_by_one ps)

-- parameters have been added, type by type
pub parameters_added : (ps : List (Parameter TypeExpr)) (before now : List TypeExpr) → now ≡ before ++ flat_map (λ p. p.ty ∷ []) ps → now ≡ before ++ types_of_parameters ps
parameters_added ps before now is = is ∙ ap (λ ts. before ++ ts) (one_by_one ps)

pub block_in : (block : List Stmt) → types_in_block block ≡ flat_map types_by block
unfolding types_by
block_in block = refl

-- a declaration of any other form writes no type
pub types_none : (d : Decl) → ((place : Place) (i : Identifier) (type : TypeExpr) → d ≡ TypeAlias place i type → ⊥) →
    ((place : Place) (kind : VariableKind) (names : List Identifier) (type : TypeExpr) → d ≡ Variables place kind names type → ⊥) →
    ((place : Place) (i : Identifier) (ps : List (Parameter TypeExpr)) (type : TypeExpr) → d ≡ Function place i ps type → ⊥) →
    ((place : Place) (i : Identifier) (ps : List (Parameter TypeExpr)) (type : TypeExpr) (body : Expr) → d ≡ Define place i ps type body → ⊥) →
    ((place : Place) (p : procedures.Procedure) → d ≡ Procedure place p → ⊥) →
    ((place : Place) (block : List Stmt) → d ≡ Init place block → ⊥) →
    ((place : Place) (block : List Stmt) → d ≡ NextBlock place block → ⊥) → types_in d ≡ []
types_none (TypeAlias place i type) a v f g p b n = absurd (a place i type refl)
types_none (Variables place kind names type) a v f g p b n = absurd (v place kind names type refl)
types_none (Function place i ps type) a v f g p b n = absurd (f place i ps type refl)
types_none (Define place i ps type body) a v f g p b n = absurd (g place i ps type body refl)
types_none (Procedure place q) a v f g p b n = absurd (p place q refl)
types_none (Init place block) a v f g p b n = absurd (b place block refl)
types_none (NextBlock place block) a v f g p b n = absurd (n place block refl)
types_none other a v f g p b n = refl

pub lent_none : (types : List TypeExpr) → lent [] ++ types ≡ types
unfolding lent
lent_none types = refl
