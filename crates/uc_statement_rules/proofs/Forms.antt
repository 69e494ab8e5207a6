-- What each form of a statement is found to be, by its parts.
use Rattle.std.proofs.Common.{rules, ◌≡◌, ℕ, Bool, List, [], ◌∷◌, ◌++◌, map, Option, Some, None, refl, ap, ◌∙◌, sym, subst}
use Rattle.uc_lexer.specs.declared.place.Place.{Place}
use Rattle.uc_syntax.specs.declared.place.Identifier.{Identifier}
use Rattle.uc_syntax.specs.declared.type_expression.TypeExpr.{TypeExpr}
use Rattle.uc_syntax.specs.declared.expression.Expr.{Expr}
use Rattle.uc_syntax.specs.declared.statement.Target.{Target}
use Rattle.uc_syntax.specs.declared.statement.RangeBound.{RangeBound}
use Rattle.uc_syntax.specs.declared.statement.Arm.{Arm}
use Rattle.uc_syntax.specs.declared.statement.Stmt.{Stmt}
use Rattle.uc_syntax.specs.declared.statement.Stmt.TheOpen.{Stmt-F}
use Rattle.uc_syntax.specs.declared.statement.Stmt.TheOpen.Stmt-F.{Local as LocalForm, Skip as SkipForm, Block as BlockForm, Assert as AssertForm, Assume as AssumeForm, Havoc as HavocForm, Assign as AssignForm, If as IfForm, Case as CaseForm, For as ForForm, Call as CallForm, Next as NextForm}
use Rattle.uc_syntax.specs.declared.statement.Stmt.TheViews.{roll-Stmt, Block, If, Case, For}
use Rattle.uc_syntax.specs.declared.statement.Stmt.TheVariants.{Local, Skip, Assert, Assume, Havoc, Assign, Call, Next}
use Rattle.uc_syntax.specs.declared.statement.Stmt.TheFolds.{fold-roll-Stmt}
use Rattle.uc_rules.specs.declared.fault.Fault.{Fault}
use Rattle.uc_rules.specs.declared.known.Role.TheVariants.{Local as LocalRole}
use Rattle.uc_rules.specs.Expressions.{Context, condition_faults, standing_faults}
use Rattle.uc_rules.specs.Statements.{Found, Piece, arms_faults, assign_faults, binds, block_faults, call_faults, code_faults, declare_faults, for_faults, found, found_form, havoc_standing, stays}
use Rattle.uc_rules.specs.Types.{type_of}
use Rattle.uc_statement_rules.specs.Judging.{arms_found, else_found, step_faults}

arm_piece : Arm Stmt → Arm Piece
arm_piece a = record { condition = a.condition; body = map found a.body }

arms_are : (c : Context) (arms : List (Arm Stmt)) → arms_faults (map arm_piece arms) c ≡ arms_found c arms
unfolding arm_piece
arms_are c [] = refl
arms_are c (a ∷ arms) = ap (λ fs. (condition_faults c a.condition ++ code_faults a.body c) ++ fs) (arms_are c arms)

module _ (c : Context) (place : Place) where
  pub found_local : (is : List Identifier) (type : TypeExpr) → found (Local place is type) c ≡ record { faults = declare_faults c place is type; after = binds c LocalRole is (type_of c.system c.home type) }
  unfolding found roll-Stmt denote.Hole.Carrier.roll
  found_local is type = ap (λ (p : Piece). p c) (fold-roll-Stmt Piece found_form (LocalForm place is type))

  pub found_skip : found (Skip place) c ≡ stays c []
  unfolding found roll-Stmt denote.Hole.Carrier.roll
  found_skip = ap (λ (p : Piece). p c) (fold-roll-Stmt Piece found_form (SkipForm place))

  pub found_block : (block : List Stmt) → found (Block place block) c ≡ stays c (code_faults block c)
  unfolding found roll-Stmt denote.Hole.Carrier.roll
  found_block block = ap (λ (p : Piece). p c) (fold-roll-Stmt Piece found_form (BlockForm place block))

  pub found_assert : (name : Option Identifier) (e : Expr) → found (Assert place name e) c ≡ stays c (condition_faults c e)
  unfolding found roll-Stmt denote.Hole.Carrier.roll
  found_assert name e = ap (λ (p : Piece). p c) (fold-roll-Stmt Piece found_form (AssertForm place name e))

  pub found_assume : (e : Expr) → found (Assume place e) c ≡ stays c (condition_faults c e)
  unfolding found roll-Stmt denote.Hole.Carrier.roll
  found_assume e = ap (λ (p : Piece). p c) (fold-roll-Stmt Piece found_form (AssumeForm place e))

  pub found_havoc : (i : Identifier) (primed : Bool) → found (Havoc place i primed) c ≡ stays c (standing_faults (havoc_standing c i.place i.name primed))
  unfolding found roll-Stmt denote.Hole.Carrier.roll
  found_havoc i primed = ap (λ (p : Piece). p c) (fold-roll-Stmt Piece found_form (HavocForm place i primed))

  pub found_assign : (targets : List Target) (sources : List Expr) → found (Assign place targets sources) c ≡ stays c (assign_faults c place targets sources)
  unfolding found roll-Stmt denote.Hole.Carrier.roll
  found_assign targets sources = ap (λ (p : Piece). p c) (fold-roll-Stmt Piece found_form (AssignForm place targets sources))

  pub found_if : (arms : List (Arm Stmt)) (otherwise : Option (List Stmt)) → found (If place arms otherwise) c ≡ stays c (arms_found c arms ++ else_found c otherwise)
  unfolding found arm_piece roll-Stmt denote.Hole.Carrier.roll
  found_if arms None = ap (λ (p : Piece). p c) (fold-roll-Stmt Piece found_form (IfForm place arms None)) ∙ ap (λ fs. stays c (fs ++ [])) (arms_are c arms)
  found_if arms (Some block) =
      ap (λ (p : Piece). p c) (fold-roll-Stmt Piece found_form (IfForm place arms (Some block))) ∙ ap (λ fs. stays c (fs ++ code_faults block c)) (arms_are c arms)

  pub found_case : (arms : List (Arm Stmt)) (otherwise : Option (List Stmt)) → found (Case place arms otherwise) c ≡ stays c (arms_found c arms ++ else_found c otherwise)
  unfolding found arm_piece roll-Stmt denote.Hole.Carrier.roll
  found_case arms None = ap (λ (p : Piece). p c) (fold-roll-Stmt Piece found_form (CaseForm place arms None)) ∙ ap (λ fs. stays c (fs ++ [])) (arms_are c arms)
  found_case arms (Some block) =
      ap (λ (p : Piece). p c) (fold-roll-Stmt Piece found_form (CaseForm place arms (Some block))) ∙ ap (λ fs. stays c (fs ++ code_faults block c)) (arms_are c arms)

  pub found_for : (i : Identifier) (type : Option TypeExpr) (from to : RangeBound) (block : List Stmt) → found (For place i type from to block) c ≡ stays c (for_faults c place i type from to (map found block))
  unfolding found roll-Stmt denote.Hole.Carrier.roll
  found_for i None from to block = ap (λ (p : Piece). p c) (fold-roll-Stmt Piece found_form (ForForm place i None from to block))
  found_for i (Some type) from to block = ap (λ (p : Piece). p c) (fold-roll-Stmt Piece found_form (ForForm place i (Some type) from to block))

  pub found_call : (targets : List Target) (i : Identifier) (arguments : List Expr) → found (Call place targets i arguments) c ≡ stays c (call_faults c place targets i arguments)
  unfolding found roll-Stmt denote.Hole.Carrier.roll
  found_call targets i arguments = ap (λ (p : Piece). p c) (fold-roll-Stmt Piece found_form (CallForm place targets i arguments))

  pub found_next : (i : Identifier) → found (Next place i) c ≡ stays c (step_faults c place i)
  unfolding found roll-Stmt denote.Hole.Carrier.roll
  found_next i = ap (λ (p : Piece). p c) (fold-roll-Stmt Piece found_form (NextForm place i))
