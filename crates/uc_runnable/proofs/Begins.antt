-- Where each form of statement begins.
use Rattle.std.proofs.Common.{◌≡◌, Bool, List, sym, ap, ◌∙◌, Option}
use Rattle.uc_lexer.specs.declared.place.Place.{Place}
use Rattle.uc_syntax.specs.declared.place.Identifier.{Identifier}
use Rattle.uc_syntax.specs.declared.expression.Expr.{Expr}
use Rattle.uc_syntax.specs.declared.type_expression.TypeExpr.{TypeExpr}
use Rattle.uc_syntax.specs.declared.statement.Arm.{Arm}
use Rattle.uc_syntax.specs.declared.statement.RangeBound.{RangeBound}
use Rattle.uc_syntax.specs.declared.statement.Target.{Target}
use Rattle.uc_syntax.specs.declared.statement.Stmt.{Stmt}
use Rattle.uc_syntax.specs.declared.statement.Stmt.TheOpen.Stmt-F.{Local as LocalForm, Skip as SkipForm, Block as BlockForm, Assume as AssumeForm, Havoc as HavocForm, Assign as AssignForm, If as IfForm, Case as CaseForm, Assert as AssertForm, For as ForForm, Call as CallForm, Next as NextForm}
use Rattle.uc_syntax.specs.declared.statement.Stmt.TheViews.{roll-Stmt, Block, If, Case, For}
use Rattle.uc_syntax.specs.declared.statement.Stmt.TheVariants.{Local, Skip, Assert, Assume, Havoc, Assign, Call, Next}
use Rattle.uc_syntax.specs.declared.statement.Stmt.TheFolds.{fold-roll-Stmt}
use Rattle.uc_runnable.specs.Unfit.{place_in, begins_at}

pub begins_local : (s : Stmt) (p : Place) (xs : List Identifier) (ty : TypeExpr) → s ≡ Local p xs ty → p ≡ begins_at s
unfolding begins_at roll-Stmt denote.Hole.Carrier.roll
begins_local s p xs ty is = sym (ap begins_at is ∙ fold-roll-Stmt Place place_in (LocalForm p xs ty))

pub begins_skip : (s : Stmt) (p : Place) → s ≡ Skip p → p ≡ begins_at s
unfolding begins_at roll-Stmt denote.Hole.Carrier.roll
begins_skip s p is = sym (ap begins_at is ∙ fold-roll-Stmt Place place_in (SkipForm p))

pub begins_block : (s : Stmt) (p : Place) (block : List Stmt) → s ≡ Block p block → p ≡ begins_at s
unfolding begins_at roll-Stmt denote.Hole.Carrier.roll
begins_block s p block is = sym (ap begins_at is ∙ fold-roll-Stmt Place place_in (BlockForm p block))

pub begins_assert : (s : Stmt) (p : Place) (label : Option Identifier) (e : Expr) → s ≡ Assert p label e → p ≡ begins_at s
unfolding begins_at roll-Stmt denote.Hole.Carrier.roll
begins_assert s p label e is = sym (ap begins_at is ∙ fold-roll-Stmt Place place_in (AssertForm p label e))

pub begins_assume : (s : Stmt) (p : Place) (e : Expr) → s ≡ Assume p e → p ≡ begins_at s
unfolding begins_at roll-Stmt denote.Hole.Carrier.roll
begins_assume s p e is = sym (ap begins_at is ∙ fold-roll-Stmt Place place_in (AssumeForm p e))

pub begins_havoc : (s : Stmt) (p : Place) (x : Identifier) (primed : Bool) → s ≡ Havoc p x primed → p ≡ begins_at s
unfolding begins_at roll-Stmt denote.Hole.Carrier.roll
begins_havoc s p x primed is = sym (ap begins_at is ∙ fold-roll-Stmt Place place_in (HavocForm p x primed))

pub begins_assign : (s : Stmt) (p : Place) (targets : List Target) (sources : List Expr) → s ≡ Assign p targets sources → p ≡ begins_at s
unfolding begins_at roll-Stmt denote.Hole.Carrier.roll
begins_assign s p targets sources is = sym (ap begins_at is ∙ fold-roll-Stmt Place place_in (AssignForm p targets sources))

pub begins_if : (s : Stmt) (p : Place) (arms : List (Arm Stmt)) (z : Option (List Stmt)) → s ≡ If p arms z → p ≡ begins_at s
unfolding begins_at roll-Stmt denote.Hole.Carrier.roll
begins_if s p arms z is = sym (ap begins_at is ∙ fold-roll-Stmt Place place_in (IfForm p arms z))

pub begins_case : (s : Stmt) (p : Place) (arms : List (Arm Stmt)) (z : Option (List Stmt)) → s ≡ Case p arms z → p ≡ begins_at s
unfolding begins_at roll-Stmt denote.Hole.Carrier.roll
begins_case s p arms z is = sym (ap begins_at is ∙ fold-roll-Stmt Place place_in (CaseForm p arms z))

pub begins_for : (s : Stmt) (p : Place) (x : Identifier) (ty : Option TypeExpr) (from : RangeBound) (to : RangeBound) (block : List Stmt) → s ≡ For p x ty from to block → p ≡ begins_at s
unfolding begins_at roll-Stmt denote.Hole.Carrier.roll
begins_for s p x ty from to block is = sym (ap begins_at is ∙ fold-roll-Stmt Place place_in (ForForm p x ty from to block))

pub begins_call : (s : Stmt) (p : Place) (targets : List Target) (f : Identifier) (arguments : List Expr) → s ≡ Call p targets f arguments → p ≡ begins_at s
unfolding begins_at roll-Stmt denote.Hole.Carrier.roll
begins_call s p targets f arguments is = sym (ap begins_at is ∙ fold-roll-Stmt Place place_in (CallForm p targets f arguments))

pub begins_next : (s : Stmt) (p : Place) (i : Identifier) → s ≡ Next p i → p ≡ begins_at s
unfolding begins_at roll-Stmt denote.Hole.Carrier.roll
begins_next s p i is = sym (ap begins_at is ∙ fold-roll-Stmt Place place_in (NextForm p i))
