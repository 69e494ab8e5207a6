-- The expressions in each form of a statement.
use Rattle.std.proofs.Common.{◌≡◌, Bool, List, [], ◌∷◌, ◌++◌, map, Option, None, Some, refl, ap, ◌∙◌}
use Rattle.std.specs.List.{flat_map}
use Rattle.std.specs.Borrow.{Bor}
use Rattle.std.proofs.lemmas.List.{map-append}
use Rattle.uc_lexer.specs.declared.place.Place.{Place}
use Rattle.uc_syntax.specs.declared.place.Identifier.{Identifier}
use Rattle.uc_syntax.specs.declared.type_expression.TypeExpr.{TypeExpr}
use Rattle.uc_syntax.specs.declared.expression.Expr.{Expr}
use Rattle.uc_syntax.specs.declared.statement.Target.{Target}
use Rattle.uc_syntax.specs.declared.statement.RangeBound.{RangeBound}
use Rattle.uc_syntax.specs.declared.statement.Arm.{Arm}
use Rattle.uc_syntax.specs.declared.statement.Stmt.{Stmt}
use Rattle.uc_syntax.specs.declared.statement.Stmt.TheOpen.Stmt-F.{Local as LocalForm, Skip as SkipForm, Block as BlockForm, Assert as AssertForm, Assume as AssumeForm, Havoc as HavocForm, Assign as AssignForm, If as IfForm, Case as CaseForm, For as ForForm, Call as CallForm, Next as NextForm}
use Rattle.uc_syntax.specs.declared.statement.Stmt.TheViews.{roll-Stmt, Block, If, Case, For}
use Rattle.uc_syntax.specs.declared.statement.Stmt.TheVariants.{Local, Skip, Assert, Assume, Havoc, Assign, Call, Next}
use Rattle.uc_syntax.specs.declared.statement.Stmt.TheFolds.{fold-roll-Stmt}
use Rattle.uc_syntax.proofs.Added.{append_nil}
use Rattle.uc_syntax.proofs.Labels.{flat_map_map}
use Rattle.uc_order_rules.specs.Mentions.{all_of, expressions_form, expressions_in, target_indices}
use Rattle.uc_uses.specs.Lent.{expressions_in_arm, lent}

pub lent_push : (es : List (Bor Expr)) (e : Bor Expr) → lent (es ++ e ∷ []) ≡ lent es ++ e.now ∷ []
unfolding lent
lent_push es e = map-append (λ b. b.now) es (e ∷ [])

pub lent_none : (es : List Expr) → lent [] ++ es ≡ es
unfolding lent
lent_none es = refl

pub one_by_one : (es : List Expr) → flat_map (λ e. e ∷ []) es ≡ es
one_by_one [] = refl
one_by_one (e ∷ es) = ap (λ xs. e ∷ xs) (one_by_one es)

through : Arm Stmt → Arm (List Expr)
through a = record { condition = a.condition; body = map expressions_in a.body }

of_block : (block : List Stmt) → all_of (map expressions_in block) ≡ flat_map expressions_in block
of_block block = flat_map_map (λ p. p) expressions_in block

of_arms : (as' : List (Arm Stmt)) → flat_map (λ a. a.condition ∷ all_of a.body) (map through as') ≡ flat_map expressions_in_arm as'
unfolding through
of_arms [] = refl
of_arms (a ∷ as') = (λ k. (a.condition ∷ of_block a.body k) ++ of_arms as' k)

pub form_local : (place : Place) (names : List Identifier) (type : TypeExpr) → expressions_in (Local place names type) ≡ []
unfolding expressions_in roll-Stmt denote.Hole.Carrier.roll
form_local place names type = fold-roll-Stmt (List Expr) expressions_form (LocalForm place names type)

pub form_skip : (place : Place) → expressions_in (Skip place) ≡ []
unfolding expressions_in roll-Stmt denote.Hole.Carrier.roll
form_skip place = fold-roll-Stmt (List Expr) expressions_form (SkipForm place)

pub form_assert : (place : Place) (name : Option Identifier) (e : Expr) → expressions_in (Assert place name e) ≡ e ∷ []
unfolding expressions_in roll-Stmt denote.Hole.Carrier.roll
form_assert place name e = fold-roll-Stmt (List Expr) expressions_form (AssertForm place name e)

pub form_assume : (place : Place) (e : Expr) → expressions_in (Assume place e) ≡ e ∷ []
unfolding expressions_in roll-Stmt denote.Hole.Carrier.roll
form_assume place e = fold-roll-Stmt (List Expr) expressions_form (AssumeForm place e)

pub form_havoc : (place : Place) (i : Identifier) (primed : Bool) → expressions_in (Havoc place i primed) ≡ []
unfolding expressions_in roll-Stmt denote.Hole.Carrier.roll
form_havoc place i primed = fold-roll-Stmt (List Expr) expressions_form (HavocForm place i primed)

pub form_next : (place : Place) (i : Identifier) → expressions_in (Next place i) ≡ []
unfolding expressions_in roll-Stmt denote.Hole.Carrier.roll
form_next place i = fold-roll-Stmt (List Expr) expressions_form (NextForm place i)

pub form_assign : (place : Place) (targets : List Target) (sources : List Expr) → expressions_in (Assign place targets sources) ≡ target_indices targets ++ sources
unfolding expressions_in roll-Stmt denote.Hole.Carrier.roll
form_assign place targets sources = fold-roll-Stmt (List Expr) expressions_form (AssignForm place targets sources)

pub form_call : (place : Place) (targets : List Target) (i : Identifier) (arguments : List Expr) → expressions_in (Call place targets i arguments) ≡ target_indices targets ++ arguments
unfolding expressions_in roll-Stmt denote.Hole.Carrier.roll
form_call place targets i arguments = fold-roll-Stmt (List Expr) expressions_form (CallForm place targets i arguments)

pub form_block : (place : Place) (code : List Stmt) → expressions_in (Block place code) ≡ flat_map expressions_in code
unfolding expressions_in roll-Stmt denote.Hole.Carrier.roll
form_block place code = fold-roll-Stmt (List Expr) expressions_form (BlockForm place code) ∙ of_block code

pub form_for : (place : Place) (i : Identifier) (type : Option TypeExpr) (from : RangeBound) (to : RangeBound) (code : List Stmt) → expressions_in (For place i type from to code) ≡ flat_map expressions_in code
unfolding expressions_in roll-Stmt denote.Hole.Carrier.roll
form_for place i type from to code = fold-roll-Stmt (List Expr) expressions_form (ForForm place i type from to code) ∙ of_block code

pub form_if : (place : Place) (as' : List (Arm Stmt)) (code : List Stmt) → expressions_in (If place as' (Some code)) ≡ flat_map expressions_in_arm as' ++ flat_map expressions_in code
unfolding expressions_in through roll-Stmt denote.Hole.Carrier.roll
form_if place as' code = fold-roll-Stmt (List Expr) expressions_form (IfForm place as' (Some code)) ∙ (λ k. of_arms as' k ++ of_block code k)

pub form_if_alone : (place : Place) (as' : List (Arm Stmt)) → expressions_in (If place as' None) ≡ flat_map expressions_in_arm as'
unfolding expressions_in through roll-Stmt denote.Hole.Carrier.roll
form_if_alone place as' = fold-roll-Stmt (List Expr) expressions_form (IfForm place as' None) ∙ append_nil _ ∙ of_arms as'

pub form_case : (place : Place) (as' : List (Arm Stmt)) (code : List Stmt) → expressions_in (Case place as' (Some code)) ≡ flat_map expressions_in_arm as' ++ flat_map expressions_in code
unfolding expressions_in through roll-Stmt denote.Hole.Carrier.roll
form_case place as' code = fold-roll-Stmt (List Expr) expressions_form (CaseForm place as' (Some code)) ∙ (λ k. of_arms as' k ++ of_block code k)

pub form_case_alone : (place : Place) (as' : List (Arm Stmt)) → expressions_in (Case place as' None) ≡ flat_map expressions_in_arm as'
unfolding expressions_in through roll-Stmt denote.Hole.Carrier.roll
form_case_alone place as' = fold-roll-Stmt (List Expr) expressions_form (CaseForm place as' None) ∙ append_nil _ ∙ of_arms as'
