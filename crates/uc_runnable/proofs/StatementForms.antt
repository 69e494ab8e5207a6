-- The first form that does not run in each form of a statement.
use Rattle.std.proofs.Common.{◌≡◌, Bool, List, [], ◌∷◌, map, Option, Some, None, refl, sym, ap, ◌∙◌}
use Rattle.std.specs.Option.{option_or}
use Rattle.uc_lexer.specs.declared.place.Place.{Place}
use Rattle.uc_syntax.specs.declared.place.Identifier.{Identifier}
use Rattle.uc_syntax.specs.declared.type_expression.TypeExpr.{TypeExpr}
use Rattle.uc_syntax.specs.declared.expression.Expr.{Expr}
use Rattle.uc_syntax.specs.declared.statement.Target.{Target}
use Rattle.uc_syntax.specs.declared.statement.RangeBound.{RangeBound}
use Rattle.uc_syntax.specs.declared.statement.Arm.{Arm}
use Rattle.uc_syntax.specs.declared.statement.Stmt.{Stmt}
use Rattle.uc_syntax.specs.declared.statement.Stmt.TheOpen.Stmt-F.{Local as LocalForm, Skip as SkipForm, Block as BlockForm, Assert as AssertForm, Assume as AssumeForm, Havoc as HavocForm, Assign as AssignForm, If as IfForm, Case as CaseForm, For as ForForm, Call as CallForm, Next as NextForm}
use Rattle.uc_syntax.specs.declared.statement.Stmt.TheViews.{roll-Stmt, Block, If, Case, For}
use Rattle.uc_syntax.specs.declared.statement.Stmt.TheVariants.{Local, Skip, Assert, Assume, Havoc, Assign, Call, Next}
use Rattle.uc_syntax.specs.declared.statement.Stmt.TheFolds.{fold-roll-Stmt}
use Rattle.uc_meaning.specs.Lookup.{first_some}
use Rattle.uc_runnable.specs.Outside.{number_in, number_in_target, outside_arm, outside_block, outside_else, outside_statement, outside_statement_form, outside_type}
use Rattle.uc_runnable.specs.Parts.{arm_in, else_in}
use Rattle.uc_runnable.proofs.Firsts.{first_map}

pub outside_skip : (s : Stmt) (p : Place) → s ≡ Skip p → None ≡ outside_statement s
unfolding outside_statement roll-Stmt denote.Hole.Carrier.roll
outside_skip s p is = sym (ap outside_statement is ∙ fold-roll-Stmt (Option Place) outside_statement_form (SkipForm p))

pub outside_assert : (s : Stmt) (p : Place) (label : Option Identifier) (e : Expr) → s ≡ Assert p label e → Some p ≡ outside_statement s
unfolding outside_statement roll-Stmt denote.Hole.Carrier.roll
outside_assert s p label e is = sym (ap outside_statement is ∙ fold-roll-Stmt (Option Place) outside_statement_form (AssertForm p label e))

pub outside_havoc : (s : Stmt) (p : Place) (x : Identifier) (primed : Bool) → s ≡ Havoc p x primed → None ≡ outside_statement s
unfolding outside_statement roll-Stmt denote.Hole.Carrier.roll
outside_havoc s p x primed is = sym (ap outside_statement is ∙ fold-roll-Stmt (Option Place) outside_statement_form (HavocForm p x primed))

pub outside_for : (s : Stmt) (p : Place) (x : Identifier) (type : Option TypeExpr) (from to : RangeBound) (block : List Stmt) → s ≡ For p x type from to block → Some p ≡ outside_statement s
unfolding outside_statement roll-Stmt denote.Hole.Carrier.roll
outside_for s p x type from to block is = sym (ap outside_statement is ∙ fold-roll-Stmt (Option Place) outside_statement_form (ForForm p x type from to block))

pub outside_next : (s : Stmt) (p : Place) (i : Identifier) → s ≡ Next p i → None ≡ outside_statement s
unfolding outside_statement roll-Stmt denote.Hole.Carrier.roll
outside_next s p i is = sym (ap outside_statement is ∙ fold-roll-Stmt (Option Place) outside_statement_form (NextForm p i))

pub outside_local : (s : Stmt) (p : Place) (names : List Identifier) (type : TypeExpr) (r : Option Place) → s ≡ Local p names type → r ≡ outside_type type → r ≡ outside_statement s
unfolding outside_statement roll-Stmt denote.Hole.Carrier.roll
outside_local s p names type r is found = found ∙ sym (ap outside_statement is ∙ fold-roll-Stmt (Option Place) outside_statement_form (LocalForm p names type))

pub outside_assume : (s : Stmt) (p : Place) (e : Expr) (r : Option Place) → s ≡ Assume p e → r ≡ number_in e → r ≡ outside_statement s
unfolding outside_statement roll-Stmt denote.Hole.Carrier.roll
outside_assume s p e r is found = found ∙ sym (ap outside_statement is ∙ fold-roll-Stmt (Option Place) outside_statement_form (AssumeForm p e))

pub outside_of_block : (s : Stmt) (p : Place) (block shown : List Stmt) (r : Option Place) → s ≡ Block p block → shown ≡ block → r ≡ outside_block shown → r ≡ outside_statement s
unfolding outside_statement roll-Stmt denote.Hole.Carrier.roll
outside_of_block s p block shown r is same found =
    found ∙ ap outside_block same ∙ sym (ap outside_statement is ∙ fold-roll-Stmt (Option Place) outside_statement_form (BlockForm p block) ∙ first_map outside_statement block)

assign_is : (p : Place) (targets : List Target) (sources : List Expr) → outside_statement (Assign p targets sources) ≡ option_or (first_some number_in_target targets) (first_some number_in sources)
unfolding outside_statement roll-Stmt denote.Hole.Carrier.roll
assign_is p targets sources = fold-roll-Stmt (Option Place) outside_statement_form (AssignForm p targets sources)

call_is : (p : Place) (targets : List Target) (f : Identifier) (arguments : List Expr) → outside_statement (Call p targets f arguments) ≡ option_or (first_some number_in_target targets) (first_some number_in arguments)
unfolding outside_statement roll-Stmt denote.Hole.Carrier.roll
call_is p targets f arguments = fold-roll-Stmt (Option Place) outside_statement_form (CallForm p targets f arguments)

-- what targets and expressions have, as they are shown
written_is : (targets targets' : List Target) (es es' : List Expr) (r a b : Option Place) → r ≡ option_or a b → targets' ≡ targets → a ≡ first_some number_in_target targets' → es' ≡ es →
    b ≡ first_some number_in es' → r ≡ option_or (first_some number_in_target targets) (first_some number_in es)
written_is targets targets' es es' r a b found same first same' second =
    found ∙ (λ j. option_or (first j) (second j)) ∙ (λ j. option_or (first_some number_in_target (same j)) (first_some number_in (same' j)))

pub outside_assign : (s : Stmt) (p : Place) (targets targets' : List Target) (es es' : List Expr) (r a b : Option Place) → s ≡ Assign p targets es → r ≡ option_or a b → targets' ≡ targets →
    a ≡ first_some number_in_target targets' → es' ≡ es → b ≡ first_some number_in es' → r ≡ outside_statement s
outside_assign s p targets targets' es es' r a b is found same first same' second =
    written_is targets targets' es es' r a b found same first same' second ∙ sym (ap outside_statement is ∙ assign_is p targets es)

pub outside_call : (s : Stmt) (p : Place) (f : Identifier) (targets targets' : List Target) (es es' : List Expr) (r a b : Option Place) → s ≡ Call p targets f es → r ≡ option_or a b → targets' ≡ targets →
    a ≡ first_some number_in_target targets' → es' ≡ es → b ≡ first_some number_in es' → r ≡ outside_statement s
outside_call s p f targets targets' es es' r a b is found same first same' second =
    written_is targets targets' es es' r a b found same first same' second ∙ sym (ap outside_statement is ∙ call_is p targets f es)

-- an arm with what its statements have
abbrev through : Arm Stmt → Arm (Option Place)
through a = record { condition = a.condition; body = map outside_statement a.body }

arms_same : (arms : List (Arm Stmt)) → first_some outside_arm (map through arms) ≡ first_some arm_in arms
unfolding first_some
arms_same [] = refl
arms_same (a ∷ more) = (λ k. option_or (option_or (number_in a.condition) (first_map outside_statement a.body k)) (arms_same more k))

abbrev through_else : Option (List Stmt) → Option (List (Option Place))
through_else None = None
through_else (Some block) = Some (map outside_statement block)

else_same : (o : Option (List Stmt)) → outside_else (through_else o) ≡ else_in o
else_same None = refl
else_same (Some block) = first_map outside_statement block

if_is : (p : Place) (arms : List (Arm Stmt)) (o : Option (List Stmt)) → outside_statement (If p arms o) ≡ option_or (first_some arm_in arms) (else_in o)
unfolding outside_statement roll-Stmt denote.Hole.Carrier.roll
if_is p arms None = fold-roll-Stmt (Option Place) outside_statement_form (IfForm p arms None) ∙ (λ k. option_or (arms_same arms k) None)
if_is p arms (Some block) = fold-roll-Stmt (Option Place) outside_statement_form (IfForm p arms (Some block)) ∙ (λ k. option_or (arms_same arms k) (else_same (Some block) k))

case_is : (p : Place) (arms : List (Arm Stmt)) (o : Option (List Stmt)) → outside_statement (Case p arms o) ≡ option_or (first_some arm_in arms) (else_in o)
unfolding outside_statement roll-Stmt denote.Hole.Carrier.roll
case_is p arms None = fold-roll-Stmt (Option Place) outside_statement_form (CaseForm p arms None) ∙ (λ k. option_or (arms_same arms k) None)
case_is p arms (Some block) = fold-roll-Stmt (Option Place) outside_statement_form (CaseForm p arms (Some block)) ∙ (λ k. option_or (arms_same arms k) (else_same (Some block) k))

pub outside_if : (s : Stmt) (p : Place) (arms arms' : List (Arm Stmt)) (o : Option (List Stmt)) (r a b : Option Place) → s ≡ If p arms o → r ≡ option_or a b → arms' ≡ arms → a ≡ first_some arm_in arms' →
    b ≡ else_in o → r ≡ outside_statement s
outside_if s p arms arms' o r a b is found same first second =
    found ∙ (λ j. option_or (first j) (second j)) ∙ ap (λ xs. option_or (first_some arm_in xs) (else_in o)) same ∙ sym (ap outside_statement is ∙ if_is p arms o)

pub outside_case : (s : Stmt) (p : Place) (arms arms' : List (Arm Stmt)) (o : Option (List Stmt)) (r a b : Option Place) → s ≡ Case p arms o → r ≡ option_or a b → arms' ≡ arms → a ≡ first_some arm_in arms' →
    b ≡ else_in o → r ≡ outside_statement s
outside_case s p arms arms' o r a b is found same first second =
    found ∙ (λ j. option_or (first j) (second j)) ∙ ap (λ xs. option_or (first_some arm_in xs) (else_in o)) same ∙ sym (ap outside_statement is ∙ case_is p arms o)
