-- What each form of statement comes to, and answers of statements by answers of their parts.
use Rattle.std.proofs.Common.{◌≡◌, Bool as Truth, ◌++◌, List, [], ◌∷◌, map, refl, sym, ap, ◌∙◌, subst, Option, Some, None}
use Rattle.std.specs.Prelude.{Result, Err}
use Rattle.std.specs.Option.{option_map, option_and_then}
use Rattle.uc_lexer.specs.declared.place.Place.{Place}
use Rattle.uc_syntax.specs.declared.place.Identifier.{Identifier}
use Rattle.uc_syntax.specs.declared.expression.Expr.{Expr}
use Rattle.uc_syntax.specs.declared.type_expression.TypeExpr.{TypeExpr}
use Rattle.uc_syntax.specs.declared.statement.Arm.{Arm}
use Rattle.uc_syntax.specs.declared.statement.RangeBound.{RangeBound}
use Rattle.uc_syntax.specs.declared.statement.Target.{Target}
use Rattle.uc_syntax.specs.declared.statement.Stmt.{Stmt}
use Rattle.uc_syntax.specs.declared.statement.Stmt.TheOpen.{Stmt-F}
use Rattle.uc_syntax.specs.declared.statement.Stmt.TheOpen.Stmt-F.{Local as LocalForm, Skip as SkipForm, Block as BlockForm, Assume as AssumeForm, Havoc as HavocForm, Assign as AssignForm, If as IfForm, Case as CaseForm, Assert as AssertForm, For as ForForm, Call as CallForm, Next as NextForm}
use Rattle.uc_syntax.specs.declared.statement.Stmt.TheViews.{roll-Stmt, Block, If, Case, For}
use Rattle.uc_syntax.specs.declared.statement.Stmt.TheVariants.{Local, Skip, Assert, Assume, Havoc, Assign, Call, Next}
use Rattle.uc_syntax.specs.declared.statement.Stmt.TheFolds.{map-Stmt, fold-roll-Stmt}
use Rattle.uc_flat.specs.declared.statement.Statement.{Statement}
use Rattle.uc_flat.specs.declared.statement.Statement.TheVariants.{If as if_statement}
use Rattle.uc_flat_expressions.specs.declared.typed.Meant.{Meant}
use Rattle.uc_flat_expressions.specs.declared.typed.FlatError.{FlatError}
use Rattle.uc_flat_expressions.specs.declared.typed.FlatError.TheVariants.{NoMemory, NotBuilt}
use Rattle.uc_flat_expressions.specs.Answers.{IsAnswer}
use Rattle.uc_flat_expressions.specs.Expressions.{flat_of, all_of}
use Rattle.uc_flat_code.specs.declared.writing.Writing.{Writing}
use Rattle.uc_flat_code.specs.declared.writing.FlatArm.{FlatArm}
use Rattle.uc_flat_code.specs.Code.{MayBe, havocked, assume_of, havoc_of, assign_of, each_arm, arm_of, joined_arms, else_of, if_of, code_form, statement_of, code_of}

pub code_skip : (names : List Meant) (w : Writing) (p : Place) → statement_of names w (Skip p) ≡ Some []
unfolding statement_of roll-Stmt denote.Hole.Carrier.roll
code_skip names w p = fold-roll-Stmt MayBe (code_form names w) (SkipForm p)

pub code_block : (names : List Meant) (w : Writing) (p : Place) (block : List Stmt) → statement_of names w (Block p block) ≡ code_of names w block
unfolding statement_of roll-Stmt denote.Hole.Carrier.roll
code_block names w p block = fold-roll-Stmt MayBe (code_form names w) (BlockForm p block)

pub code_assume : (names : List Meant) (w : Writing) (p : Place) (e : Expr) → statement_of names w (Assume p e) ≡ option_and_then assume_of (flat_of names e)
unfolding statement_of roll-Stmt denote.Hole.Carrier.roll
code_assume names w p e = fold-roll-Stmt MayBe (code_form names w) (AssumeForm p e)

pub code_havoc : (names : List Meant) (w : Writing) (p : Place) (x : Identifier) (primed : Truth) → statement_of names w (Havoc p x primed) ≡ option_map (havoc_of w) (havocked names w x.name primed)
unfolding statement_of roll-Stmt denote.Hole.Carrier.roll
code_havoc names w p x primed = fold-roll-Stmt MayBe (code_form names w) (HavocForm p x primed)

pub code_assign : (names : List Meant) (w : Writing) (p : Place) (targets : List Target) (sources : List Expr) → statement_of names w (Assign p targets sources) ≡ assign_of names w targets sources
unfolding statement_of roll-Stmt denote.Hole.Carrier.roll
code_assign names w p targets sources = fold-roll-Stmt MayBe (code_form names w) (AssignForm p targets sources)

-- ---- conditionals

abbrev arms_of : {X : Type 0} → Stmt-F X → List (Arm X)
arms_of (IfForm p arms otherwise) = arms
arms_of (CaseForm p arms otherwise) = arms
arms_of other = []

abbrev else_of_form : {X : Type 0} → Stmt-F X → Option (List X)
else_of_form (IfForm p arms otherwise) = otherwise
else_of_form (CaseForm p arms otherwise) = otherwise
else_of_form other = None

arms_if : (f : Stmt → MayBe) (p : Place) (arms : List (Arm Stmt)) (z : Option (List Stmt)) → arms_of (map-Stmt Stmt MayBe f (IfForm p arms z)) ≡ map (each_arm f) arms
arms_if f p [] z = refl
arms_if f p (a ∷ arms) z = ap (λ xs. each_arm f a ∷ xs) (arms_if f p arms z)

else_if : (f : Stmt → MayBe) (p : Place) (arms : List (Arm Stmt)) (z : Option (List Stmt)) → else_of_form (map-Stmt Stmt MayBe f (IfForm p arms z)) ≡ option_map (map f) z
else_if f p arms None = refl
else_if f p arms (Some block) = refl

arms_case : (f : Stmt → MayBe) (p : Place) (arms : List (Arm Stmt)) (z : Option (List Stmt)) → arms_of (map-Stmt Stmt MayBe f (CaseForm p arms z)) ≡ map (each_arm f) arms
arms_case f p [] z = refl
arms_case f p (a ∷ arms) z = ap (λ xs. each_arm f a ∷ xs) (arms_case f p arms z)

else_case : (f : Stmt → MayBe) (p : Place) (arms : List (Arm Stmt)) (z : Option (List Stmt)) → else_of_form (map-Stmt Stmt MayBe f (CaseForm p arms z)) ≡ option_map (map f) z
else_case f p arms None = refl
else_case f p arms (Some block) = refl

pub code_if : (names : List Meant) (w : Writing) (p : Place) (arms : List (Arm Stmt)) (z : Option (List Stmt))
    → statement_of names w (If p arms z) ≡ if_of names (map (each_arm (statement_of names w)) arms) (option_map (map (statement_of names w)) z)
unfolding statement_of roll-Stmt denote.Hole.Carrier.roll
code_if names w p arms z =
    let f = statement_of names w in
    fold-roll-Stmt MayBe (code_form names w) (IfForm p arms z)
    ∙ ap (λ xs. if_of names xs (else_of_form (map-Stmt Stmt MayBe f (IfForm p arms z)))) (arms_if f p arms z)
    ∙ ap (if_of names (map (each_arm f) arms)) (else_if f p arms z)

pub code_case : (names : List Meant) (w : Writing) (p : Place) (arms : List (Arm Stmt)) (z : Option (List Stmt))
    → statement_of names w (Case p arms z) ≡ if_of names (map (each_arm (statement_of names w)) arms) (option_map (map (statement_of names w)) z)
unfolding statement_of roll-Stmt denote.Hole.Carrier.roll
code_case names w p arms z =
    let f = statement_of names w in
    fold-roll-Stmt MayBe (code_form names w) (CaseForm p arms z)
    ∙ ap (λ xs. if_of names xs (else_of_form (map-Stmt Stmt MayBe f (CaseForm p arms z)))) (arms_case f p arms z)
    ∙ ap (if_of names (map (each_arm f) arms)) (else_case f p arms z)

-- the last of the arms is joined first
pub joined_last : (front : List FlatArm) (a : FlatArm) (rest : List Statement) → joined_arms (front ++ a ∷ []) rest ≡ joined_arms front (if_statement a.condition a.body rest ∷ [])
unfolding joined_arms
joined_last [] a rest = refl
joined_last (b ∷ bs) a rest = ap (λ code. if_statement b.condition b.body code ∷ []) (joined_last bs a rest)

-- ---- answers of statements

by_form : (names : List Meant) (w : Writing) (s t : Stmt) (o : MayBe) (r : Result (List Statement) FlatError) → s ≡ t → statement_of names w t ≡ o → IsAnswer o r → IsAnswer (statement_of names w s) r
by_form names w s t o r is e h = subst (λ p. IsAnswer p r) (sym (ap (statement_of names w) is ∙ e)) h

pub skip_empty : (names : List Meant) (w : Writing) (s : Stmt) (p : Place) → s ≡ Skip p → statement_of names w s ≡ Some []
skip_empty names w s p is = ap (statement_of names w) is ∙ code_skip names w p

pub local_none : (names : List Meant) (w : Writing) (s : Stmt) (p : Place) (xs : List Identifier) (ty : TypeExpr) → s ≡ Local p xs ty → statement_of names w s ≡ None
unfolding statement_of roll-Stmt denote.Hole.Carrier.roll
local_none names w s p xs ty is = ap (statement_of names w) is ∙ fold-roll-Stmt MayBe (code_form names w) (LocalForm p xs ty)

pub assert_none : (names : List Meant) (w : Writing) (s : Stmt) (p : Place) (label : Option Identifier) (e : Expr) → s ≡ Assert p label e → statement_of names w s ≡ None
unfolding statement_of roll-Stmt denote.Hole.Carrier.roll
assert_none names w s p label e is = ap (statement_of names w) is ∙ fold-roll-Stmt MayBe (code_form names w) (AssertForm p label e)

pub for_none : (names : List Meant) (w : Writing) (s : Stmt) (p : Place) (x : Identifier) (ty : Option TypeExpr) (from to : RangeBound) (block : List Stmt) → s ≡ For p x ty from to block → statement_of names w s ≡ None
unfolding statement_of roll-Stmt denote.Hole.Carrier.roll
for_none names w s p x ty from to block is = ap (statement_of names w) is ∙ fold-roll-Stmt MayBe (code_form names w) (ForForm p x ty from to block)

pub call_none : (names : List Meant) (w : Writing) (s : Stmt) (p : Place) (targets : List Target) (f : Identifier) (arguments : List Expr) → s ≡ Call p targets f arguments → statement_of names w s ≡ None
unfolding statement_of roll-Stmt denote.Hole.Carrier.roll
call_none names w s p targets f arguments is = ap (statement_of names w) is ∙ fold-roll-Stmt MayBe (code_form names w) (CallForm p targets f arguments)

pub next_none : (names : List Meant) (w : Writing) (s : Stmt) (p : Place) (i : Identifier) → s ≡ Next p i → statement_of names w s ≡ None
unfolding statement_of roll-Stmt denote.Hole.Carrier.roll
next_none names w s p i is = ap (statement_of names w) is ∙ fold-roll-Stmt MayBe (code_form names w) (NextForm p i)

pub block_answer : (names : List Meant) (w : Writing) (s : Stmt) (p : Place) (block : List Stmt) (r : Result (List Statement) FlatError) → s ≡ Block p block → IsAnswer (code_of names w block) r → IsAnswer (statement_of names w s) r
block_answer names w s p block r is h = by_form names w s (Block p block) (code_of names w block) r is (code_block names w p block) h

pub assume_answer : (names : List Meant) (w : Writing) (s : Stmt) (p : Place) (e : Expr) (r : Result (List Statement) FlatError) → s ≡ Assume p e → IsAnswer (option_and_then assume_of (flat_of names e)) r → IsAnswer (statement_of names w s) r
assume_answer names w s p e r is h = by_form names w s (Assume p e) (option_and_then assume_of (flat_of names e)) r is (code_assume names w p e) h

pub havoc_answer : (names : List Meant) (w : Writing) (s : Stmt) (p : Place) (x : Identifier) (primed : Truth) (r : Result (List Statement) FlatError) → s ≡ Havoc p x primed
    → IsAnswer (option_map (havoc_of w) (havocked names w x.name primed)) r → IsAnswer (statement_of names w s) r
havoc_answer names w s p x primed r is h = by_form names w s (Havoc p x primed) (option_map (havoc_of w) (havocked names w x.name primed)) r is (code_havoc names w p x primed) h

pub assign_answer : (names : List Meant) (w : Writing) (s : Stmt) (p : Place) (targets : List Target) (sources : List Expr) (r : Result (List Statement) FlatError) → s ≡ Assign p targets sources
    → IsAnswer (assign_of names w targets sources) r → IsAnswer (statement_of names w s) r
assign_answer names w s p targets sources r is h = by_form names w s (Assign p targets sources) (assign_of names w targets sources) r is (code_assign names w p targets sources) h

-- ---- answers of conditionals

abbrev Choice : List Meant → Writing → Stmt → List (Arm Stmt) → Option (List Stmt) → Type 0
Choice names w s arms z = statement_of names w s ≡ if_of names (map (each_arm (statement_of names w)) arms) (option_map (map (statement_of names w)) z)

then_nothing : {X Y Z : Type 0} (f : X → Y → Z) (o : Option X) → option_and_then (λ x. option_map (f x) None) o ≡ None
then_nothing f None = refl
then_nothing f (Some x) = refl

by_arms_err : (names : List Meant) (w : Writing) (s : Stmt) (arms : List (Arm Stmt)) (z : Option (List Stmt)) (err : FlatError) → Choice names w s arms z
    → IsAnswer {A = List FlatArm} (all_of (map (arm_of names) (map (each_arm (statement_of names w)) arms))) (Err err) → IsAnswer {A = List Statement} (statement_of names w s) (Err err)
by_arms_err names w s arms z NoMemory is h = tt
by_arms_err names w s arms z NotBuilt is h = is ∙ ap (option_and_then (λ bodies. option_map (joined_arms bodies) (else_of (option_map (map (statement_of names w)) z)))) h

by_alone : (names : List Meant) (w : Writing) (s : Stmt) (arms : List (Arm Stmt)) (z : Option (List Stmt)) (cs : List FlatArm) (r : Result (List Statement) FlatError) → Choice names w s arms z → z ≡ None
    → (all_of (map (arm_of names) (map (each_arm (statement_of names w)) arms))) ≡ Some cs → IsAnswer (Some (joined_arms cs [])) r → IsAnswer (statement_of names w s) r
by_alone names w s arms z cs r is none h a =
    subst (λ o. IsAnswer o r)
    (sym (is ∙ ap (λ o. if_of names (map (each_arm (statement_of names w)) arms) (option_map (map (statement_of names w)) o)) none ∙ ap (option_and_then (λ bodies. option_map (joined_arms bodies) (Some []))) h)) a

by_else_err : (names : List Meant) (w : Writing) (s : Stmt) (arms : List (Arm Stmt)) (z : Option (List Stmt)) (block : List Stmt) (err : FlatError) → Choice names w s arms z → z ≡ Some block
    → IsAnswer {A = List Statement} (code_of names w block) (Err err) → IsAnswer {A = List Statement} (statement_of names w s) (Err err)
by_else_err names w s arms z block NoMemory is some h = tt
by_else_err names w s arms z block NotBuilt is some h =
    is ∙ ap (λ o. if_of names (map (each_arm (statement_of names w)) arms) (option_map (map (statement_of names w)) o)) some
    ∙ ap (λ o. option_and_then (λ bodies. option_map (joined_arms bodies) o) (all_of (map (arm_of names) (map (each_arm (statement_of names w)) arms)))) h ∙ then_nothing joined_arms (all_of (map (arm_of names) (map (each_arm (statement_of names w)) arms)))

by_else : (names : List Meant) (w : Writing) (s : Stmt) (arms : List (Arm Stmt)) (z : Option (List Stmt)) (block : List Stmt) (cs : List FlatArm) (rest : List Statement) (r : Result (List Statement) FlatError)
    → Choice names w s arms z → z ≡ Some block → (all_of (map (arm_of names) (map (each_arm (statement_of names w)) arms))) ≡ Some cs → code_of names w block ≡ Some rest → IsAnswer (Some (joined_arms cs rest)) r → IsAnswer (statement_of names w s) r
by_else names w s arms z block cs rest r is some h b a =
    subst (λ o. IsAnswer o r)
    (sym (is ∙ ap (λ o. if_of names (map (each_arm (statement_of names w)) arms) (option_map (map (statement_of names w)) o)) some
    ∙ ap (λ o. option_and_then (λ bodies. option_map (joined_arms bodies) o) (all_of (map (arm_of names) (map (each_arm (statement_of names w)) arms)))) b ∙ ap (option_and_then (λ bodies. option_map (joined_arms bodies) (Some rest))) h)) a

pub if_arms_err : (names : List Meant) (w : Writing) (s : Stmt) (p : Place) (arms : List (Arm Stmt)) (z : Option (List Stmt)) (err : FlatError) → s ≡ If p arms z
    → IsAnswer {A = List FlatArm} (all_of (map (arm_of names) (map (each_arm (statement_of names w)) arms))) (Err err) → IsAnswer {A = List Statement} (statement_of names w s) (Err err)
if_arms_err names w s p arms z err is h = by_arms_err names w s arms z err (ap (statement_of names w) is ∙ code_if names w p arms z) h

pub if_alone : (names : List Meant) (w : Writing) (s : Stmt) (p : Place) (arms : List (Arm Stmt)) (z : Option (List Stmt)) (cs : List FlatArm) (r : Result (List Statement) FlatError) → s ≡ If p arms z → z ≡ None
    → (all_of (map (arm_of names) (map (each_arm (statement_of names w)) arms))) ≡ Some cs → IsAnswer (Some (joined_arms cs [])) r → IsAnswer (statement_of names w s) r
if_alone names w s p arms z cs r is none h a = by_alone names w s arms z cs r (ap (statement_of names w) is ∙ code_if names w p arms z) none h a

pub if_else_err : (names : List Meant) (w : Writing) (s : Stmt) (p : Place) (arms : List (Arm Stmt)) (z : Option (List Stmt)) (block : List Stmt) (err : FlatError) → s ≡ If p arms z → z ≡ Some block
    → IsAnswer {A = List Statement} (code_of names w block) (Err err) → IsAnswer {A = List Statement} (statement_of names w s) (Err err)
if_else_err names w s p arms z block err is some h = by_else_err names w s arms z block err (ap (statement_of names w) is ∙ code_if names w p arms z) some h

pub if_else : (names : List Meant) (w : Writing) (s : Stmt) (p : Place) (arms : List (Arm Stmt)) (z : Option (List Stmt)) (block : List Stmt) (cs : List FlatArm) (rest : List Statement) (r : Result (List Statement) FlatError)
    → s ≡ If p arms z → z ≡ Some block → (all_of (map (arm_of names) (map (each_arm (statement_of names w)) arms))) ≡ Some cs → code_of names w block ≡ Some rest → IsAnswer (Some (joined_arms cs rest)) r → IsAnswer (statement_of names w s) r
if_else names w s p arms z block cs rest r is some h b a = by_else names w s arms z block cs rest r (ap (statement_of names w) is ∙ code_if names w p arms z) some h b a

pub case_arms_err : (names : List Meant) (w : Writing) (s : Stmt) (p : Place) (arms : List (Arm Stmt)) (z : Option (List Stmt)) (err : FlatError) → s ≡ Case p arms z
    → IsAnswer {A = List FlatArm} (all_of (map (arm_of names) (map (each_arm (statement_of names w)) arms))) (Err err) → IsAnswer {A = List Statement} (statement_of names w s) (Err err)
case_arms_err names w s p arms z err is h = by_arms_err names w s arms z err (ap (statement_of names w) is ∙ code_case names w p arms z) h

pub case_alone : (names : List Meant) (w : Writing) (s : Stmt) (p : Place) (arms : List (Arm Stmt)) (z : Option (List Stmt)) (cs : List FlatArm) (r : Result (List Statement) FlatError) → s ≡ Case p arms z → z ≡ None
    → (all_of (map (arm_of names) (map (each_arm (statement_of names w)) arms))) ≡ Some cs → IsAnswer (Some (joined_arms cs [])) r → IsAnswer (statement_of names w s) r
case_alone names w s p arms z cs r is none h a = by_alone names w s arms z cs r (ap (statement_of names w) is ∙ code_case names w p arms z) none h a

pub case_else_err : (names : List Meant) (w : Writing) (s : Stmt) (p : Place) (arms : List (Arm Stmt)) (z : Option (List Stmt)) (block : List Stmt) (err : FlatError) → s ≡ Case p arms z → z ≡ Some block
    → IsAnswer {A = List Statement} (code_of names w block) (Err err) → IsAnswer {A = List Statement} (statement_of names w s) (Err err)
case_else_err names w s p arms z block err is some h = by_else_err names w s arms z block err (ap (statement_of names w) is ∙ code_case names w p arms z) some h

pub case_else : (names : List Meant) (w : Writing) (s : Stmt) (p : Place) (arms : List (Arm Stmt)) (z : Option (List Stmt)) (block : List Stmt) (cs : List FlatArm) (rest : List Statement) (r : Result (List Statement) FlatError)
    → s ≡ Case p arms z → z ≡ Some block → (all_of (map (arm_of names) (map (each_arm (statement_of names w)) arms))) ≡ Some cs → code_of names w block ≡ Some rest → IsAnswer (Some (joined_arms cs rest)) r → IsAnswer (statement_of names w s) r
case_else names w s p arms z block cs rest r is some h b a = by_else names w s arms z block cs rest r (ap (statement_of names w) is ∙ code_case names w p arms z) some h b a
