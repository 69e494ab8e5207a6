-- What the walk makes of each form of statement, by what it makes of the parts.
use Rattle.std.proofs.Common.{◌≡◌, ℕ, ◌+◌, Bool as Truth, List, [], ◌∷◌, length, map, refl, sym, ap, ◌∙◌, subst, Option, Some, None}
use Rattle.std.specs.Prelude.{Result, Err}
use Rattle.std.specs.Option.{option_map, option_and_then}
use Rattle.uc_lexer.specs.declared.place.Place.{Place}
use Rattle.uc_syntax.specs.declared.place.Identifier.{Identifier}
use Rattle.uc_syntax.specs.declared.expression.Expr.{Expr}
use Rattle.uc_syntax.specs.declared.type_expression.TypeExpr.{TypeExpr}
use Rattle.uc_syntax.specs.declared.statement.Arm.{Arm}
use Rattle.uc_syntax.specs.declared.statement.RangeBound.{RangeBound}
use Rattle.uc_syntax.specs.declared.statement.Target.{Target}
use Rattle.uc_syntax.specs.declared.statement.Stmt.{Stmt}
use Rattle.uc_syntax.specs.declared.statement.Stmt.TheOpen.{Stmt-F}
use Rattle.uc_syntax.specs.declared.statement.Stmt.TheOpen.Stmt-F.{Local as LocalForm, Skip as SkipForm, Block as BlockForm, Assume as AssumeForm, Havoc as HavocForm, Assign as AssignForm, If as IfForm, Case as CaseForm, Assert as AssertForm, For as ForForm, Call as CallForm, Next as NextForm}
use Rattle.uc_syntax.specs.declared.statement.Stmt.TheViews.{roll-Stmt, Block, If, Case, For}
use Rattle.uc_syntax.specs.declared.statement.Stmt.TheVariants.{Local, Skip, Assert, Assume, Havoc, Assign, Call, Next}
use Rattle.uc_syntax.specs.declared.statement.Stmt.TheFolds.{map-Stmt, fold-roll-Stmt}
use Rattle.uc_values.specs.declared.ty.Ty.{Ty}
use Rattle.uc_flat.specs.declared.statement.Statement.{Statement}
use Rattle.uc_flat_expressions.specs.declared.typed.Meant.{Meant}
use Rattle.uc_flat_expressions.specs.declared.typed.FlatError.{FlatError}
use Rattle.uc_flat_expressions.specs.declared.typed.FlatError.TheVariants.{NoMemory, NotBuilt}
use Rattle.uc_flat_expressions.specs.Answers.{IsAnswer}
use Rattle.uc_flat_expressions.specs.Expressions.{flat_of, all_of}
use Rattle.uc_flat_code.specs.Code.{havocked, assume_of, havoc_of, each_arm}
use Rattle.uc_flat_code.specs.declared.made.MadeCode.{MadeCode}
use Rattle.uc_flat_code.specs.declared.made.MadeArms.{MadeArms}
use Rattle.uc_flat_code.specs.CellTypes.{Types}
use Rattle.uc_flat_code.specs.Init.{Made, Making, alone, plainly, in_block, declared, assigned_by, arms_made, else_of, joined, if_of, making_form, making_of}
use Rattle.uc_flat_code.specs.FlatInitWalk.{with_names, IsWalked}

by_form : (types : Types) (s t : Stmt) (names after : List Meant) (n : ℕ) (o : Option Made) (r : Result MadeCode FlatError) → s ≡ t → making_of types t names n ≡ o → IsWalked o after r → IsWalked (making_of types s names n) after r
by_form types s t names after n o r is e h = subst (λ p. IsWalked p after r) (sym (ap (λ x. making_of types x names n) is ∙ e)) h

pub making_local : (types : Types) (p : Place) (xs : List Identifier) (ty : TypeExpr) (names : List Meant) (n : ℕ) → making_of types (Local p xs ty) names n ≡ option_and_then (λ t. declared t xs names n) (types ty)
unfolding making_of roll-Stmt denote.Hole.Carrier.roll
making_local types p xs ty names n = ap (λ f. f names n) (fold-roll-Stmt Making (making_form types) (LocalForm p xs ty))

pub making_skip : (types : Types) (p : Place) (names : List Meant) (n : ℕ) → making_of types (Skip p) names n ≡ Some (alone names [])
unfolding making_of roll-Stmt denote.Hole.Carrier.roll
making_skip types p names n = ap (λ f. f names n) (fold-roll-Stmt Making (making_form types) (SkipForm p))

pub making_block : (types : Types) (p : Place) (block : List Stmt) (names : List Meant) (n : ℕ) → making_of types (Block p block) names n ≡ in_block (map (making_of types) block) names n
unfolding making_of roll-Stmt denote.Hole.Carrier.roll
making_block types p block names n = ap (λ f. f names n) (fold-roll-Stmt Making (making_form types) (BlockForm p block))

pub making_assume : (types : Types) (p : Place) (e : Expr) (names : List Meant) (n : ℕ) → making_of types (Assume p e) names n ≡ option_map (alone names) (option_and_then assume_of (flat_of names e))
unfolding making_of roll-Stmt denote.Hole.Carrier.roll
making_assume types p e names n = ap (λ f. f names n) (fold-roll-Stmt Making (making_form types) (AssumeForm p e))

pub making_havoc : (types : Types) (p : Place) (x : Identifier) (primed : Truth) (names : List Meant) (n : ℕ) → making_of types (Havoc p x primed) names n ≡ option_map (λ k. alone names (havoc_of plainly k)) (havocked names plainly x.name primed)
unfolding making_of roll-Stmt denote.Hole.Carrier.roll
making_havoc types p x primed names n = ap (λ f. f names n) (fold-roll-Stmt Making (making_form types) (HavocForm p x primed))

pub making_assign : (types : Types) (p : Place) (ts : List Target) (es : List Expr) (names : List Meant) (n : ℕ) → making_of types (Assign p ts es) names n ≡ option_and_then (λ xs. assigned_by ts xs names n) (all_of (map (flat_of names) es))
unfolding making_of roll-Stmt denote.Hole.Carrier.roll
making_assign types p ts es names n = ap (λ f. f names n) (fold-roll-Stmt Making (making_form types) (AssignForm p ts es))

-- ---- conditionals

abbrev arms_of : {X : Type 0} → Stmt-F X → List (Arm X)
arms_of (IfForm p arms otherwise) = arms
arms_of (CaseForm p arms otherwise) = arms
arms_of other = []

abbrev else_of_form : {X : Type 0} → Stmt-F X → Option (List X)
else_of_form (IfForm p arms otherwise) = otherwise
else_of_form (CaseForm p arms otherwise) = otherwise
else_of_form other = None

arms_if : (f : Stmt → Making) (p : Place) (arms : List (Arm Stmt)) (z : Option (List Stmt)) → arms_of (map-Stmt Stmt Making f (IfForm p arms z)) ≡ map (each_arm f) arms
arms_if f p [] z = refl
arms_if f p (a ∷ arms) z = ap (λ xs. each_arm f a ∷ xs) (arms_if f p arms z)

else_if : (f : Stmt → Making) (p : Place) (arms : List (Arm Stmt)) (z : Option (List Stmt)) → else_of_form (map-Stmt Stmt Making f (IfForm p arms z)) ≡ option_map (map f) z
else_if f p arms None = refl
else_if f p arms (Some block) = refl

arms_case : (f : Stmt → Making) (p : Place) (arms : List (Arm Stmt)) (z : Option (List Stmt)) → arms_of (map-Stmt Stmt Making f (CaseForm p arms z)) ≡ map (each_arm f) arms
arms_case f p [] z = refl
arms_case f p (a ∷ arms) z = ap (λ xs. each_arm f a ∷ xs) (arms_case f p arms z)

else_case : (f : Stmt → Making) (p : Place) (arms : List (Arm Stmt)) (z : Option (List Stmt)) → else_of_form (map-Stmt Stmt Making f (CaseForm p arms z)) ≡ option_map (map f) z
else_case f p arms None = refl
else_case f p arms (Some block) = refl

pub making_if : (types : Types) (p : Place) (arms : List (Arm Stmt)) (z : Option (List Stmt)) (names : List Meant) (n : ℕ)
    → making_of types (If p arms z) names n ≡ if_of (map (each_arm (making_of types)) arms) (option_map (map (making_of types)) z) names n
unfolding making_of roll-Stmt denote.Hole.Carrier.roll
making_if types p arms z names n =
    let f = making_of types in
    ap (λ g. g names n) (fold-roll-Stmt Making (making_form types) (IfForm p arms z))
    ∙ ap (λ xs. if_of xs (else_of_form (map-Stmt Stmt Making f (IfForm p arms z))) names n) (arms_if f p arms z)
    ∙ ap (λ o. if_of (map (each_arm f) arms) o names n) (else_if f p arms z)

pub making_case : (types : Types) (p : Place) (arms : List (Arm Stmt)) (z : Option (List Stmt)) (names : List Meant) (n : ℕ)
    → making_of types (Case p arms z) names n ≡ if_of (map (each_arm (making_of types)) arms) (option_map (map (making_of types)) z) names n
unfolding making_of roll-Stmt denote.Hole.Carrier.roll
making_case types p arms z names n =
    let f = making_of types in
    ap (λ g. g names n) (fold-roll-Stmt Making (making_form types) (CaseForm p arms z))
    ∙ ap (λ xs. if_of xs (else_of_form (map-Stmt Stmt Making f (CaseForm p arms z))) names n) (arms_case f p arms z)
    ∙ ap (λ o. if_of (map (each_arm f) arms) o names n) (else_case f p arms z)

-- ---- answers of statements

pub local_err : (types : Types) (s : Stmt) (p : Place) (xs : List Identifier) (ty : TypeExpr) (names after : List Meant) (n : ℕ) (err : FlatError) → s ≡ Local p xs ty → IsAnswer {A = Ty} (types ty) (Err err) → IsWalked (making_of types s names n) after (Err err)
local_err types s p xs ty names after n NoMemory is h = tt
local_err types s p xs ty names after n NotBuilt is h = ap (λ x. making_of types x names n) is ∙ making_local types p xs ty names n ∙ ap (option_and_then (λ t. declared t xs names n)) h

pub local_made : (types : Types) (s : Stmt) (p : Place) (xs : List Identifier) (ty : TypeExpr) (t : Ty) (made : MadeCode) (names after : List Meant) (n : ℕ) → s ≡ Local p xs ty → types ty ≡ Some t → declared t xs names n ≡ Some (with_names made after)
    → making_of types s names n ≡ Some (with_names made after)
local_made types s p xs ty t made names after n is h d =
    ap (λ x. making_of types x names n) is ∙ making_local types p xs ty names n ∙ ap (option_and_then (λ u. declared u xs names n)) h ∙ d

pub skip_made : (types : Types) (s : Stmt) (p : Place) (code : List Statement) (made : MadeCode) (names : List Meant) (n : ℕ) → s ≡ Skip p → made ≡ record { code = code; further = [] } → code ≡ [] → making_of types s names n ≡ Some (with_names made names)
skip_made types s p code made names n is m c =
    ap (λ x. making_of types x names n) is ∙ making_skip types p names n ∙ ap (λ xs. Some (record { code = xs; further = []; names = names })) (sym c) ∙ ap (λ x. Some (with_names x names)) (sym m)

pub block_answer : (types : Types) (s : Stmt) (p : Place) (block : List Stmt) (names after : List Meant) (n : ℕ) (r : Result MadeCode FlatError) → s ≡ Block p block → IsWalked (in_block (map (making_of types) block) names n) after r → IsWalked (making_of types s names n) after r
block_answer types s p block names after n r is h = by_form types s (Block p block) names after n (in_block (map (making_of types) block) names n) r is (making_block types p block names n) h

pub assume_answer : (types : Types) (s : Stmt) (p : Place) (e : Expr) (names after : List Meant) (n : ℕ) (r : Result MadeCode FlatError) → s ≡ Assume p e → IsWalked (option_map (alone names) (option_and_then assume_of (flat_of names e))) after r → IsWalked (making_of types s names n) after r
assume_answer types s p e names after n r is h = by_form types s (Assume p e) names after n (option_map (alone names) (option_and_then assume_of (flat_of names e))) r is (making_assume types p e names n) h

pub havoc_answer : (types : Types) (s : Stmt) (p : Place) (x : Identifier) (primed : Truth) (names after : List Meant) (n : ℕ) (r : Result MadeCode FlatError) → s ≡ Havoc p x primed → IsWalked (option_map (λ k. alone names (havoc_of plainly k)) (havocked names plainly x.name primed)) after r → IsWalked (making_of types s names n) after r
havoc_answer types s p x primed names after n r is h = by_form types s (Havoc p x primed) names after n (option_map (λ k. alone names (havoc_of plainly k)) (havocked names plainly x.name primed)) r is (making_havoc types p x primed names n) h

pub assign_answer : (types : Types) (s : Stmt) (p : Place) (ts : List Target) (es : List Expr) (names after : List Meant) (n : ℕ) (r : Result MadeCode FlatError) → s ≡ Assign p ts es → IsWalked (option_and_then (λ xs. assigned_by ts xs names n) (all_of (map (flat_of names) es))) after r → IsWalked (making_of types s names n) after r
assign_answer types s p ts es names after n r is h = by_form types s (Assign p ts es) names after n (option_and_then (λ xs. assigned_by ts xs names n) (all_of (map (flat_of names) es))) r is (making_assign types p ts es names n) h

abbrev Choice : Types → Stmt → List (Arm Stmt) → Option (List Stmt) → List Meant → ℕ → Type 0
Choice types s arms z names n = making_of types s names n ≡ if_of (map (each_arm (making_of types)) arms) (option_map (map (making_of types)) z) names n

by_arms_err : (types : Types) (s : Stmt) (arms : List (Arm Stmt)) (z : Option (List Stmt)) (names after : List Meant) (n : ℕ) (err : FlatError) → Choice types s arms z names n
    → IsAnswer {A = MadeArms} (arms_made names n (map (each_arm (making_of types)) arms)) (Err err) → IsWalked (making_of types s names n) after (Err err)
by_arms_err types s arms z names after n NoMemory is h = tt
by_arms_err types s arms z names after n NotBuilt is h =
    is ∙ ap (option_and_then (λ a. option_map (joined a) (else_of (option_map (map (making_of types)) z) names (n + length a.further)))) h

by_arms : (types : Types) (s : Stmt) (arms : List (Arm Stmt)) (z : Option (List Stmt)) (cs : MadeArms) (names now after : List Meant) (n : ℕ) (r : Result MadeCode FlatError) → Choice types s arms z names n
    → arms_made names n (map (each_arm (making_of types)) arms) ≡ Some cs → now ≡ names → IsWalked (option_map (joined cs) (else_of (option_map (map (making_of types)) z) now (n + length cs.further))) after r → IsWalked (making_of types s names n) after r
by_arms types s arms z cs names now after n r is h same w =
    subst (λ o. IsWalked o after r)
    (sym (is ∙ ap (option_and_then (λ a. option_map (joined a) (else_of (option_map (map (making_of types)) z) names (n + length a.further)))) h))
    (subst (λ ns. IsWalked (option_map (joined cs) (else_of (option_map (map (making_of types)) z) ns (n + length cs.further))) after r) same w)

pub if_err : (types : Types) (s : Stmt) (p : Place) (arms : List (Arm Stmt)) (z : Option (List Stmt)) (names after : List Meant) (n : ℕ) (err : FlatError) → s ≡ If p arms z
    → IsAnswer {A = MadeArms} (arms_made names n (map (each_arm (making_of types)) arms)) (Err err) → IsWalked (making_of types s names n) after (Err err)
if_err types s p arms z names after n err is h = by_arms_err types s arms z names after n err (ap (λ x. making_of types x names n) is ∙ making_if types p arms z names n) h

pub if_made : (types : Types) (s : Stmt) (p : Place) (arms : List (Arm Stmt)) (z : Option (List Stmt)) (cs : MadeArms) (names now after : List Meant) (n : ℕ) (r : Result MadeCode FlatError) → s ≡ If p arms z
    → arms_made names n (map (each_arm (making_of types)) arms) ≡ Some cs → now ≡ names → IsWalked (option_map (joined cs) (else_of (option_map (map (making_of types)) z) now (n + length cs.further))) after r → IsWalked (making_of types s names n) after r
if_made types s p arms z cs names now after n r is h same w = by_arms types s arms z cs names now after n r (ap (λ x. making_of types x names n) is ∙ making_if types p arms z names n) h same w

pub case_err : (types : Types) (s : Stmt) (p : Place) (arms : List (Arm Stmt)) (z : Option (List Stmt)) (names after : List Meant) (n : ℕ) (err : FlatError) → s ≡ Case p arms z
    → IsAnswer {A = MadeArms} (arms_made names n (map (each_arm (making_of types)) arms)) (Err err) → IsWalked (making_of types s names n) after (Err err)
case_err types s p arms z names after n err is h = by_arms_err types s arms z names after n err (ap (λ x. making_of types x names n) is ∙ making_case types p arms z names n) h

pub case_made : (types : Types) (s : Stmt) (p : Place) (arms : List (Arm Stmt)) (z : Option (List Stmt)) (cs : MadeArms) (names now after : List Meant) (n : ℕ) (r : Result MadeCode FlatError) → s ≡ Case p arms z
    → arms_made names n (map (each_arm (making_of types)) arms) ≡ Some cs → now ≡ names → IsWalked (option_map (joined cs) (else_of (option_map (map (making_of types)) z) now (n + length cs.further))) after r → IsWalked (making_of types s names n) after r
case_made types s p arms z cs names now after n r is h same w = by_arms types s arms z cs names now after n r (ap (λ x. making_of types x names n) is ∙ making_case types p arms z names n) h same w

pub assert_none : (types : Types) (s : Stmt) (p : Place) (label : Option Identifier) (e : Expr) (names : List Meant) (n : ℕ) → s ≡ Assert p label e → making_of types s names n ≡ None
unfolding making_of roll-Stmt denote.Hole.Carrier.roll
assert_none types s p label e names n is = ap (λ x. making_of types x names n) is ∙ ap (λ f. f names n) (fold-roll-Stmt Making (making_form types) (AssertForm p label e))

pub for_none : (types : Types) (s : Stmt) (p : Place) (x : Identifier) (ty : Option TypeExpr) (from to : RangeBound) (block : List Stmt) (names : List Meant) (n : ℕ) → s ≡ For p x ty from to block → making_of types s names n ≡ None
unfolding making_of roll-Stmt denote.Hole.Carrier.roll
for_none types s p x ty from to block names n is = ap (λ x. making_of types x names n) is ∙ ap (λ f. f names n) (fold-roll-Stmt Making (making_form types) (ForForm p x ty from to block))

pub call_none : (types : Types) (s : Stmt) (p : Place) (targets : List Target) (f : Identifier) (arguments : List Expr) (names : List Meant) (n : ℕ) → s ≡ Call p targets f arguments → making_of types s names n ≡ None
unfolding making_of roll-Stmt denote.Hole.Carrier.roll
call_none types s p targets f arguments names n is = ap (λ x. making_of types x names n) is ∙ ap (λ f. f names n) (fold-roll-Stmt Making (making_form types) (CallForm p targets f arguments))

pub next_none : (types : Types) (s : Stmt) (p : Place) (i : Identifier) (names : List Meant) (n : ℕ) → s ≡ Next p i → making_of types s names n ≡ None
unfolding making_of roll-Stmt denote.Hole.Carrier.roll
next_none types s p i names n is = ap (λ x. making_of types x names n) is ∙ ap (λ f. f names n) (fold-roll-Stmt Making (making_form types) (NextForm p i))
