-- What each form of statement writes.
use Rattle.std.proofs.Common.{◌≡◌, ℕ, List, [], ◌∷◌, ◌++◌, map, refl, sym, ap, ◌∙◌, Bool, Option, Some, None, append_assoc, append-nil}
use Rattle.std.specs.Prelude.{slice_get, Result, Ok, Err, IfOk}
use Rattle.std.specs.List.{flat_map}
use Rattle.uc_lexer.specs.declared.place.Place.{Place}
use Rattle.uc_syntax.specs.declared.place.Identifier.{Identifier}
use Rattle.uc_syntax.specs.declared.expression.Expr.{Expr}
use Rattle.uc_syntax.specs.declared.type_expression.TypeExpr.{TypeExpr}
use Rattle.uc_syntax.specs.declared.statement.Arm.{Arm}
use Rattle.uc_syntax.specs.declared.statement.RangeBound.{RangeBound}
use Rattle.uc_syntax.specs.declared.statement.Target.{Target}
use Rattle.uc_syntax.specs.declared.statement.Stmt.{Stmt}
use Rattle.uc_syntax.specs.declared.statement.Stmt.TheOpen.{Stmt-F}
use Rattle.uc_syntax.specs.declared.statement.Stmt.TheOpen.Stmt-F.{Local as LocalForm, Skip as SkipForm, Block as BlockForm, Assume as AssumeForm, Havoc as HavocForm, Assign as AssignForm, If as IfForm, Case as CaseForm, Assert as AssertForm, For as ForForm, Call as CallForm, Next as NextForm}
use Rattle.uc_syntax.specs.declared.statement.Stmt.TheViews.{roll-Stmt, Block, If, Case, For}
use Rattle.uc_syntax.specs.declared.statement.Stmt.TheVariants.{Local, Skip, Assert, Assume, Havoc, Assign, Call, Next}
use Rattle.uc_syntax.specs.declared.statement.Stmt.TheFolds.{map-Stmt, fold-roll-Stmt}
use Rattle.uc_meaning.specs.Code.{else_block}
use Rattle.uc_flat_code.specs.Code.{each_arm}
use Rattle.uc_flat_expressions.specs.declared.typed.Meant.{Meant}
use Rattle.uc_flat_code.specs.declared.once.Part.{Part}
use Rattle.uc_flat_code.specs.Written.{parts_of, target_parts, arm_parts, same_parts, written_form, written_parts}

if_ok : {E : Type 0} (r : Result (List Part) E) (p q : List Part) → p ≡ q → IfOk r (λ o. o ≡ p) → IfOk r (λ o. o ≡ q)
if_ok (Ok o) p q e h = h ∙ e
if_ok (Err x) p q e h = tt

pub parts_alone : {E : Type 0} (names : List Meant) (s : Stmt) (before : List Part) (r : Result (List Part) E) → before ≡ [] → IfOk r (λ all. all ≡ before ++ written_parts names s) → IfOk r (λ all. all ≡ written_parts names s)
parts_alone names s before r e h = if_ok r (before ++ written_parts names s) (written_parts names s) (ap (λ ps. ps ++ written_parts names s) e) h

-- ---- what a statement writes by its form

each_mapped : (f : Stmt → List Part) (ss : List Stmt) → flat_map same_parts (map f ss) ≡ flat_map f ss
each_mapped f [] = refl
each_mapped f (s ∷ ss) = ap (λ ps. f s ++ ps) (each_mapped f ss)

arms_mapped : (f : Stmt → List Part) (arms : List (Arm Stmt)) → flat_map (arm_parts same_parts) (map (each_arm f) arms) ≡ flat_map (arm_parts f) arms
arms_mapped f [] = refl
arms_mapped f (a ∷ arms) = ap (λ ps. ps ++ flat_map (arm_parts same_parts) (map (each_arm f) arms)) (each_mapped f a.body) ∙ ap (λ ps. flat_map f a.body ++ ps) (arms_mapped f arms)

abbrev arms_in : {X : Type 0} → Stmt-F X → List (Arm X)
arms_in (IfForm p arms otherwise) = arms
arms_in (CaseForm p arms otherwise) = arms
arms_in other = []

abbrev else_in : {X : Type 0} → Stmt-F X → Option (List X)
else_in (IfForm p arms otherwise) = otherwise
else_in (CaseForm p arms otherwise) = otherwise
else_in other = None

arms_if : (f : Stmt → List Part) (p : Place) (arms : List (Arm Stmt)) (z : Option (List Stmt)) → arms_in (map-Stmt Stmt (List Part) f (IfForm p arms z)) ≡ map (each_arm f) arms
arms_if f p [] z = refl
arms_if f p (a ∷ arms) z = ap (λ xs. each_arm f a ∷ xs) (arms_if f p arms z)

arms_case : (f : Stmt → List Part) (p : Place) (arms : List (Arm Stmt)) (z : Option (List Stmt)) → arms_in (map-Stmt Stmt (List Part) f (CaseForm p arms z)) ≡ map (each_arm f) arms
arms_case f p [] z = refl
arms_case f p (a ∷ arms) z = ap (λ xs. each_arm f a ∷ xs) (arms_case f p arms z)

else_if : (f : Stmt → List Part) (p : Place) (arms : List (Arm Stmt)) (z : Option (List Stmt)) → else_block (else_in (map-Stmt Stmt (List Part) f (IfForm p arms z))) ≡ map f (else_block z)
else_if f p arms None = refl
else_if f p arms (Some block) = refl

else_case : (f : Stmt → List Part) (p : Place) (arms : List (Arm Stmt)) (z : Option (List Stmt)) → else_block (else_in (map-Stmt Stmt (List Part) f (CaseForm p arms z))) ≡ map f (else_block z)
else_case f p arms None = refl
else_case f p arms (Some block) = refl

abbrev IsChoice : List Meant → Stmt → List (Arm Stmt) → Option (List Stmt) → Type 0
IsChoice names s arms z = written_parts names s ≡ flat_map (arm_parts (written_parts names)) arms ++ flat_map (written_parts names) (else_block z)

choice_is : (f : Stmt → List Part) (arms : List (Arm Stmt)) (mapped : List (Arm (List Part))) (block : Option (List (List Part))) (z : Option (List Stmt)) → mapped ≡ map (each_arm f) arms → else_block block ≡ map f (else_block z)
    → flat_map (arm_parts same_parts) mapped ++ flat_map same_parts (else_block block) ≡ flat_map (arm_parts f) arms ++ flat_map f (else_block z)
choice_is f arms mapped block z e h =
    ap (λ xs. flat_map (arm_parts same_parts) xs ++ flat_map same_parts (else_block block)) e
    ∙ ap (λ ps. ps ++ flat_map same_parts (else_block block)) (arms_mapped f arms)
    ∙ ap (λ xs. flat_map (arm_parts f) arms ++ flat_map same_parts xs) h
    ∙ ap (λ ps. flat_map (arm_parts f) arms ++ ps) (each_mapped f (else_block z))

written_if : (names : List Meant) (p : Place) (arms : List (Arm Stmt)) (z : Option (List Stmt)) → IsChoice names (If p arms z) arms z
unfolding written_parts roll-Stmt denote.Hole.Carrier.roll
written_if names p arms z =
    let f = written_parts names in
    fold-roll-Stmt (List Part) (written_form names) (IfForm p arms z)
    ∙ choice_is f arms (arms_in (map-Stmt Stmt (List Part) f (IfForm p arms z))) (else_in (map-Stmt Stmt (List Part) f (IfForm p arms z))) z (arms_if f p arms z) (else_if f p arms z)

written_case : (names : List Meant) (p : Place) (arms : List (Arm Stmt)) (z : Option (List Stmt)) → IsChoice names (Case p arms z) arms z
unfolding written_parts roll-Stmt denote.Hole.Carrier.roll
written_case names p arms z =
    let f = written_parts names in
    fold-roll-Stmt (List Part) (written_form names) (CaseForm p arms z)
    ∙ choice_is f arms (arms_in (map-Stmt Stmt (List Part) f (CaseForm p arms z))) (else_in (map-Stmt Stmt (List Part) f (CaseForm p arms z))) z (arms_case f p arms z) (else_case f p arms z)

-- ---- what is added

nothing_adds : (names : List Meant) (s : Stmt) (before : List Part) → written_parts names s ≡ [] → before ≡ before ++ written_parts names s
nothing_adds names s before h = sym (ap (λ ps. before ++ ps) h ∙ append-nil before)

pub block_adds : {E : Type 0} (names : List Meant) (s : Stmt) (place : Place) (block slice : List Stmt) (before : List Part) (r : Result (List Part) E) → s ≡ Block place block → slice ≡ block → IfOk r (λ all. all ≡ before ++ flat_map (written_parts names) slice) → IfOk r (λ all. all ≡ before ++ written_parts names s)
unfolding written_parts roll-Stmt denote.Hole.Carrier.roll
block_adds names s place block slice before r is e h =
    if_ok r (before ++ flat_map (written_parts names) slice) (before ++ written_parts names s)
    (ap (λ b. before ++ flat_map (written_parts names) b) e
    ∙ ap (λ ps. before ++ ps) (sym (ap (written_parts names) is ∙ fold-roll-Stmt (List Part) (written_form names) (BlockForm place block) ∙ each_mapped (written_parts names) block))) h

pub havoc_adds : {E : Type 0} (names : List Meant) (s : Stmt) (place : Place) (x : Identifier) (primed : Bool) (before : List Part) (fields : List ℕ) (r : Result (List Part) E) → s ≡ Havoc place x primed → fields ≡ [] → IfOk r (λ all. all ≡ before ++ parts_of (slice_get names x.name) fields) → IfOk r (λ all. all ≡ before ++ written_parts names s)
unfolding written_parts roll-Stmt denote.Hole.Carrier.roll
havoc_adds names s place x primed before fields r is e h =
    if_ok r (before ++ parts_of (slice_get names x.name) fields) (before ++ written_parts names s)
    (ap (λ fs. before ++ parts_of (slice_get names x.name) fs) e ∙ ap (λ ps. before ++ ps) (sym (ap (written_parts names) is ∙ fold-roll-Stmt (List Part) (written_form names) (HavocForm place x primed)))) h

pub assign_adds : {E : Type 0} (names : List Meant) (s : Stmt) (place : Place) (targets slice : List Target) (sources : List Expr) (before : List Part) (r : Result (List Part) E) → s ≡ Assign place targets sources → slice ≡ targets → IfOk r (λ all. all ≡ before ++ flat_map (target_parts names) slice) → IfOk r (λ all. all ≡ before ++ written_parts names s)
unfolding written_parts roll-Stmt denote.Hole.Carrier.roll
assign_adds names s place targets slice sources before r is e h =
    if_ok r (before ++ flat_map (target_parts names) slice) (before ++ written_parts names s)
    (ap (λ ts. before ++ flat_map (target_parts names) ts) e ∙ ap (λ ps. before ++ ps) (sym (ap (written_parts names) is ∙ fold-roll-Stmt (List Part) (written_form names) (AssignForm place targets sources)))) h

choice_adds : {E : Type 0} (names : List Meant) (s : Stmt) (arms slice : List (Arm Stmt)) (z : Option (List Stmt)) (before found : List Part) (r : Result (List Part) E) → IsChoice names s arms z → slice ≡ arms → found ≡ before ++ flat_map (arm_parts (written_parts names)) slice
    → IfOk r (λ all. all ≡ found ++ flat_map (written_parts names) (else_block z)) → IfOk r (λ all. all ≡ before ++ written_parts names s)
choice_adds names s arms slice z before found r is e f h =
    if_ok r (found ++ flat_map (written_parts names) (else_block z)) (before ++ written_parts names s)
    (ap (λ ps. ps ++ flat_map (written_parts names) (else_block z)) (f ∙ ap (λ xs. before ++ flat_map (arm_parts (written_parts names)) xs) e)
    ∙ append_assoc before (flat_map (arm_parts (written_parts names)) arms) (flat_map (written_parts names) (else_block z))
    ∙ ap (λ ps. before ++ ps) (sym is)) h

pub if_adds : {E : Type 0} (names : List Meant) (s : Stmt) (p : Place) (arms slice : List (Arm Stmt)) (z : Option (List Stmt)) (before found : List Part) (r : Result (List Part) E) → s ≡ If p arms z → slice ≡ arms → found ≡ before ++ flat_map (arm_parts (written_parts names)) slice
    → IfOk r (λ all. all ≡ found ++ flat_map (written_parts names) (else_block z)) → IfOk r (λ all. all ≡ before ++ written_parts names s)
if_adds names s p arms slice z before found r is e f h = choice_adds names s arms slice z before found r (ap (written_parts names) is ∙ written_if names p arms z) e f h

pub case_adds : {E : Type 0} (names : List Meant) (s : Stmt) (p : Place) (arms slice : List (Arm Stmt)) (z : Option (List Stmt)) (before found : List Part) (r : Result (List Part) E) → s ≡ Case p arms z → slice ≡ arms → found ≡ before ++ flat_map (arm_parts (written_parts names)) slice
    → IfOk r (λ all. all ≡ found ++ flat_map (written_parts names) (else_block z)) → IfOk r (λ all. all ≡ before ++ written_parts names s)
case_adds names s p arms slice z before found r is e f h = choice_adds names s arms slice z before found r (ap (written_parts names) is ∙ written_case names p arms z) e f h

pub no_else : (names : List Meant) (z : Option (List Stmt)) (before : List Part) → z ≡ None → before ≡ before ++ flat_map (written_parts names) (else_block z)
no_else names z before h = sym (ap (λ o. before ++ flat_map (written_parts names) (else_block o)) h ∙ append-nil before)

pub some_else : {E : Type 0} (names : List Meant) (z : Option (List Stmt)) (block slice : List Stmt) (before : List Part) (r : Result (List Part) E) → z ≡ Some block → slice ≡ block → IfOk r (λ all. all ≡ before ++ flat_map (written_parts names) slice)
    → IfOk r (λ all. all ≡ before ++ flat_map (written_parts names) (else_block z))
some_else names z block slice before r e f h =
    if_ok r (before ++ flat_map (written_parts names) slice) (before ++ flat_map (written_parts names) (else_block z)) (ap (λ b. before ++ flat_map (written_parts names) b) f ∙ sym (ap (λ o. before ++ flat_map (written_parts names) (else_block o)) e)) h

pub local_adds : (names : List Meant) (s : Stmt) (p : Place) (xs : List Identifier) (ty : TypeExpr) (before : List Part) → s ≡ Local p xs ty → before ≡ before ++ written_parts names s
unfolding written_parts roll-Stmt denote.Hole.Carrier.roll
local_adds names s p xs ty before is = nothing_adds names s before (ap (written_parts names) is ∙ fold-roll-Stmt (List Part) (written_form names) (LocalForm p xs ty))

pub skip_adds : (names : List Meant) (s : Stmt) (p : Place) (before : List Part) → s ≡ Skip p → before ≡ before ++ written_parts names s
unfolding written_parts roll-Stmt denote.Hole.Carrier.roll
skip_adds names s p before is = nothing_adds names s before (ap (written_parts names) is ∙ fold-roll-Stmt (List Part) (written_form names) (SkipForm p))

pub assert_adds : (names : List Meant) (s : Stmt) (p : Place) (label : Option Identifier) (e : Expr) (before : List Part) → s ≡ Assert p label e → before ≡ before ++ written_parts names s
unfolding written_parts roll-Stmt denote.Hole.Carrier.roll
assert_adds names s p label e before is = nothing_adds names s before (ap (written_parts names) is ∙ fold-roll-Stmt (List Part) (written_form names) (AssertForm p label e))

pub assume_adds : (names : List Meant) (s : Stmt) (p : Place) (e : Expr) (before : List Part) → s ≡ Assume p e → before ≡ before ++ written_parts names s
unfolding written_parts roll-Stmt denote.Hole.Carrier.roll
assume_adds names s p e before is = nothing_adds names s before (ap (written_parts names) is ∙ fold-roll-Stmt (List Part) (written_form names) (AssumeForm p e))

pub for_adds : (names : List Meant) (s : Stmt) (p : Place) (x : Identifier) (ty : Option TypeExpr) (from to : RangeBound) (block : List Stmt) (before : List Part) → s ≡ For p x ty from to block → before ≡ before ++ written_parts names s
unfolding written_parts roll-Stmt denote.Hole.Carrier.roll
for_adds names s p x ty from to block before is = nothing_adds names s before (ap (written_parts names) is ∙ fold-roll-Stmt (List Part) (written_form names) (ForForm p x ty from to block))

pub call_adds : (names : List Meant) (s : Stmt) (p : Place) (targets : List Target) (f : Identifier) (arguments : List Expr) (before : List Part) → s ≡ Call p targets f arguments → before ≡ before ++ written_parts names s
unfolding written_parts roll-Stmt denote.Hole.Carrier.roll
call_adds names s p targets f arguments before is = nothing_adds names s before (ap (written_parts names) is ∙ fold-roll-Stmt (List Part) (written_form names) (CallForm p targets f arguments))

pub next_adds : (names : List Meant) (s : Stmt) (p : Place) (i : Identifier) (before : List Part) → s ≡ Next p i → before ≡ before ++ written_parts names s
unfolding written_parts roll-Stmt denote.Hole.Carrier.roll
next_adds names s p i before is = nothing_adds names s before (ap (written_parts names) is ∙ fold-roll-Stmt (List Part) (written_form names) (NextForm p i))
