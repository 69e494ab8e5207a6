-- The names in each form of statement, in terms of its parts.
use Rattle.std.proofs.Common.{◌≡◌, ◌≤◌, ◌⊎◌, inl, inr, List, [], ◌∷◌, ◌++◌, length, take, map, refl, ap, sym, ◌∙◌, append_assoc}
use Rattle.std.specs.Prelude.{ℕ, Bool, Option, Some, None}
use Rattle.std.proofs.lemmas.List.{append-nil, take_all}
use Rattle.uc_lexer.specs.declared.place.Place.{Place}
use Rattle.uc_syntax.specs.declared.place.Identifier.{Identifier}
use Rattle.uc_syntax.specs.declared.type_expression.TypeExpr.{TypeExpr}
use Rattle.uc_syntax.specs.declared.statement.RangeBound.{RangeBound}
use Rattle.uc_syntax.specs.declared.statement.Arm.{Arm}
use Rattle.uc_syntax.specs.declared.statement.Stmt.{Stmt}
use Rattle.uc_syntax.specs.declared.statement.Stmt.TheOpen.Stmt-F.{Local as LocalForm, Skip as SkipForm, Assert as AssertForm, Assume as AssumeForm, Havoc as HavocForm, Assign as AssignForm, Call as CallForm, Next as NextForm, Block as BlockForm, If as IfForm, Case as CaseForm, For as ForForm}
use Rattle.uc_syntax.specs.declared.statement.Stmt.TheViews.{roll-Stmt, Block, If, Case, For}
use Rattle.uc_syntax.specs.declared.statement.Stmt.TheVariants.{Local, Skip, Assert, Assume, Havoc, Assign, Call, Next}
use Rattle.uc_syntax.specs.declared.statement.Target.{Target}
use Rattle.uc_syntax.specs.declared.expression.Expr.{Expr}
use Rattle.uc_syntax.specs.declared.statement.Stmt.TheFolds.{map-Stmt, fold-roll-Stmt}
use Rattle.uc_report.specs.Named.{Named, joined, named_form, named_in, label_named, named_in_block, named_in_arms, named_in_else}

joined-map : (ss : List Stmt) → joined (map named_in ss) ≡ named_in_block ss
joined-map [] = refl
joined-map (s ∷ ss) = ap (λ ns. named_in s ++ ns) (joined-map ss)

pub named_block : (place : Place) (block : List Stmt) → named_in (Block place block) ≡ named_in_block block
unfolding named_in roll-Stmt denote.Hole.Carrier.roll
named_block place block = fold-roll-Stmt (List Named) named_form (BlockForm place block) ∙ joined-map block

pub named_for : (place : Place) (x : Identifier) (type : Option TypeExpr) (from to : RangeBound) (block : List Stmt) →
    named_in (For place x type from to block) ≡ named_in_block block
unfolding named_in roll-Stmt denote.Hole.Carrier.roll
named_for place x type from to block = fold-roll-Stmt (List Named) named_form (ForForm place x type from to block) ∙ joined-map block

both : {A : Type 0} (a b c d : List A) → a ≡ b → c ≡ d → a ++ c ≡ b ++ d
both a b c d p q = cc

-- an arm more
more : {A : Type 0} (a b c d e f : List A) → a ≡ b → c ++ d ≡ e ++ f → (a ++ c) ++ d ≡ (b ++ e) ++ f
more a b c d e f p q = append_assoc a c d ∙ both a b (c ++ d) (e ++ f) p q ∙ sym (append_assoc b e f)

if_layer : (place : Place) (arms : List (Arm Stmt)) (otherwise : Option (List Stmt)) →
    named_form (map-Stmt Stmt (List Named) named_in (IfForm place arms otherwise)) ≡ named_in_arms arms ++ named_in_else otherwise
if_layer place [] None = refl
if_layer place [] (Some block) = append-nil (joined (map named_in block)) ∙ joined-map block
if_layer place (a ∷ arms) otherwise = more _ _ _ _ _ _ (joined-map a.body) (if_layer place arms otherwise)

case_layer : (place : Place) (arms : List (Arm Stmt)) (otherwise : Option (List Stmt)) →
    named_form (map-Stmt Stmt (List Named) named_in (CaseForm place arms otherwise)) ≡ named_in_arms arms ++ named_in_else otherwise
case_layer place [] None = refl
case_layer place [] (Some block) = append-nil (joined (map named_in block)) ∙ joined-map block
case_layer place (a ∷ arms) otherwise = more _ _ _ _ _ _ (joined-map a.body) (case_layer place arms otherwise)

pub named_if : (place : Place) (arms : List (Arm Stmt)) (otherwise : Option (List Stmt)) →
    named_in (If place arms otherwise) ≡ named_in_arms arms ++ named_in_else otherwise
unfolding named_in roll-Stmt denote.Hole.Carrier.roll
named_if place arms otherwise = fold-roll-Stmt (List Named) named_form (IfForm place arms otherwise) ∙ if_layer place arms otherwise

pub named_case : (place : Place) (arms : List (Arm Stmt)) (otherwise : Option (List Stmt)) →
    named_in (Case place arms otherwise) ≡ named_in_arms arms ++ named_in_else otherwise
unfolding named_in roll-Stmt denote.Hole.Carrier.roll
named_case place arms otherwise = fold-roll-Stmt (List Named) named_form (CaseForm place arms otherwise) ∙ case_layer place arms otherwise

-- an `if` or a `case` of these arms
abbrev pub IsConditional : Stmt → List (Arm Stmt) → Option (List Stmt) → Type 0
IsConditional s arms otherwise = ((place : Place) × (s ≡ If place arms otherwise)) ⊎ ((place : Place) × (s ≡ Case place arms otherwise))

named_conditional : (s : Stmt) (arms : List (Arm Stmt)) (otherwise : Option (List Stmt)) → IsConditional s arms otherwise →
    named_in s ≡ named_in_arms arms ++ named_in_else otherwise
named_conditional s arms otherwise (inl (place, is)) = ap named_in is ∙ named_if place arms otherwise
named_conditional s arms otherwise (inr (place, is)) = ap named_in is ∙ named_case place arms otherwise

-- after all arms, and no block behind them
pub named_arms_alone : (s : Stmt) (arms items : List (Arm Stmt)) (otherwise : Option (List Stmt)) (k : ℕ) (before now : List Named) →
    IsConditional s arms otherwise → items ≡ arms → length items ≤ k → otherwise ≡ None →
    now ≡ before ++ named_in_arms (take k items) → now ≡ before ++ named_in s
named_arms_alone s arms items otherwise k before now is same past none reached =
    rw (named_conditional s arms otherwise is, none, append-nil, ← same, ← take_all k items past) reached

-- after all arms and the block behind them
pub named_arms_else : (s : Stmt) (arms items : List (Arm Stmt)) (otherwise : Option (List Stmt)) (block lent : List Stmt) (k : ℕ) (before between now : List Named) →
    IsConditional s arms otherwise → items ≡ arms → length items ≤ k → otherwise ≡ Some block → lent ≡ block →
    between ≡ before ++ named_in_arms (take k items) → now ≡ between ++ named_in_block lent → now ≡ before ++ named_in s
named_arms_else s arms items otherwise block lent k before between now is same past some read reached last =
    let reached' : between ≡ before ++ named_in_arms arms = rw (← same, ← take_all k items past) reached in
    rw (named_conditional s arms otherwise is, some, ← append_assoc before (named_in_arms arms) (named_in_block block), ← reached', ← read) last

pub named_local : (place : Place) (names : List Identifier) (type : TypeExpr) → named_in (Local place names type) ≡ []
unfolding named_in roll-Stmt denote.Hole.Carrier.roll
named_local place names type = fold-roll-Stmt (List Named) named_form (LocalForm place names type)

pub named_skip : (place : Place) → named_in (Skip place) ≡ []
unfolding named_in roll-Stmt denote.Hole.Carrier.roll
named_skip place = fold-roll-Stmt (List Named) named_form (SkipForm place)

pub named_assert : (place : Place) (label : Option Identifier) (e : Expr) → named_in (Assert place label e) ≡ label_named place label
unfolding named_in roll-Stmt denote.Hole.Carrier.roll
named_assert place label e = fold-roll-Stmt (List Named) named_form (AssertForm place label e)

pub named_assume : (place : Place) (e : Expr) → named_in (Assume place e) ≡ []
unfolding named_in roll-Stmt denote.Hole.Carrier.roll
named_assume place e = fold-roll-Stmt (List Named) named_form (AssumeForm place e)

pub named_havoc : (place : Place) (x : Identifier) (primed : Bool) → named_in (Havoc place x primed) ≡ []
unfolding named_in roll-Stmt denote.Hole.Carrier.roll
named_havoc place x primed = fold-roll-Stmt (List Named) named_form (HavocForm place x primed)

pub named_assign : (place : Place) (targets : List Target) (sources : List Expr) → named_in (Assign place targets sources) ≡ []
unfolding named_in roll-Stmt denote.Hole.Carrier.roll
named_assign place targets sources = fold-roll-Stmt (List Named) named_form (AssignForm place targets sources)

pub named_call : (place : Place) (targets : List Target) (f : Identifier) (arguments : List Expr) → named_in (Call place targets f arguments) ≡ (place, f.name) ∷ []
unfolding named_in roll-Stmt denote.Hole.Carrier.roll
named_call place targets f arguments = fold-roll-Stmt (List Named) named_form (CallForm place targets f arguments)

pub named_next : (place : Place) (i : Identifier) → named_in (Next place i) ≡ []
unfolding named_in roll-Stmt denote.Hole.Carrier.roll
named_next place i = fold-roll-Stmt (List Named) named_form (NextForm place i)

pub ruleset named_forms = (named_block, named_for, named_if, named_case, named_local, named_skip, named_assert, named_assume, named_havoc, named_assign, named_call, named_next, append_assoc, append-nil)
