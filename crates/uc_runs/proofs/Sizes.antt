-- How large statements are.
use Rattle.std.proofs.Common.{◌≡◌, ℕ, ◌+◌, ◌≤◌, Bool, true, false, List, [], ◌∷◌, map, Option, Some, None, refl, ap, ◌∙◌, arith}
use Rattle.std.specs.Prelude.{if◌then◌else◌}
use Rattle.uc_lexer.specs.declared.place.Place.{Place}
use Rattle.uc_syntax.specs.declared.place.Identifier.{Identifier}
use Rattle.uc_syntax.specs.declared.type_expression.TypeExpr.{TypeExpr}
use Rattle.uc_syntax.specs.declared.expression.Expr.{Expr}
use Rattle.uc_syntax.specs.declared.statement.Arm.{Arm}
use Rattle.uc_syntax.specs.declared.statement.RangeBound.{RangeBound}
use Rattle.uc_syntax.specs.declared.statement.Target.{Target}
use Rattle.uc_syntax.specs.declared.statement.Stmt.{Stmt}
use Rattle.uc_syntax.specs.declared.statement.Stmt.TheOpen.{Stmt-F}
use Rattle.uc_syntax.specs.declared.statement.Stmt.TheOpen.Stmt-F.{Block as BlockForm, If as IfForm, Case as CaseForm, For as ForForm, Call as CallForm}
use Rattle.uc_syntax.specs.declared.statement.Stmt.TheViews.{roll-Stmt, Block, If, Case, For}
use Rattle.uc_syntax.specs.declared.statement.Stmt.TheVariants.{Call}
use Rattle.uc_syntax.specs.declared.statement.Stmt.TheFolds.{fold-Stmt, map-Stmt, fold-roll-Stmt}
use Rattle.uc_meaning.specs.declared.scope.Scope.{Scope}
use Rattle.uc_meaning.specs.Lookup.{System}
use Rattle.uc_meaning.specs.Expressions.{is_true}
use Rattle.uc_meaning.specs.Code.{taken, else_block}
use Rattle.uc_meaning.specs.Shapes.{total}
use Rattle.uc_runs.proofs.Layers.{arms_in, else_in}

abbrev body_weight : Arm ℕ → ℕ
body_weight a = total a.body

abbrev size_form : Stmt-F ℕ → ℕ
size_form (BlockForm place block) = 1 + total block
size_form (IfForm place arms otherwise) = 1 + (total (map body_weight arms) + total (else_block otherwise))
size_form (CaseForm place arms otherwise) = 1 + (total (map body_weight arms) + total (else_block otherwise))
size_form (ForForm place x type from to block) = 1 + total block
size_form other = 1

unfoldable pub size : Stmt → ℕ
size = fold-Stmt ℕ size_form

abbrev pub sizes : List Stmt → ℕ
sizes code = total (map size code)

abbrev pub arm_size : Arm Stmt → ℕ
arm_size a = sizes a.body

abbrev pub arms_size : List (Arm Stmt) → Option (List Stmt) → ℕ
arms_size arms otherwise = total (map arm_size arms) + sizes (else_block otherwise)

pub block_size : (p : Place) (block : List Stmt) → size (Block p block) ≡ 1 + sizes block
unfolding size roll-Stmt denote.Hole.Carrier.roll
block_size p block = fold-roll-Stmt ℕ size_form (BlockForm p block)

pub for_size : (p : Place) (x : Identifier) (type : Option TypeExpr) (from to : RangeBound) (block : List Stmt) → size (For p x type from to block) ≡ 1 + sizes block
unfolding size roll-Stmt denote.Hole.Carrier.roll
for_size p x type from to block = fold-roll-Stmt ℕ size_form (ForForm p x type from to block)

pub call_size : (p : Place) (targets : List Target) (f : Identifier) (arguments : List Expr) → size (Call p targets f arguments) ≡ 1
unfolding size roll-Stmt denote.Hole.Carrier.roll
call_size p targets f arguments = fold-roll-Stmt ℕ size_form (CallForm p targets f arguments)

if_arms : (p : Place) (arms : List (Arm Stmt)) (z : Option (List Stmt)) → total (map body_weight (arms_in (map-Stmt Stmt ℕ size (IfForm p arms z)))) ≡ total (map arm_size arms)
unfolding total
if_arms p [] z = refl
if_arms p (a ∷ arms) z = ap (λ n. sizes a.body + n) (if_arms p arms z)

case_arms : (p : Place) (arms : List (Arm Stmt)) (z : Option (List Stmt)) → total (map body_weight (arms_in (map-Stmt Stmt ℕ size (CaseForm p arms z)))) ≡ total (map arm_size arms)
unfolding total
case_arms p [] z = refl
case_arms p (a ∷ arms) z = ap (λ n. sizes a.body + n) (case_arms p arms z)

if_else : (p : Place) (arms : List (Arm Stmt)) (z : Option (List Stmt)) → total (else_block (else_in (map-Stmt Stmt ℕ size (IfForm p arms z)))) ≡ sizes (else_block z)
if_else p arms None = refl
if_else p arms (Some block) = refl

case_else : (p : Place) (arms : List (Arm Stmt)) (z : Option (List Stmt)) → total (else_block (else_in (map-Stmt Stmt ℕ size (CaseForm p arms z)))) ≡ sizes (else_block z)
case_else p arms None = refl
case_else p arms (Some block) = refl

pub if_size : (p : Place) (arms : List (Arm Stmt)) (z : Option (List Stmt)) → size (If p arms z) ≡ 1 + arms_size arms z
unfolding size roll-Stmt denote.Hole.Carrier.roll
if_size p arms z = fold-roll-Stmt ℕ size_form (IfForm p arms z) ∙ (λ i. 1 + (if_arms p arms z i + if_else p arms z i))

pub case_size : (p : Place) (arms : List (Arm Stmt)) (z : Option (List Stmt)) → size (Case p arms z) ≡ 1 + arms_size arms z
unfolding size roll-Stmt denote.Hole.Carrier.roll
case_size p arms z = fold-roll-Stmt ℕ size_form (CaseForm p arms z) ∙ (λ i. 1 + (case_arms p arms z i + case_else p arms z i))

-- the block that is taken is no larger than the conditional
pub taken_size : (system : System) (s : Scope) (arms : List (Arm Stmt)) (z : Option (List Stmt)) → sizes (taken system s arms z) ≤ arms_size arms z
unfolding taken total
taken_size system s [] z = omega arith
taken_size system s (a ∷ arms) z = by (is_true system s a.condition) (taken_size system s arms z)
  where
    by : (b : Bool) → sizes (taken system s arms z) ≤ arms_size arms z → sizes (if b then a.body else taken system s arms z) ≤ arms_size (a ∷ arms) z
    by true rest = omega arith
    by false rest = omega (arith, rest)
