-- Code that stands for code of a design has a property everywhere, where its expressions and the cells that it writes give it.
use Rattle.std.proofs.Common.{◌≡◌, ℕ, List, [], ◌∷◌, ◌++◌, map, refl, sym, subst, Option, Some, None}
use Rattle.std.specs.Prelude.{Bool as Truth, true, false, not, if◌then◌else◌}
use Rattle.std.specs.Option.{option_map, option_and_then}
use Rattle.std.proofs.lemmas.Option.{none-some, same_Some}
use Rattle.uc_lexer.specs.declared.place.Place.{Place}
use Rattle.uc_syntax.specs.declared.expression.Expr.{Expr}
use Rattle.uc_syntax.specs.declared.statement.Arm.{Arm}
use Rattle.uc_syntax.specs.declared.statement.Target.{Target}
use Rattle.uc_syntax.specs.declared.statement.TargetPart.{TargetPart}
use Rattle.uc_syntax.specs.declared.statement.Stmt.{Stmt}
use Rattle.uc_syntax.specs.declared.statement.Stmt.TheOpen.{Stmt-F}
use Rattle.uc_syntax.specs.declared.statement.Stmt.TheOpen.Stmt-F.{Local, Skip, Block, Assert, Assume, Havoc, Assign, If, Case, For, Call, Next}
use Rattle.uc_syntax.specs.declared.statement.Stmt.TheFolds.{fold-Stmt, map-Stmt, fold-roll-Stmt, ind-Stmt}
use Rattle.uc_flat.specs.declared.expression.Expression.{Expression}
use Rattle.uc_flat.specs.declared.expression.Expression.TheVariants.{Cell as ReadCell}
use Rattle.uc_flat.specs.declared.statement.Statement.{Statement}
use Rattle.uc_flat.specs.declared.statement.Statement.TheOpen.{Statement-F}
use Rattle.uc_flat.specs.declared.statement.Statement.TheOpen.Statement-F.{Assign as AssignForm, Havoc as HavocForm, Assume as AssumeForm, If as IfForm}
use Rattle.uc_flat.specs.declared.statement.Statement.TheVariants.{Assign as AssignCell, Assume as AssumeThat}
use Rattle.uc_flat_expressions.specs.declared.typed.TypedExpression.{TypedExpression}
use Rattle.uc_flat_expressions.specs.declared.typed.Meant.{Meant}
use Rattle.uc_flat_expressions.specs.Types.{is_boolean}
use Rattle.uc_flat_expressions.specs.Expressions.{flat_of, all_of}
use Rattle.uc_flat_code.specs.declared.writing.Writing.{Writing}
use Rattle.uc_flat_code.specs.declared.writing.Written.{Written}
use Rattle.uc_flat_code.specs.declared.writing.FlatArm.{FlatArm}
use Rattle.uc_flat_code.specs.Code.{MayBe, written, havocked, assume_of, havoc_of, replaced_in, assigned, spares, one_assigned, with_cell, each_assigned, assign_of, in_order, arm_with, arm_of, joined_arms, else_of, if_of, code_form, statement_of, code_of}
use Rattle.uc_flat_laws.proofs.Standing.{Everywhere, nowhere, both, one_assign, one_havoc, one_assume, one_if}

-- ---- what there is where something came of it

pub if_some : {X : Type 0} (b : Truth) (o : Option X) (y : X) → (if b then o else None) ≡ Some y → (b ≡ true) × (o ≡ Some y)
if_some true o y h = (refl, h)
if_some false o y h = absurd (none-some y h)

-- a part that was there, and what it gave
abbrev pub Parted : {X Y : Type 0} → (X → Option Y) → Option X → Y → Type 0
Parted {X} {Y} f o y = (x : X) × (o ≡ Some x) × (f x ≡ Some y)

pub then_parts : {X Y : Type 0} (f : X → Option Y) (o : Option X) (y : Y) → option_and_then f o ≡ Some y → Parted f o y
then_parts f None y h = absurd (none-some y h)
then_parts f (Some x) y h = (x, refl, h)

abbrev pub Mapped : {X Y : Type 0} → (X → Y) → Option X → Y → Type 0
Mapped {X} {Y} f o y = (x : X) × (o ≡ Some x) × (f x ≡ y)

pub map_parts : {X Y : Type 0} (f : X → Y) (o : Option X) (y : Y) → option_map f o ≡ Some y → Mapped f o y
map_parts f None y h = absurd (none-some y h)
map_parts f (Some x) y h = (x, refl, same_Some (f x) y h)

-- ---- code

-- each single statement has the property
pub record Suited (names : List Meant) (w : Writing) (A : Statement-F Statement → Type 0) : Type 0 where
  pub assumed : (e : Expr) (t : TypedExpression) → flat_of names e ≡ Some t → is_boolean t.ty ≡ true → A (AssumeForm t.expression)
  pub decided : (e : Expr) (t : TypedExpression) (xs ys : List Statement) → flat_of names e ≡ Some t → is_boolean t.ty ≡ true → A (IfForm t.expression xs ys)
  pub anything : (x : ℕ) (primed : Truth) (k : Written) → havocked names w x primed ≡ Some k → A (HavocForm k.cell (not w.primed))
  pub given : (x : ℕ) (primed : Truth) (k : Written) (parts : List TargetPart) (e : Expr) (t : TypedExpression) (z : Expression) → written names w x primed ≡ Some k → flat_of names e ≡ Some t
      → replaced_in (ReadCell k.cell) k.ty parts t ≡ Some z → A (AssignForm k.cell z)

abbrev arms_in : {X : Type 0} → Stmt-F X → List (Arm X)
arms_in (If p arms otherwise) = arms
arms_in (Case p arms otherwise) = arms
arms_in other = []

abbrev else_in : {X : Type 0} → Stmt-F X → Option (List X)
else_in (If p arms otherwise) = otherwise
else_in (Case p arms otherwise) = otherwise
else_in other = None

module _ (names : List Meant) (w : Writing) (A : Statement-F Statement → Type 0) (suited : Suited names w A) where
  abbrev Gives : MayBe → Type 0
  Gives o = (flat : List Statement) → o ≡ Some flat → Everywhere A flat

  abbrev AllGive : List MayBe → Type 0
  AllGive [] = Unit {0}
  AllGive (o ∷ os) = Gives o × AllGive os

  abbrev ArmsGive : List (Arm MayBe) → Type 0
  ArmsGive [] = Unit {0}
  ArmsGive (a ∷ arms) = AllGive a.body × ArmsGive arms

  abbrev ElseGives : Option (List MayBe) → Type 0
  ElseGives None = Unit {0}
  ElseGives (Some block) = AllGive block

  gives_nothing : Gives (Some [])
  gives_nothing flat h = subst (Everywhere A) (same_Some [] flat h) (nowhere A)

  gives_order : (os : List MayBe) → AllGive os → Gives (in_order os)
  gives_order [] all flat h = gives_nothing flat h
  gives_order (o ∷ os) all flat h =
      let p = then_parts (λ x. option_map (λ xs. x ++ xs) (in_order os)) o flat h in
      let q = map_parts (λ xs. p.0 ++ xs) (in_order os) flat p.2 in
      subst (Everywhere A) q.2 (both A p.0 q.0 (all.0 p.0 p.1) (gives_order os all.1 q.0 q.1))

  gives_assume : (e : Expr) → Gives (option_and_then assume_of (flat_of names e))
  gives_assume e flat h =
      let p = then_parts assume_of (flat_of names e) flat h in
      let code : List Statement = AssumeThat p.0.expression ∷ [] in
      let c = if_some (is_boolean p.0.ty) (Some code) flat p.2 in
      subst (Everywhere A) (same_Some code flat c.1) (one_assume A p.0.expression (suited.assumed e p.0 p.1 c.0))

  gives_havoc : (x : ℕ) (primed : Truth) → Gives (option_map (havoc_of w) (havocked names w x primed))
  gives_havoc x primed flat h =
      let p = map_parts (havoc_of w) (havocked names w x primed) flat h in
      subst (Everywhere A) p.2 (one_havoc A p.0.cell (not w.primed) (suited.anything x primed p.0 p.1))

  gives_one : (before : List ℕ) (t : Target) (e : Expr) → Gives (one_assigned names w before t e)
  gives_one before t e flat h =
      let p = then_parts (λ k. option_and_then (λ x. if spares before x.expression then assigned k t.parts x else None) (flat_of names e)) (written names w t.name t.is_primed) flat h in
      let q = then_parts (λ x. if spares before x.expression then assigned p.0 t.parts x else None) (flat_of names e) flat p.2 in
      let r = if_some (spares before q.0.expression) (assigned p.0 t.parts q.0) flat q.2 in
      let code : Expression → List Statement = λ z. AssignCell p.0.cell z ∷ [] in
      let o = map_parts code (replaced_in (ReadCell p.0.cell) p.0.ty t.parts q.0) flat r.1 in
      subst (Everywhere A) o.2 (one_assign A p.0.cell o.0 (suited.given t.name t.is_primed p.0 t.parts e q.0 o.0 p.1 q.1 o.1))

  gives_each : (ts : List Target) (es : List Expr) (before : List ℕ) → AllGive (each_assigned names w before ts es)
  unfolding each_assigned
  gives_each [] [] before = tt
  gives_each [] (e ∷ es) before = (λ flat h. absurd (none-some flat h), tt)
  gives_each (t ∷ ts) [] before = (λ flat h. absurd (none-some flat h), tt)
  gives_each (t ∷ ts) (e ∷ es) before = (gives_one before t e, gives_each ts es (with_cell before (written names w t.name t.is_primed)))

  gives_assign : (ts : List Target) (es : List Expr) → Gives (assign_of names w ts es)
  gives_assign ts es flat h = gives_order (each_assigned names w [] ts es) (gives_each ts es []) flat h

  -- ---- conditionals

  record GoodArm (c : FlatArm) : Type 0 where
    pub decides : (xs ys : List Statement) → A (IfForm c.condition xs ys)
    pub body : Everywhere A c.body

  abbrev AllGood : List FlatArm → Type 0
  AllGood [] = Unit {0}
  AllGood (c ∷ cs) = GoodArm c × AllGood cs

  arm_gives : (a : Arm MayBe) → AllGive a.body → (c : FlatArm) → arm_of names a ≡ Some c → GoodArm c
  arm_gives a all c h =
      let p = then_parts (arm_with (in_order a.body)) (flat_of names a.condition) c h in
      let made : List Statement → FlatArm = λ xs. record { condition = p.0.expression; body = xs } in
      let r = if_some (is_boolean p.0.ty) (option_map made (in_order a.body)) c p.2 in
      let q = map_parts made (in_order a.body) c r.1 in
      subst GoodArm q.2 (record { decides = λ xs ys. suited.decided a.condition p.0 xs ys p.1 r.0; body = gives_order a.body all q.0 q.1 })

  arms_give : (arms : List (Arm MayBe)) → ArmsGive arms → (cs : List FlatArm) → all_of (map (arm_of names) arms) ≡ Some cs → AllGood cs
  arms_give [] all cs h = subst AllGood (same_Some [] cs h) tt
  arms_give (a ∷ arms) all cs h =
      let p = then_parts (λ x. option_map (λ xs. x ∷ xs) (all_of (map (arm_of names) arms))) (arm_of names a) cs h in
      let q = map_parts (λ xs. p.0 ∷ xs) (all_of (map (arm_of names) arms)) cs p.2 in
      subst AllGood q.2 (arm_gives a all.0 p.0 p.1, arms_give arms all.1 q.0 q.1)

  joined_good : (cs : List FlatArm) (rest : List Statement) → AllGood cs → Everywhere A rest → Everywhere A (joined_arms cs rest)
  unfolding joined_arms
  joined_good [] rest all r = r
  joined_good (c ∷ cs) rest all r = one_if A c.condition c.body (joined_arms cs rest) (all.0.decides c.body (joined_arms cs rest)) all.0.body (joined_good cs rest all.1 r)

  gives_else : (o : Option (List MayBe)) → ElseGives o → Gives (else_of o)
  gives_else None all flat h = gives_nothing flat h
  gives_else (Some block) all flat h = gives_order block all flat h

  gives_if : (arms : List (Arm MayBe)) (o : Option (List MayBe)) → ArmsGive arms → ElseGives o → Gives (if_of names arms o)
  gives_if arms o a b flat h =
      let p = then_parts (λ bodies. option_map (joined_arms bodies) (else_of o)) (all_of (map (arm_of names) arms)) flat h in
      let q = map_parts (joined_arms p.0) (else_of o) flat p.2 in
      subst (Everywhere A) q.2 (joined_good p.0 q.0 (arms_give arms a p.0 p.1) (gives_else o b q.0 q.1))

  -- ---- a layer

  module _ {D : Type 0} (d : D → Stmt) (f : Stmt → MayBe) (same : (e : D) → Gives (f (d e))) where
    list_give : (es : List D) → AllGive (map f (map d es))
    list_give [] = tt
    list_give (e ∷ es) = (same e, list_give es)

    abbrev left : Stmt-F D → Stmt-F MayBe
    left y = map-Stmt Stmt MayBe f (map-Stmt D Stmt d y)

    if_arms : (p : Place) (arms : List (Arm D)) (o : Option (List D)) → ArmsGive (arms_in (left (If p arms o)))
    if_arms p [] o = tt
    if_arms p (a ∷ arms) o = (list_give a.body, if_arms p arms o)

    case_arms : (p : Place) (arms : List (Arm D)) (o : Option (List D)) → ArmsGive (arms_in (left (Case p arms o)))
    case_arms p [] o = tt
    case_arms p (a ∷ arms) o = (list_give a.body, case_arms p arms o)

    if_else : (p : Place) (arms : List (Arm D)) (o : Option (List D)) → ElseGives (else_in (left (If p arms o)))
    if_else p arms None = tt
    if_else p arms (Some es) = list_give es

    case_else : (p : Place) (arms : List (Arm D)) (o : Option (List D)) → ElseGives (else_in (left (Case p arms o)))
    case_else p arms None = tt
    case_else p arms (Some es) = list_give es

    layer : (y : Stmt-F D) → Gives (code_form names w (left y))
    layer (Skip p) flat h = gives_nothing flat h
    layer (Block p block) flat h = gives_order (map f (map d block)) (list_give block) flat h
    layer (Assume p e) flat h = gives_assume e flat h
    layer (Havoc p x primed) flat h = gives_havoc x.name primed flat h
    layer (Assign p targets sources) flat h = gives_assign targets sources flat h
    layer (If p arms o) flat h = gives_if (arms_in (left (If p arms o))) (else_in (left (If p arms o))) (if_arms p arms o) (if_else p arms o) flat h
    layer (Case p arms o) flat h = gives_if (arms_in (left (Case p arms o))) (else_in (left (Case p arms o))) (case_arms p arms o) (case_else p arms o) flat h
    layer (Local p xs ty) flat h = absurd (none-some flat h)
    layer (Assert p label e) flat h = absurd (none-some flat h)
    layer (For p x ty from to block) flat h = absurd (none-some flat h)
    layer (Call p targets g arguments) flat h = absurd (none-some flat h)
    layer (Next p i) flat h = absurd (none-some flat h)

  statement_gives : (s : Stmt) → Gives (statement_of names w s)
  unfolding statement_of
  statement_gives =
      ind-Stmt (λ s. Gives (fold-Stmt MayBe (code_form names w) s))
      (λ x y is.
      let F = fold-Stmt MayBe (code_form names w) in
      let way = layer (λ e. e.0) F (λ e. e.1) y in
      let way' = subst (λ z. Gives (code_form names w (map-Stmt Stmt MayBe F z))) is way in
      subst Gives (sym (fold-roll-Stmt MayBe (code_form names w) x)) way')

  all_give : (code : List Stmt) → AllGive (map (statement_of names w) code)
  all_give [] = tt
  all_give (s ∷ code) = (statement_gives s, all_give code)

  pub code_gives : (code : List Stmt) → Gives (code_of names w code)
  code_gives code = gives_order (map (statement_of names w) code) (all_give code)
