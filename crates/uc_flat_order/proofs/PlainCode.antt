-- Statements that have code over cells have no assert, loop, call or step of an instance inside.
use Rattle.std.proofs.Common.{◌≡◌, List, [], ◌∷◌, ◌++◌, map, refl, sym, ap, ◌∙◌, subst, true, false, Bool, Option, Some, None, ⊎_elim}
use Rattle.std.specs.Prelude.{◌&&◌, if◌then◌else◌}
use Rattle.std.specs.Option.{option_map, option_and_then, is_some}
use Rattle.std.specs.List.{list_all}
use Rattle.uc_lexer.specs.declared.place.Place.{Place}
use Rattle.uc_syntax.specs.declared.statement.Arm.{Arm}
use Rattle.uc_syntax.specs.declared.statement.Stmt.{Stmt}
use Rattle.uc_syntax.specs.declared.statement.Stmt.TheOpen.{Stmt-F}
use Rattle.uc_syntax.specs.declared.statement.Stmt.TheOpen.Stmt-F.{Local as LocalForm, Skip as SkipForm, Block as BlockForm, Assume as AssumeForm, Havoc as HavocForm, Assign as AssignForm, If as IfForm, Case as CaseForm, Assert as AssertForm, For as ForForm, Call as CallForm, Next as NextForm}
use Rattle.uc_syntax.specs.declared.statement.Stmt.TheViews.{roll-Stmt}
use Rattle.uc_syntax.specs.declared.statement.Stmt.TheFolds.{fold-Stmt, map-Stmt, fold-roll-Stmt, ind-Stmt}
use Rattle.uc_meaning.specs.Code.{else_block}
use Rattle.uc_flat.specs.declared.statement.Statement.{Statement}
use Rattle.uc_flat_expressions.specs.declared.typed.TypedExpression.{TypedExpression}
use Rattle.uc_flat_expressions.specs.declared.typed.Meant.{Meant}
use Rattle.uc_flat_expressions.specs.Types.{is_boolean}
use Rattle.uc_flat_expressions.specs.Expressions.{flat_of, all_of}
use Rattle.uc_flat_code.specs.declared.writing.Writing.{Writing}
use Rattle.uc_flat_code.specs.declared.writing.FlatArm.{FlatArm}
use Rattle.uc_flat_code.specs.Code.{MayBe, in_order as code_in_order, arm_with, arm_of, joined_arms, else_of, if_of, code_form, statement_of, code_of}
use Rattle.uc_graph.proofs.Arranged.{and_true, true_and, all_reordered}
use Rattle.uc_flat_order.specs.Slices.{all_slices}
use Rattle.uc_flat_order.specs.GuardedLaws.{all_true, plain_form, is_plain}
use Rattle.uc_flat_order.proofs.Asked.{plain_sliced}
use Rattle.uc_flat_order.proofs.Leaves.{arms_in, else_in}
use Rattle.uc_flat_order.specs.Arranged.{IsTakenFrom}
use Rattle.uc_flat_order.proofs.Coded.{is_coded, coded}

-- a condition that has a truth value over cells
abbrev is_test : Option TypedExpression → Bool
is_test None = false
is_test (Some c) = is_boolean c.ty

module _ (names : List Meant) (w : Writing) where
  abbrev flat : Stmt → MayBe
  flat = statement_of names w

  abbrev tested : {A : Type 0} → Arm A → Bool
  tested a = is_test (flat_of names a.condition)

  abbrev body_built : Arm MayBe → Bool
  body_built a = is_some (code_in_order a.body)

  -- ---- conditionals that have code

  arm_built : (a : Arm MayBe) → is_some (arm_of names a) ≡ (tested a && body_built a)
  arm_built a = by_test (flat_of names a.condition)
    where
      by_body : (c : TypedExpression) (o : MayBe) → is_some (option_map (λ xs. let x : FlatArm = record { condition = c.expression; body = xs } in x) o) ≡ is_some o
      by_body c None = refl
      by_body c (Some xs) = refl

      by_type : (c : TypedExpression) (b : Bool) → is_some (if b then option_map (λ xs. let x : FlatArm = record { condition = c.expression; body = xs } in x) (code_in_order a.body) else None) ≡ (b && body_built a)
      by_type c true = by_body c (code_in_order a.body)
      by_type c false = refl

      by_test : (o : Option TypedExpression) → is_some (option_and_then (arm_with (code_in_order a.body)) o) ≡ (is_test o && body_built a)
      by_test None = refl
      by_test (Some c) = by_type c (is_boolean c.ty)

  abbrev arms_built : List (Arm MayBe) → Bool
  arms_built arms = list_all (λ a. tested a && body_built a) arms

  all_built : (arms : List (Arm MayBe)) → is_some (all_of (map (arm_of names) arms)) ≡ arms_built arms
  all_built [] = refl
  all_built (a ∷ arms) = by_first (arm_of names a) (arm_built a) (all_built arms)
    where
      by_rest : (x : FlatArm) (o : Option (List FlatArm)) → is_some (option_map (λ xs. x ∷ xs) o) ≡ is_some o
      by_rest x None = refl
      by_rest x (Some xs) = refl

      by_first : (o : Option FlatArm) → is_some o ≡ (tested a && body_built a) → is_some (all_of (map (arm_of names) arms)) ≡ arms_built arms → is_some (option_and_then (λ x. option_map (λ xs. x ∷ xs) (all_of (map (arm_of names) arms))) o) ≡ ((tested a && body_built a) && arms_built arms)
      by_first None e rest = ap (λ b. b && arms_built arms) e
      by_first (Some x) e rest = by_rest x (all_of (map (arm_of names) arms)) ∙ rest ∙ ap (λ b. b && arms_built arms) e

  if_built : (arms : List (Arm MayBe)) (o : Option (List MayBe)) → is_some (if_of names arms o) ≡ (arms_built arms && is_some (else_of o))
  if_built arms o = by_arms (all_of (map (arm_of names) arms)) (all_built arms)
    where
      by_else : (bodies : List FlatArm) (rest : MayBe) → is_some (option_map (joined_arms bodies) rest) ≡ is_some rest
      by_else bodies None = refl
      by_else bodies (Some xs) = refl

      by_arms : (q : Option (List FlatArm)) → is_some q ≡ arms_built arms → is_some (option_and_then (λ bodies. option_map (joined_arms bodies) (else_of o)) q) ≡ (arms_built arms && is_some (else_of o))
      by_arms None e = ap (λ b. b && is_some (else_of o)) e
      by_arms (Some bodies) e = by_else bodies (else_of o) ∙ ap (λ b. b && is_some (else_of o)) e

  -- ---- what has code is plain

  abbrev Plain : Bool → MayBe → Type 0
  Plain b o = is_some o ≡ true → b ≡ true

  abbrev AllPlain : List Bool → List MayBe → Type 0
  AllPlain [] [] = Unit {0}
  AllPlain (b ∷ bs) (o ∷ os) = Plain b o × AllPlain bs os
  AllPlain bs os = ⊥

  abbrev ArmsPlain : List (Arm Bool) → List (Arm MayBe) → Type 0
  ArmsPlain [] [] = Unit {0}
  ArmsPlain (a ∷ arms) (c ∷ others) = AllPlain a.body c.body × ArmsPlain arms others
  ArmsPlain arms others = ⊥

  abbrev ElsePlain : Option (List Bool) → Option (List MayBe) → Type 0
  ElsePlain None None = Unit {0}
  ElsePlain (Some bs) (Some os) = AllPlain bs os
  ElsePlain z o = ⊥

  both_there : (o rest : MayBe) → is_some (option_and_then (λ x. option_map (λ xs. x ++ xs) rest) o) ≡ true → (is_some o ≡ true) × (is_some rest ≡ true)
  both_there None rest h = absurd (cc)
  both_there (Some x) None h = absurd (cc)
  both_there (Some x) (Some xs) h = (refl, refl)

  each_plain : (bs : List Bool) (os : List MayBe) → AllPlain bs os → Plain (all_true bs) (code_in_order os)
  each_plain [] [] h k = refl
  each_plain [] (o ∷ os) h k = absurd h
  each_plain (b ∷ bs) [] h k = absurd h
  each_plain (b ∷ bs) (o ∷ os) h k =
      let x = both_there o (code_in_order os) k in
      true_and b (all_true bs) (h.0 x.0) (each_plain bs os h.1 x.1)

  else_plain : (z : Option (List Bool)) (o : Option (List MayBe)) → ElsePlain z o → Plain (all_true (else_block z)) (else_of o)
  else_plain None None h k = refl
  else_plain (Some bs) (Some os) h k = each_plain bs os h k
  else_plain None (Some os) h k = absurd h
  else_plain (Some bs) None h k = absurd h

  arms_plain : (arms : List (Arm Bool)) (others : List (Arm MayBe)) → ArmsPlain arms others → arms_built others ≡ true → list_all (λ a. all_true a.body) arms ≡ true
  arms_plain [] [] h k = refl
  arms_plain [] (c ∷ others) h k = absurd h
  arms_plain (a ∷ arms) [] h k = absurd h
  arms_plain (a ∷ arms) (c ∷ others) h k =
      let x = and_true (tested c && body_built c) (arms_built others) k in
      let y = and_true (tested c) (body_built c) x.0 in
      true_and (all_true a.body) (list_all (λ b. all_true b.body) arms) (each_plain a.body c.body h.0 y.1) (arms_plain arms others h.1 x.1)

  choice_plain : (arms : List (Arm Bool)) (others : List (Arm MayBe)) (z : Option (List Bool)) (o : Option (List MayBe)) → ArmsPlain arms others → ElsePlain z o
      → Plain (list_all (λ a. all_true a.body) arms && all_true (else_block z)) (if_of names others o)
  choice_plain arms others z o h g k =
      let x = and_true (arms_built others) (is_some (else_of o)) (sym (if_built others o) ∙ k) in
      true_and (list_all (λ a. all_true a.body) arms) (all_true (else_block z)) (arms_plain arms others h x.0) (else_plain z o g x.1)

  module _ {D : Type 0} (d : D → Stmt) (same : (e : D) → Plain (is_plain (d e)) (flat (d e))) where
    abbrev left : Stmt-F D → Stmt-F Bool
    left y = map-Stmt Stmt Bool is_plain (map-Stmt D Stmt d y)

    abbrev right : Stmt-F D → Stmt-F MayBe
    right y = map-Stmt Stmt MayBe flat (map-Stmt D Stmt d y)

    list_plain : (es : List D) → AllPlain (map is_plain (map d es)) (map flat (map d es))
    list_plain [] = tt
    list_plain (e ∷ es) = (same e, list_plain es)

    if_layer : (p : Place) (arms : List (Arm D)) (z : Option (List D)) → ArmsPlain (arms_in (left (IfForm p arms z))) (arms_in (right (IfForm p arms z))) × ElsePlain (else_in (left (IfForm p arms z))) (else_in (right (IfForm p arms z)))
    if_layer p [] None = (tt, tt)
    if_layer p [] (Some es) = (tt, list_plain es)
    if_layer p (a ∷ arms) z = ((list_plain a.body, (if_layer p arms z).0), (if_layer p arms z).1)

    case_layer : (p : Place) (arms : List (Arm D)) (z : Option (List D)) → ArmsPlain (arms_in (left (CaseForm p arms z))) (arms_in (right (CaseForm p arms z))) × ElsePlain (else_in (left (CaseForm p arms z))) (else_in (right (CaseForm p arms z)))
    case_layer p [] None = (tt, tt)
    case_layer p [] (Some es) = (tt, list_plain es)
    case_layer p (a ∷ arms) z = ((list_plain a.body, (case_layer p arms z).0), (case_layer p arms z).1)

    layer : (y : Stmt-F D) → Plain (plain_form (left y)) (code_form names w (right y))
    layer (LocalForm p ids type) k = refl
    layer (SkipForm p) k = refl
    layer (BlockForm p block) k = each_plain _ _ (list_plain block) k
    layer (AssertForm p label e) k = absurd (cc)
    layer (AssumeForm p e) k = refl
    layer (HavocForm p x primed) k = refl
    layer (AssignForm p targets sources) k = refl
    layer (IfForm p arms z) k = let g = if_layer p arms z in choice_plain _ _ _ _ g.0 g.1 k
    layer (CaseForm p arms z) k = let g = case_layer p arms z in choice_plain _ _ _ _ g.0 g.1 k
    layer (ForForm p x type from to block) k = absurd (cc)
    layer (CallForm p targets callee arguments) k = absurd (cc)
    layer (NextForm p i) k = absurd (cc)

  statement_plain : (s : Stmt) → Plain (is_plain s) (flat s)
  unfolding statement_of is_plain
  statement_plain =
      ind-Stmt (λ s. Plain (fold-Stmt Bool plain_form s) (fold-Stmt MayBe (code_form names w) s))
      (λ x y is.
      let F = fold-Stmt Bool plain_form in
      let G = fold-Stmt MayBe (code_form names w) in
      let way = layer (λ e. e.0) (λ e. e.1) y in
      let way' = subst (λ z. Plain (plain_form (map-Stmt Stmt Bool F z)) (code_form names w (map-Stmt Stmt MayBe G z))) is way in
      let left' = subst (λ b. Plain b (code_form names w (map-Stmt Stmt MayBe G x))) (sym (fold-roll-Stmt Bool plain_form x)) way' in
      subst (λ o. Plain (F (roll-Stmt x)) o) (sym (fold-roll-Stmt MayBe (code_form names w) x)) left')

  all_plain : (code : List Stmt) → list_all (is_coded names w) code ≡ true → list_all is_plain code ≡ true
  all_plain [] h = refl
  all_plain (s ∷ code) h =
      let x = and_true (is_coded names w s) (list_all (is_coded names w) code) h in
      true_and (is_plain s) (list_all is_plain code) (statement_plain s x.0) (all_plain code x.1)

  pub code_plain : (code : List Stmt) (flat : List Statement) → code_of names w code ≡ Some flat → list_all is_plain code ≡ true
  code_plain code flat h = all_plain code (coded names w code flat h)

  -- a block is plain where its statements, or its slices, have code in some order
  pub plain_if_taken : (order code : List Stmt) (flat : List Statement) → IsTakenFrom order code → code_of names w order ≡ Some flat → list_all is_plain code ≡ true
  plain_if_taken order code flat taken h =
      let own = code_plain order flat h in
      ⊎_elim (λ whole. sym (all_reordered is_plain order code whole) ∙ own)
      (λ apart. sym (plain_sliced code) ∙ sym (all_reordered is_plain order (all_slices code) apart) ∙ own) taken
