-- Init code that has code over cells has no assert, loop, call or step of an instance inside.
use Rattle.std.proofs.Common.{◌≡◌, ℕ, ◌+◌, List, [], ◌∷◌, map, length, refl, sym, ap, ◌∙◌, subst, true, Bool, Option, Some, None}
use Rattle.std.specs.Prelude.{◌&&◌}
use Rattle.std.specs.Option.{option_map}
use Rattle.std.specs.List.{list_all}
use Rattle.uc_lexer.specs.declared.place.Place.{Place}
use Rattle.uc_syntax.specs.declared.statement.Arm.{Arm}
use Rattle.uc_syntax.specs.declared.statement.Stmt.{Stmt}
use Rattle.uc_syntax.specs.declared.statement.Stmt.TheOpen.{Stmt-F}
use Rattle.uc_syntax.specs.declared.statement.Stmt.TheOpen.Stmt-F.{Local as LocalForm, Skip as SkipForm, Block as BlockForm, Assume as AssumeForm, Havoc as HavocForm, Assign as AssignForm, If as IfForm, Case as CaseForm, Assert as AssertForm, For as ForForm, Call as CallForm, Next as NextForm}
use Rattle.uc_syntax.specs.declared.statement.Stmt.TheViews.{roll-Stmt}
use Rattle.uc_syntax.specs.declared.statement.Stmt.TheFolds.{fold-Stmt, map-Stmt, fold-roll-Stmt, ind-Stmt}
use Rattle.uc_meaning.specs.Code.{else_block}
use Rattle.uc_flat_expressions.specs.declared.typed.Meant.{Meant}
use Rattle.uc_flat_expressions.specs.Types.{is_boolean}
use Rattle.uc_flat_expressions.specs.Expressions.{flat_of}
use Rattle.uc_flat_code.specs.declared.made.MadeCode.{MadeCode}
use Rattle.uc_flat_code.specs.declared.made.MadeArms.{MadeArms}
use Rattle.uc_flat_code.specs.CellTypes.{Types}
use Rattle.uc_flat_code.specs.Init.{Made, Making, then_made, in_order, ended, in_block, arm_by, arm_with, arm_made, then_arms, arms_made, else_of, joined, if_of, making_form, making_of, made_code, init_code}
use Rattle.uc_flat_design.proofs.FlatInitLawOptions.{then_some, map_some, if_some}
use Rattle.uc_flat_design.proofs.Forms.{arms_in, else_in}
use Rattle.uc_flat_design.proofs.Locals.{none_some}
use Rattle.uc_graph.proofs.Arranged.{true_and}
use Rattle.uc_flat_order.specs.GuardedLaws.{all_true, plain_form, is_plain}

-- true where there is code, whatever names stand for and wherever further cells stand
abbrev Plain : Bool → Making → Type 0
Plain b o = (names : List Meant) (k : ℕ) (a : Made) → o names k ≡ Some a → b ≡ true

abbrev AllPlain : List Bool → List Making → Type 0
AllPlain [] [] = Unit {0}
AllPlain (b ∷ bs) (o ∷ os) = Plain b o × AllPlain bs os
AllPlain bs os = ⊥

abbrev ArmsPlain : List (Arm Bool) → List (Arm Making) → Type 0
ArmsPlain [] [] = Unit {0}
ArmsPlain (a ∷ arms) (c ∷ others) = AllPlain a.body c.body × ArmsPlain arms others
ArmsPlain arms others = ⊥

abbrev ElsePlain : Option (List Bool) → Option (List Making) → Type 0
ElsePlain None None = Unit {0}
ElsePlain (Some bs) (Some os) = AllPlain bs os
ElsePlain z o = ⊥

each_plain : (bs : List Bool) (os : List Making) → AllPlain bs os → Plain (all_true bs) (in_order os)
unfolding in_order
each_plain [] [] h names k a e = refl
each_plain [] (o ∷ os) h names k a e = absurd h
each_plain (b ∷ bs) [] h names k a e = absurd h
each_plain (b ∷ bs) (o ∷ os) h names k a e =
    let x = then_some (λ c. option_map (then_made c) (in_order os c.names (k + length c.further))) (o names k) a e in
    let y = map_some (then_made x.0) (in_order os x.0.names (k + length x.0.further)) a x.2 in
    true_and b (all_true bs) (h.0 names k x.0 x.1) (each_plain bs os h.1 x.0.names (k + length x.0.further) y.0 y.1)

block_plain : (bs : List Bool) (os : List Making) → AllPlain bs os → Plain (all_true bs) (in_block os)
block_plain bs os h names k a e =
    let x = map_some (ended names) (in_order os names k) a e in
    each_plain bs os h names k x.0 x.1

else_plain : (z : Option (List Bool)) (o : Option (List Making)) → ElsePlain z o → Plain (all_true (else_block z)) (else_of o)
else_plain None None h names k a e = refl
else_plain (Some bs) (Some os) h names k a e = block_plain bs os h names k a e
else_plain None (Some os) h names k a e = absurd h
else_plain (Some bs) None h names k a e = absurd h

arms_plain : (arms : List (Arm Bool)) (others : List (Arm Making)) → ArmsPlain arms others → (names : List Meant) (k : ℕ) (a : MadeArms) → arms_made names k others ≡ Some a → list_all (λ b. all_true b.body) arms ≡ true
unfolding arms_made
arms_plain [] [] h names k a e = refl
arms_plain [] (c ∷ others) h names k a e = absurd h
arms_plain (b ∷ arms) [] h names k a e = absurd h
arms_plain (b ∷ arms) (c ∷ others) h names k a e =
    let x = then_some (λ y. option_map (then_arms y) (arms_made names (k + length y.further) others)) (arm_made names k c) a e in
    let y = map_some (then_arms x.0) (arms_made names (k + length x.0.further) others) a x.2 in
    let t = then_some (arm_with names k c.body) (flat_of names c.condition) x.0 x.1 in
    let u = if_some (is_boolean t.0.ty) (option_map (arm_by t.0.expression) (in_block c.body names k)) x.0 t.2 in
    let v = map_some (arm_by t.0.expression) (in_block c.body names k) x.0 u.1 in
    true_and (all_true b.body) (list_all (λ d. all_true d.body) arms) (block_plain b.body c.body h.0 names k v.0 v.1) (arms_plain arms others h.1 names (k + length x.0.further) y.0 y.1)

choice_plain : (arms : List (Arm Bool)) (others : List (Arm Making)) (z : Option (List Bool)) (o : Option (List Making)) → ArmsPlain arms others → ElsePlain z o
    → Plain (list_all (λ a. all_true a.body) arms && all_true (else_block z)) (if_of others o)
choice_plain arms others z o h g names k a e =
    let x = then_some (λ y. option_map (joined y) (else_of o names (k + length y.further))) (arms_made names k others) a e in
    let y = map_some (joined x.0) (else_of o names (k + length x.0.further)) a x.2 in
    true_and (list_all (λ b. all_true b.body) arms) (all_true (else_block z)) (arms_plain arms others h names k x.0 x.1) (else_plain z o g names (k + length x.0.further) y.0 y.1)

module _ (types : Types) where
  module _ {D : Type 0} (d : D → Stmt) (same : (e : D) → Plain (is_plain (d e)) (making_of types (d e))) where
    abbrev left : Stmt-F D → Stmt-F Bool
    left y = map-Stmt Stmt Bool is_plain (map-Stmt D Stmt d y)

    abbrev right : Stmt-F D → Stmt-F Making
    right y = map-Stmt Stmt Making (making_of types) (map-Stmt D Stmt d y)

    list_plain : (es : List D) → AllPlain (map is_plain (map d es)) (map (making_of types) (map d es))
    list_plain [] = tt
    list_plain (e ∷ es) = (same e, list_plain es)

    if_layer : (p : Place) (arms : List (Arm D)) (z : Option (List D)) → ArmsPlain (arms_in (left (IfForm p arms z))) (arms_in (right (IfForm p arms z))) × ElsePlain (else_in (left (IfForm p arms z))) (else_in (right (IfForm p arms z)))
    if_layer p [] None = (tt, tt)
    if_layer p [] (Some es) = (tt, list_plain es)
    if_layer p (a ∷ arms) z = ((list_plain a.body, (if_layer p arms z).0), (if_layer p arms z).1)

    case_layer : (p : Place) (arms : List (Arm D)) (z : Option (List D)) → ArmsPlain (arms_in (left (CaseForm p arms z))) (arms_in (right (CaseForm p arms z))) × ElsePlain (else_in (left (CaseForm p arms z))) (else_in (right (CaseForm p arms z)))
    case_layer p [] None = (tt, tt)
    case_layer p [] (Some es) = (tt, list_plain es)
    case_layer p (a ∷ arms) z = ((list_plain a.body, (case_layer p arms z).0), (case_layer p arms z).1)

    layer : (y : Stmt-F D) → Plain (plain_form (left y)) (making_form types (right y))
    layer (LocalForm p ids type) names k a e = refl
    layer (SkipForm p) names k a e = refl
    layer (BlockForm p block) names k a e = block_plain _ _ (list_plain block) names k a e
    layer (AssertForm p label x) names k a e = absurd (none_some a e)
    layer (AssumeForm p x) names k a e = refl
    layer (HavocForm p x primed) names k a e = refl
    layer (AssignForm p targets sources) names k a e = refl
    layer (IfForm p arms z) names k a e = let g = if_layer p arms z in choice_plain _ _ _ _ g.0 g.1 names k a e
    layer (CaseForm p arms z) names k a e = let g = case_layer p arms z in choice_plain _ _ _ _ g.0 g.1 names k a e
    layer (ForForm p x type from to block) names k a e = absurd (none_some a e)
    layer (CallForm p targets callee arguments) names k a e = absurd (none_some a e)
    layer (NextForm p i) names k a e = absurd (none_some a e)

  statement_plain : (s : Stmt) → Plain (is_plain s) (making_of types s)
  unfolding making_of is_plain
  statement_plain =
      ind-Stmt (λ s. Plain (fold-Stmt Bool plain_form s) (fold-Stmt Making (making_form types) s))
      (λ x y is.
      let F = fold-Stmt Bool plain_form in
      let G = fold-Stmt Making (making_form types) in
      let way = layer (λ e. e.0) (λ e. e.1) y in
      let way' = subst (λ z. Plain (plain_form (map-Stmt Stmt Bool F z)) (making_form types (map-Stmt Stmt Making G z))) is way in
      let left' = subst (λ b. Plain b (making_form types (map-Stmt Stmt Making G x))) (sym (fold-roll-Stmt Bool plain_form x)) way' in
      subst (λ o. Plain (F (roll-Stmt x)) o) (sym (fold-roll-Stmt Making (making_form types) x)) left')

  list_statements : (code : List Stmt) → AllPlain (map is_plain code) (map (making_of types) code)
  list_statements [] = tt
  list_statements (s ∷ code) = (statement_plain s, list_statements code)

  all_mapped : (code : List Stmt) → list_all is_plain code ≡ all_true (map is_plain code)
  all_mapped [] = refl
  all_mapped (s ∷ code) = ap (λ b. is_plain s && b) (all_mapped code)

  pub code_plain : (names : List Meant) (k : ℕ) (code : List Stmt) (made : MadeCode) → init_code types names k code ≡ Some made → list_all is_plain code ≡ true
  code_plain names k code made h =
      let x = map_some made_code (in_order (map (making_of types) code) names k) made h in
      all_mapped code ∙ each_plain (map is_plain code) (map (making_of types) code) (list_statements code) names k x.0 x.1
