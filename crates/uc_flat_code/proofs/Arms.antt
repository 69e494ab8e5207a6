-- The arms of a conditional, one after another.
use Rattle.std.proofs.Common.{◌≡◌, ℕ, ◌+◌, ◌<◌, Bool as Truth, true, false, List, [], ◌∷◌, ◌++◌, length, map, drop, get_or, refl, sym, ap, ◌∙◌, Option, Some, None, append_assoc, drop-cons, add-one, suc}
use Rattle.std.specs.Prelude.{if◌then◌else◌}
use Rattle.std.specs.Option.{option_map, option_and_then}
use Rattle.uc_syntax.specs.declared.statement.Arm.{Arm}
use Rattle.uc_syntax.specs.declared.statement.Stmt.{Stmt}
use Rattle.uc_flat.specs.declared.statement.Statement.{Statement}
use Rattle.uc_flat_expressions.specs.declared.typed.Meant.{Meant}
use Rattle.uc_flat_expressions.specs.declared.typed.TypedExpression.{TypedExpression}
use Rattle.uc_flat_expressions.specs.Types.{is_boolean}
use Rattle.uc_flat_expressions.specs.Expressions.{flat_of, all_of}
use Rattle.uc_flat_code.specs.declared.writing.Writing.{Writing}
use Rattle.uc_flat_code.specs.declared.writing.FlatArm.{FlatArm}
use Rattle.uc_flat_code.specs.Code.{arm_with, arm_of, each_arm, statement_of, code_of}

abbrev flat_arm : TypedExpression → List Statement → FlatArm
flat_arm t body = record { condition = t.expression; body = body }

same_some : (t u : TypedExpression) → Some t ≡ Some u → t ≡ u
same_some t u h = cc

one_arm : (o : Option TypedExpression) (c : Option (List Statement)) (t u : TypedExpression) (b : Truth) (body : List Statement) → o ≡ Some t → b ≡ is_boolean t.ty → (if b then Some t else None) ≡ Some u → c ≡ Some body
    → option_and_then (arm_with c) o ≡ Some (flat_arm u body)
one_arm o c t u true body h i j k =
    ap (option_and_then (arm_with c)) h ∙ ap (λ d. if d then option_map (flat_arm t) c else None) (sym i) ∙ ap (option_map (flat_arm t)) k ∙ ap (λ e. Some (flat_arm e body)) (same_some t u j)
one_arm o c t u false body h i j k = absurd (cc)

more_arms : (all : List FlatArm) (a : FlatArm) (o : Option (List FlatArm)) → option_map (λ xs. all ++ xs) (option_map (λ xs. a ∷ xs) o) ≡ option_map (λ xs. (all ++ a ∷ []) ++ xs) o
more_arms all a None = refl
more_arms all a (Some xs) = ap Some (sym (append_assoc all (a ∷ []) xs))

abbrev arms_of : List Meant → Writing → List (Arm Stmt) → Option (List FlatArm)
arms_of names w arms = all_of (map (arm_of names) (map (each_arm (statement_of names w)) arms))

pub next_arm : (names : List Meant) (w : Writing) (arms : List (Arm Stmt)) (k : ℕ) (arm : Arm Stmt) (all more : List FlatArm) (t u : TypedExpression) (b : Truth) (body : List Statement) → k < length arms → arm ≡ get_or arms k arm
    → flat_of names arm.condition ≡ Some t → b ≡ is_boolean t.ty → (if b then Some t else None) ≡ Some u → code_of names w arm.body ≡ Some body → more ≡ all ++ flat_arm u body ∷ []
    → arms_of names w arms ≡ option_map (λ xs. all ++ xs) (arms_of names w (drop k arms)) → arms_of names w arms ≡ option_map (λ xs. more ++ xs) (arms_of names w (drop (k + 1) arms))
next_arm names w arms k arm all more t u b body l is h i j c m e =
    e
    ∙ ap (λ (xs : List (Arm Stmt)). option_map (λ ys. all ++ ys) (arms_of names w xs)) (from_next arms k arm l is)
    ∙ ap (λ (o : Option FlatArm). option_map (λ ys. all ++ ys) (option_and_then (λ x. option_map (λ ys. x ∷ ys) (arms_of names w (drop (k + 1) arms))) o)) (one_arm (flat_of names arm.condition) (code_of names w arm.body) t u b body h i j c)
    ∙ more_arms all (flat_arm u body) (arms_of names w (drop (k + 1) arms))
    ∙ ap (λ (zs : List FlatArm). option_map (λ ys. zs ++ ys) (arms_of names w (drop (k + 1) arms))) (sym m)
  where
    from_next : (xs : List (Arm Stmt)) (n : ℕ) (x : Arm Stmt) → n < length xs → x ≡ get_or xs n x → drop n xs ≡ x ∷ drop (n + 1) xs
    from_next xs n x l is = drop-cons xs n x l ∙ ap (λ y. y ∷ drop (suc n) xs) (sym is) ∙ ap (λ m. x ∷ drop m xs) (sym (add-one n))
