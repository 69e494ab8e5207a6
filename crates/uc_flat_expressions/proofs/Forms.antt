-- What each form of expression comes to, and answers of forms by answers of their parts.
use Rattle.std.proofs.Common.{◌≡◌, ℕ, true, ◌++◌, List, [], ◌∷◌, map, drop, length, get_or, refl, sym, ap, ◌∙◌, subst, Option, Some, None}
use Rattle.std.specs.Prelude.{Result, Ok, Err}
use Rattle.std.specs.Option.{option_map, option_and_then}
use Rattle.uc_lexer.specs.declared.place.Place.{Place}
use Rattle.uc_syntax.specs.declared.expression.Expr.{Expr}
use Rattle.uc_syntax.specs.declared.expression.Expr.TheOpen.{Expr-F}
use Rattle.uc_syntax.specs.declared.expression.Expr.TheOpen.Expr-F.{If as IfForm, Iff as IffForm, Implies as ImpliesForm, Or as OrForm, And as AndForm, Compare as CompareForm, BitOr as BitOrForm, BitXor as BitXorForm, BitAnd as BitAndForm, Concat as ConcatForm, Sum as SumForm, Product as ProductForm, Unary as UnaryForm, Selected as SelectedForm}
use Rattle.uc_syntax.specs.declared.expression.Expr.TheViews.{roll-Expr, If, Iff, Implies, Or, And, Compare, BitOr, BitXor, BitAnd, Concat, Sum, Product, Unary, Selected}
use Rattle.uc_syntax.specs.declared.expression.Expr.TheFolds.{map-Expr, fold-roll-Expr}
use Rattle.uc_syntax.specs.declared.expression.Branch.{Branch}
use Rattle.uc_syntax.specs.declared.expression.BitFunction.{BitFunction}
use Rattle.uc_syntax.specs.declared.expression.Comparison.{Comparison}
use Rattle.uc_syntax.specs.declared.expression.UnaryOperator.{UnaryOperator}
use Rattle.uc_syntax.specs.declared.expression.SumSign.{SumSign}
use Rattle.uc_syntax.specs.declared.expression.Primary.{Primary}
use Rattle.uc_syntax.specs.declared.expression.Primary.TheVariants.{Truth as TruthWord, Number, BitsLiteral, Name, Apply as Applied, OnBits, Old, Grouped}
use Rattle.uc_syntax.specs.declared.expression.Selection.{Selection}
use Rattle.uc_syntax.specs.declared.expression.Selection.TheVariants.{Field, Copy, Element, Update, Extract}
use Rattle.uc_ops.specs.declared.op.Op.TheVariants.{And as AndOp, Or as OrOp}
use Rattle.uc_flat_expressions.specs.declared.typed.TypedExpression.{TypedExpression}
use Rattle.uc_flat_expressions.specs.declared.typed.TypedArm.{TypedArm}
use Rattle.uc_flat_expressions.specs.declared.typed.Meant.{Meant}
use Rattle.uc_flat_expressions.specs.declared.typed.FlatError.{FlatError}
use Rattle.uc_flat_expressions.specs.declared.typed.FlatError.TheVariants.{NoMemory, NotBuilt}
use Rattle.uc_flat_expressions.specs.declared.building.Chain.TheVariants.{Equal, Or as OrBits, Xor, And as AndBits, Concat as Joined, Multiply}
use Rattle.uc_flat_expressions.specs.Answers.{IsAnswer}
use Rattle.uc_flat_expressions.specs.Building.{negation, implied_parts, joined, chain_from, sign_chain, sum_from, chain, junction, implication, sum, choice, comparison, unary_of}
use Rattle.uc_flat_expressions.specs.Expressions.{MayBe, all_of, compare_form, unary_form, arm_of, joined_arms, if_by, on_two, plain_primary, primary_by, select_of, select_all_of, selected_by, flat_form, flat_of}

-- ---- answers

pub err_then : {A B : Type 0} (f : A → Option B) (o : Option A) (e : FlatError) → IsAnswer {A = A} o (Err e) → IsAnswer {A = B} (option_and_then f o) (Err e)
err_then f o NotBuilt h = ap (option_and_then f) h
err_then f o NoMemory h = tt

pub ok_then : {A B : Type 0} (f : A → Option B) (o : Option A) (x : A) (r : Result B FlatError) → o ≡ Some x → IsAnswer (f x) r → IsAnswer (option_and_then f o) r
ok_then f o x r e h = subst (λ p. IsAnswer (option_and_then f p) r) (sym e) h

pub same_answer : {A : Type 0} (o p : Option A) (r : Result A FlatError) → p ≡ o → IsAnswer o r → IsAnswer p r
same_answer o p r e h = subst (λ q. IsAnswer q r) (sym e) h

-- ---- forms of parts in a list

pub flat_iff : (names : List Meant) (p : Place) (es : List Expr) (marks : List Place) → flat_of names (Iff p es marks) ≡ option_and_then (chain Equal) (all_of (map (flat_of names) es))
unfolding flat_of roll-Expr denote.Hole.Carrier.roll
flat_iff names p es marks = fold-roll-Expr MayBe (flat_form names) (IffForm p es marks)

pub flat_implies : (names : List Meant) (p : Place) (es : List Expr) (marks : List Place) → flat_of names (Implies p es marks) ≡ option_and_then implication (all_of (map (flat_of names) es))
unfolding flat_of roll-Expr denote.Hole.Carrier.roll
flat_implies names p es marks = fold-roll-Expr MayBe (flat_form names) (ImpliesForm p es marks)

pub flat_or : (names : List Meant) (p : Place) (es : List Expr) (marks : List Place) → flat_of names (Or p es marks) ≡ option_and_then (junction OrOp) (all_of (map (flat_of names) es))
unfolding flat_of roll-Expr denote.Hole.Carrier.roll
flat_or names p es marks = fold-roll-Expr MayBe (flat_form names) (OrForm p es marks)

pub flat_and : (names : List Meant) (p : Place) (es : List Expr) (marks : List Place) → flat_of names (And p es marks) ≡ option_and_then (junction AndOp) (all_of (map (flat_of names) es))
unfolding flat_of roll-Expr denote.Hole.Carrier.roll
flat_and names p es marks = fold-roll-Expr MayBe (flat_form names) (AndForm p es marks)

pub flat_bit_or : (names : List Meant) (p : Place) (es : List Expr) (marks : List Place) → flat_of names (BitOr p es marks) ≡ option_and_then (chain OrBits) (all_of (map (flat_of names) es))
unfolding flat_of roll-Expr denote.Hole.Carrier.roll
flat_bit_or names p es marks = fold-roll-Expr MayBe (flat_form names) (BitOrForm p es marks)

pub flat_bit_xor : (names : List Meant) (p : Place) (es : List Expr) (marks : List Place) → flat_of names (BitXor p es marks) ≡ option_and_then (chain Xor) (all_of (map (flat_of names) es))
unfolding flat_of roll-Expr denote.Hole.Carrier.roll
flat_bit_xor names p es marks = fold-roll-Expr MayBe (flat_form names) (BitXorForm p es marks)

pub flat_bit_and : (names : List Meant) (p : Place) (es : List Expr) (marks : List Place) → flat_of names (BitAnd p es marks) ≡ option_and_then (chain AndBits) (all_of (map (flat_of names) es))
unfolding flat_of roll-Expr denote.Hole.Carrier.roll
flat_bit_and names p es marks = fold-roll-Expr MayBe (flat_form names) (BitAndForm p es marks)

pub flat_concat : (names : List Meant) (p : Place) (es : List Expr) (marks : List Place) → flat_of names (Concat p es marks) ≡ option_and_then (chain Joined) (all_of (map (flat_of names) es))
unfolding flat_of roll-Expr denote.Hole.Carrier.roll
flat_concat names p es marks = fold-roll-Expr MayBe (flat_form names) (ConcatForm p es marks)

pub flat_product : (names : List Meant) (p : Place) (es : List Expr) (marks : List Place) → flat_of names (Product p es marks) ≡ option_and_then (chain Multiply) (all_of (map (flat_of names) es))
unfolding flat_of roll-Expr denote.Hole.Carrier.roll
flat_product names p es marks = fold-roll-Expr MayBe (flat_form names) (ProductForm p es marks)

pub flat_sum : (names : List Meant) (p : Place) (es : List Expr) (signs : List SumSign) → flat_of names (Sum p es signs) ≡ option_and_then (sum signs) (all_of (map (flat_of names) es))
unfolding flat_of roll-Expr denote.Hole.Carrier.roll
flat_sum names p es signs = fold-roll-Expr MayBe (flat_form names) (SumForm p es signs)

pub flat_compare : (names : List Meant) (p : Place) (how : Comparison) (mark : Place) (a b : Expr) → flat_of names (Compare p how mark a b) ≡ compare_form how (flat_of names a) (flat_of names b)
unfolding flat_of roll-Expr denote.Hole.Carrier.roll
flat_compare names p how mark a b = fold-roll-Expr MayBe (flat_form names) (CompareForm p how mark a b)

pub flat_unary : (names : List Meant) (p : Place) (operator : UnaryOperator) (a : Expr) → flat_of names (Unary p operator a) ≡ unary_form operator (flat_of names a)
unfolding flat_of roll-Expr denote.Hole.Carrier.roll
flat_unary names p operator a = fold-roll-Expr MayBe (flat_form names) (UnaryForm p operator a)

-- ---- conditionals and selections

abbrev selections_of : {X : Type 0} → Expr-F X → List (Selection X)
selections_of (SelectedForm p primary selections) = selections
selections_of other = []

abbrev branches_of : {X : Type 0} → Expr-F X → List (Branch X)
branches_of (IfForm p branches otherwise) = branches
branches_of other = []

abbrev primary_in : {X : Type 0} → Expr-F X → Primary X
primary_in (SelectedForm p primary selections) = primary
primary_in other = TruthWord true

arms_mapped : (f : Expr → MayBe) (p : Place) (bs : List (Branch Expr)) (z : Expr) → map (arm_of (λ (x : MayBe). x)) (branches_of (map-Expr Expr MayBe f (IfForm p bs z))) ≡ map (arm_of f) bs
arms_mapped f p [] z = refl
arms_mapped f p (b ∷ bs) z = ap (λ xs. arm_of f b ∷ xs) (arms_mapped f p bs z)

pub flat_if : (names : List Meant) (p : Place) (bs : List (Branch Expr)) (z : Expr) → flat_of names (If p bs z) ≡ if_by (flat_of names) bs (flat_of names z)
unfolding flat_of roll-Expr denote.Hole.Carrier.roll
flat_if names p bs z =
    fold-roll-Expr MayBe (flat_form names) (IfForm p bs z)
    ∙ ap (λ xs. option_and_then (λ rest. option_and_then (λ arms. joined_arms arms rest) (all_of xs)) (flat_of names z)) (arms_mapped (flat_of names) p bs z)

then_same : (f g : TypedExpression → MayBe) (o : MayBe) → ((t : TypedExpression) → f t ≡ g t) → option_and_then f o ≡ option_and_then g o
then_same f g None h = refl
then_same f g (Some t) h = h t

select_mapped : (f : Expr → MayBe) (p : Place) (primary : Primary Expr) (ss : List (Selection Expr)) (t : TypedExpression)
    → select_all_of t (selections_of (map-Expr Expr MayBe f (SelectedForm p primary ss))) ≡ select_all_of t ss
unfolding select_all_of
select_mapped f p primary [] t = refl
select_mapped f p primary (Field q i ∷ ss) t =
    then_same (λ u. select_all_of u (selections_of (map-Expr Expr MayBe f (SelectedForm p primary ss)))) (λ u. select_all_of u ss) (select_of {E = Expr} t (Field q i)) (λ u. select_mapped f p primary ss u)
select_mapped f p primary (Extract q a b ∷ ss) t =
    then_same (λ u. select_all_of u (selections_of (map-Expr Expr MayBe f (SelectedForm p primary ss)))) (λ u. select_all_of u ss) (select_of {E = Expr} t (Extract q a b)) (λ u. select_mapped f p primary ss u)
select_mapped f p primary (Copy q k ∷ ss) t = refl
select_mapped f p primary (Element q e ∷ ss) t = refl
select_mapped f p primary (Update q e v ∷ ss) t = refl

same_list : (xs : List MayBe) → map (λ (x : MayBe). x) xs ≡ xs
same_list [] = refl
same_list (x ∷ xs) = ap (λ ys. x ∷ ys) (same_list xs)

primary_mapped : (names : List Meant) (f : Expr → MayBe) (p : Place) (primary : Primary Expr) (ss : List (Selection Expr))
    → primary_by names (λ (x : MayBe). x) (primary_in (map-Expr Expr MayBe f (SelectedForm p primary ss))) ≡ primary_by names f primary
primary_mapped names f p (TruthWord b) ss = refl
primary_mapped names f p (Number n) ss = refl
primary_mapped names f p (BitsLiteral n w) ss = refl
primary_mapped names f p (Name x primed) ss = refl
primary_mapped names f p (Applied x es) ss = refl
primary_mapped names f p (OnBits function es) ss = ap (λ xs. option_and_then (on_two function) (all_of xs)) (same_list (map f es))
primary_mapped names f p (Old x) ss = refl
primary_mapped names f p (Grouped e) ss = refl

pub flat_selected : (names : List Meant) (p : Place) (primary : Primary Expr) (ss : List (Selection Expr)) → flat_of names (Selected p primary ss) ≡ selected_by names (flat_of names) primary ss
unfolding flat_of roll-Expr denote.Hole.Carrier.roll
flat_selected names p primary ss =
    fold-roll-Expr MayBe (flat_form names) (SelectedForm p primary ss)
    ∙ ap (option_and_then (λ t. select_all_of t (selections_of (map-Expr Expr MayBe (flat_of names) (SelectedForm p primary ss))))) (primary_mapped names (flat_of names) p primary ss)
    ∙ then_same (λ t. select_all_of t (selections_of (map-Expr Expr MayBe (flat_of names) (SelectedForm p primary ss)))) (λ t. select_all_of t ss) (primary_by names (flat_of names) primary)
    (select_mapped (flat_of names) p primary ss)

-- ---- walks

pub map_append : (all : List TypedExpression) (t : TypedExpression) (o : Option (List TypedExpression)) → option_map (λ xs. all ++ xs) (option_map (λ xs. t ∷ xs) o) ≡ option_map (λ xs. (all ++ t ∷ []) ++ xs) o
map_append all t None = refl
map_append all t (Some xs) = ap Some (onward all)
  where
    onward : (ys : List TypedExpression) → ys ++ t ∷ xs ≡ (ys ++ t ∷ []) ++ xs
    onward [] = refl
    onward (y ∷ ys) = ap (λ zs. y ∷ zs) (onward ys)

pub map_nothing : (o : Option (List TypedExpression)) → option_map (λ xs. [] ++ xs) o ≡ o
map_nothing None = refl
map_nothing (Some xs) = refl

pub implied_front : (front : List TypedExpression) (last : TypedExpression) → implied_parts (front ++ last ∷ []) ≡ map negation front ++ last ∷ []
unfolding implied_parts
implied_front [] last = refl
implied_front (t ∷ []) last = refl
implied_front (t ∷ (u ∷ us)) last = ap (λ ts. negation t ∷ ts) (implied_front (u ∷ us) last)

-- the last of the arms is joined first
pub joined_last : (front : List TypedArm) (a : TypedArm) (rest whole : TypedExpression) → choice a.condition a.value rest ≡ Some whole → joined_arms (front ++ a ∷ []) rest ≡ joined_arms front whole
unfolding joined_arms
joined_last [] a rest whole h = h
joined_last (b ∷ bs) a rest whole h = ap (option_and_then (choice b.condition b.value)) (joined_last bs a rest whole h)

pub joined_none : (front : List TypedArm) (a : TypedArm) (rest : TypedExpression) → choice a.condition a.value rest ≡ None → joined_arms (front ++ a ∷ []) rest ≡ None
unfolding joined_arms
joined_none [] a rest h = h
joined_none (b ∷ bs) a rest h = ap (option_and_then (choice b.condition b.value)) (joined_none bs a rest h)

-- ---- answers of forms

pub iff_answer : (names : List Meant) (e : Expr) (p : Place) (es : List Expr) (marks : List Place) (r : Result TypedExpression FlatError) → e ≡ Iff p es marks → IsAnswer (option_and_then (chain Equal) (all_of (map (flat_of names) es))) r → IsAnswer (flat_of names e) r
iff_answer names e p es marks r is h = subst (λ o. IsAnswer o r) (sym (ap (flat_of names) is ∙ flat_iff names p es marks)) h

pub implies_answer : (names : List Meant) (e : Expr) (p : Place) (es : List Expr) (marks : List Place) (r : Result TypedExpression FlatError) → e ≡ Implies p es marks → IsAnswer (option_and_then implication (all_of (map (flat_of names) es))) r → IsAnswer (flat_of names e) r
implies_answer names e p es marks r is h = subst (λ o. IsAnswer o r) (sym (ap (flat_of names) is ∙ flat_implies names p es marks)) h

pub or_answer : (names : List Meant) (e : Expr) (p : Place) (es : List Expr) (marks : List Place) (r : Result TypedExpression FlatError) → e ≡ Or p es marks → IsAnswer (option_and_then (junction OrOp) (all_of (map (flat_of names) es))) r → IsAnswer (flat_of names e) r
or_answer names e p es marks r is h = subst (λ o. IsAnswer o r) (sym (ap (flat_of names) is ∙ flat_or names p es marks)) h

pub and_answer : (names : List Meant) (e : Expr) (p : Place) (es : List Expr) (marks : List Place) (r : Result TypedExpression FlatError) → e ≡ And p es marks → IsAnswer (option_and_then (junction AndOp) (all_of (map (flat_of names) es))) r → IsAnswer (flat_of names e) r
and_answer names e p es marks r is h = subst (λ o. IsAnswer o r) (sym (ap (flat_of names) is ∙ flat_and names p es marks)) h

pub bit_or_answer : (names : List Meant) (e : Expr) (p : Place) (es : List Expr) (marks : List Place) (r : Result TypedExpression FlatError) → e ≡ BitOr p es marks → IsAnswer (option_and_then (chain OrBits) (all_of (map (flat_of names) es))) r → IsAnswer (flat_of names e) r
bit_or_answer names e p es marks r is h = subst (λ o. IsAnswer o r) (sym (ap (flat_of names) is ∙ flat_bit_or names p es marks)) h

pub bit_xor_answer : (names : List Meant) (e : Expr) (p : Place) (es : List Expr) (marks : List Place) (r : Result TypedExpression FlatError) → e ≡ BitXor p es marks → IsAnswer (option_and_then (chain Xor) (all_of (map (flat_of names) es))) r → IsAnswer (flat_of names e) r
bit_xor_answer names e p es marks r is h = subst (λ o. IsAnswer o r) (sym (ap (flat_of names) is ∙ flat_bit_xor names p es marks)) h

pub bit_and_answer : (names : List Meant) (e : Expr) (p : Place) (es : List Expr) (marks : List Place) (r : Result TypedExpression FlatError) → e ≡ BitAnd p es marks → IsAnswer (option_and_then (chain AndBits) (all_of (map (flat_of names) es))) r → IsAnswer (flat_of names e) r
bit_and_answer names e p es marks r is h = subst (λ o. IsAnswer o r) (sym (ap (flat_of names) is ∙ flat_bit_and names p es marks)) h

pub concat_answer : (names : List Meant) (e : Expr) (p : Place) (es : List Expr) (marks : List Place) (r : Result TypedExpression FlatError) → e ≡ Concat p es marks → IsAnswer (option_and_then (chain Joined) (all_of (map (flat_of names) es))) r → IsAnswer (flat_of names e) r
concat_answer names e p es marks r is h = subst (λ o. IsAnswer o r) (sym (ap (flat_of names) is ∙ flat_concat names p es marks)) h

pub product_answer : (names : List Meant) (e : Expr) (p : Place) (es : List Expr) (marks : List Place) (r : Result TypedExpression FlatError) → e ≡ Product p es marks → IsAnswer (option_and_then (chain Multiply) (all_of (map (flat_of names) es))) r → IsAnswer (flat_of names e) r
product_answer names e p es marks r is h = subst (λ o. IsAnswer o r) (sym (ap (flat_of names) is ∙ flat_product names p es marks)) h

pub sum_answer : (names : List Meant) (e : Expr) (p : Place) (es : List Expr) (signs : List SumSign) (r : Result TypedExpression FlatError) → e ≡ Sum p es signs → IsAnswer (option_and_then (sum signs) (all_of (map (flat_of names) es))) r → IsAnswer (flat_of names e) r
sum_answer names e p es signs r is h = subst (λ o. IsAnswer o r) (sym (ap (flat_of names) is ∙ flat_sum names p es signs)) h

pub unary_answer : (names : List Meant) (e : Expr) (p : Place) (operator : UnaryOperator) (a : Expr) (r : Result TypedExpression FlatError) → e ≡ Unary p operator a → IsAnswer (unary_form operator (flat_of names a)) r → IsAnswer (flat_of names e) r
unary_answer names e p operator a r is h = subst (λ o. IsAnswer o r) (sym (ap (flat_of names) is ∙ flat_unary names p operator a)) h

pub compare_answer : (names : List Meant) (e : Expr) (p : Place) (how : Comparison) (mark : Place) (a b : Expr) (r : Result TypedExpression FlatError) → e ≡ Compare p how mark a b → IsAnswer (compare_form how (flat_of names a) (flat_of names b)) r → IsAnswer (flat_of names e) r
compare_answer names e p how mark a b r is h = subst (λ o. IsAnswer o r) (sym (ap (flat_of names) is ∙ flat_compare names p how mark a b)) h

pub if_answer : (names : List Meant) (e : Expr) (p : Place) (bs : List (Branch Expr)) (z : Expr) (r : Result TypedExpression FlatError) → e ≡ If p bs z → IsAnswer (if_by (flat_of names) bs (flat_of names z)) r → IsAnswer (flat_of names e) r
if_answer names e p bs z r is h = subst (λ o. IsAnswer o r) (sym (ap (flat_of names) is ∙ flat_if names p bs z)) h

pub selected_answer : (names : List Meant) (e : Expr) (p : Place) (primary : Primary Expr) (ss : List (Selection Expr)) (r : Result TypedExpression FlatError) → e ≡ Selected p primary ss → IsAnswer (selected_by names (flat_of names) primary ss) r → IsAnswer (flat_of names e) r
selected_answer names e p primary ss r is h = subst (λ o. IsAnswer o r) (sym (ap (flat_of names) is ∙ flat_selected names p primary ss)) h

-- ---- answers of comparisons and of primaries with parts

then_none : {A B C : Type 0} (f : A → B → Option C) (o : Option A) (p : Option B) → p ≡ None → option_and_then (λ x. option_and_then (f x) p) o ≡ None
then_none f None p h = refl
then_none f (Some x) p h = ap (option_and_then (f x)) h

pub compare_left_err : (names : List Meant) (e : Expr) (p : Place) (how : Comparison) (mark : Place) (a b : Expr) (err : FlatError) → e ≡ Compare p how mark a b → IsAnswer {A = TypedExpression} (flat_of names a) (Err err) → IsAnswer {A = TypedExpression} (flat_of names e) (Err err)
compare_left_err names e p how mark a b err is h =
    compare_answer names e p how mark a b (Err err) is (err_then (λ x. option_and_then (λ y. comparison how x y) (flat_of names b)) (flat_of names a) err h)

pub compare_right_err : (names : List Meant) (e : Expr) (p : Place) (how : Comparison) (mark : Place) (a b : Expr) (err : FlatError) → e ≡ Compare p how mark a b → IsAnswer {A = TypedExpression} (flat_of names b) (Err err) → IsAnswer {A = TypedExpression} (flat_of names e) (Err err)
compare_right_err names e p how mark a b NoMemory is h = tt
compare_right_err names e p how mark a b NotBuilt is h = ap (flat_of names) is ∙ flat_compare names p how mark a b ∙ then_none (λ x y. comparison how x y) (flat_of names a) (flat_of names b) h

pub compare_ok : (names : List Meant) (e : Expr) (p : Place) (how : Comparison) (mark : Place) (a b : Expr) (x y : TypedExpression) (r : Result TypedExpression FlatError) → e ≡ Compare p how mark a b
    → flat_of names a ≡ Some x → flat_of names b ≡ Some y → IsAnswer (comparison how x y) r → IsAnswer (flat_of names e) r
compare_ok names e p how mark a b x y r is f g h =
    compare_answer names e p how mark a b r is (ok_then (λ x. option_and_then (λ y. comparison how x y) (flat_of names b)) (flat_of names a) x r f (ok_then (λ y. comparison how x y) (flat_of names b) y r g h))

-- an expression with a primary, and its selections
by_primary : (names : List Meant) (e : Expr) (p : Place) (primary q : Primary Expr) (ss : List (Selection Expr)) (r : Result TypedExpression FlatError) → e ≡ Selected p primary ss → primary ≡ q
    → IsAnswer (selected_by names (flat_of names) q ss) r → IsAnswer (flat_of names e) r
by_primary names e p primary q ss r is same h = selected_answer names e p primary ss r is (subst (λ x. IsAnswer (selected_by names (flat_of names) x ss) r) (sym same) h)

pub on_bits_err : (names : List Meant) (e : Expr) (p : Place) (primary : Primary Expr) (function : BitFunction) (es : List Expr) (ss : List (Selection Expr)) (err : FlatError) → e ≡ Selected p primary ss → primary ≡ OnBits function es
    → IsAnswer {A = List TypedExpression} (all_of (map (flat_of names) es)) (Err err) → IsAnswer {A = TypedExpression} (flat_of names e) (Err err)
on_bits_err names e p primary function es ss err is same h =
    by_primary names e p primary (OnBits function es) ss (Err err) is same
    (err_then (λ t. select_all_of t ss) (option_and_then (on_two function) (all_of (map (flat_of names) es))) err (err_then (on_two function) (all_of (map (flat_of names) es)) err h))

pub on_bits_ok : (names : List Meant) (e : Expr) (p : Place) (primary : Primary Expr) (function : BitFunction) (es : List Expr) (ss : List (Selection Expr)) (parts : List TypedExpression) (r : Result TypedExpression FlatError)
    → e ≡ Selected p primary ss → primary ≡ OnBits function es → all_of (map (flat_of names) es) ≡ Some parts → IsAnswer (option_and_then (λ t. select_all_of t ss) (on_two function parts)) r → IsAnswer (flat_of names e) r
on_bits_ok names e p primary function es ss parts r is same all h =
    by_primary names e p primary (OnBits function es) ss r is same
    (subst (λ o. IsAnswer (option_and_then (λ t. select_all_of t ss) (option_and_then (on_two function) o)) r) (sym all) h)

pub grouped_err : (names : List Meant) (e : Expr) (p : Place) (primary : Primary Expr) (inner : Expr) (ss : List (Selection Expr)) (err : FlatError) → e ≡ Selected p primary ss → primary ≡ Grouped inner
    → IsAnswer {A = TypedExpression} (flat_of names inner) (Err err) → IsAnswer {A = TypedExpression} (flat_of names e) (Err err)
grouped_err names e p primary inner ss err is same h = by_primary names e p primary (Grouped inner) ss (Err err) is same (err_then (λ t. select_all_of t ss) (flat_of names inner) err h)

pub grouped_ok : (names : List Meant) (e : Expr) (p : Place) (primary : Primary Expr) (inner : Expr) (ss : List (Selection Expr)) (whole : TypedExpression) (r : Result TypedExpression FlatError)
    → e ≡ Selected p primary ss → primary ≡ Grouped inner → flat_of names inner ≡ Some whole → IsAnswer (select_all_of whole ss) r → IsAnswer (flat_of names e) r
grouped_ok names e p primary inner ss whole r is same one h = by_primary names e p primary (Grouped inner) ss r is same (ok_then (λ t. select_all_of t ss) (flat_of names inner) whole r one h)

-- a primary without parts
plain_by : (names : List Meant) (f : Expr → MayBe) (primary : Primary Expr) → ((function : BitFunction) (es : List Expr) → primary ≡ OnBits function es → ⊥) → ((inner : Expr) → primary ≡ Grouped inner → ⊥)
    → primary_by names f primary ≡ plain_primary names primary
plain_by names f (OnBits function es) not_bits not_grouped = absurd (not_bits function es refl)
plain_by names f (Grouped inner) not_bits not_grouped = absurd (not_grouped inner refl)
plain_by names f (TruthWord b) not_bits not_grouped = refl
plain_by names f (Number n) not_bits not_grouped = refl
plain_by names f (BitsLiteral n w) not_bits not_grouped = refl
plain_by names f (Name x primed) not_bits not_grouped = refl
plain_by names f (Applied x es) not_bits not_grouped = refl
plain_by names f (Old x) not_bits not_grouped = refl

pub plain_answer : (names : List Meant) (e : Expr) (p : Place) (primary : Primary Expr) (ss : List (Selection Expr)) (r : Result TypedExpression FlatError) → e ≡ Selected p primary ss
    → ((function : BitFunction) (es : List Expr) → primary ≡ OnBits function es → ⊥) → ((inner : Expr) → primary ≡ Grouped inner → ⊥)
    → IsAnswer (option_and_then (λ t. select_all_of t ss) (plain_primary names primary)) r → IsAnswer (flat_of names e) r
plain_answer names e p primary ss r is not_bits not_grouped h =
    selected_answer names e p primary ss r is (subst (λ o. IsAnswer (option_and_then (λ t. select_all_of t ss) o) r) (sym (plain_by names (flat_of names) primary not_bits not_grouped)) h)
