-- What an expression is without places, in terms of its parts.
use Rattle.std.proofs.Common.{◌≡◌, true, List, [], ◌∷◌, map, refl, ap, ◌∙◌}
use Rattle.uc_lexer.specs.declared.place.Place.{Place}
use Rattle.uc_syntax.specs.declared.expression.UnaryOperator.{UnaryOperator}
use Rattle.uc_syntax.specs.declared.expression.Comparison.{Comparison}
use Rattle.uc_syntax.specs.declared.expression.SumSign.{SumSign}
use Rattle.uc_syntax.specs.declared.expression.Branch.{Branch}
use Rattle.uc_syntax.specs.declared.expression.Selection.{Selection}
use Rattle.uc_syntax.specs.declared.expression.Selection.TheVariants.{Field, Copy, Element, Update, Extract}
use Rattle.uc_syntax.specs.declared.expression.Primary.{Primary}
use Rattle.uc_syntax.specs.declared.expression.Primary.TheVariants.{Truth, Number, BitsLiteral, Name, Apply, OnBits, Old, Grouped}
use Rattle.uc_syntax.specs.declared.expression.Expr.{Expr}
use Rattle.uc_syntax.specs.declared.expression.Expr.TheOpen.{Expr-F}
use Rattle.uc_syntax.specs.declared.expression.Expr.TheOpen.Expr-F.{If, Iff, Implies, Or, And, Compare, BitOr, BitXor, BitAnd, Concat, Sum, Product, Unary, Selected}
use Rattle.uc_syntax.specs.declared.expression.Expr.TheViews as exprs
use Rattle.uc_syntax.specs.declared.expression.Expr.TheViews.{roll-Expr}
use Rattle.uc_syntax.specs.declared.expression.Expr.TheFolds.{map-Expr, fold-roll-Expr}
use Rattle.uc_print_laws.specs.Printed.{nowhere}
use Rattle.uc_print_laws.specs.Expressions.{each_branch, branch_nowhere, each_selection, selection_nowhere, each_primary, primary_nowhere, marks_nowhere, sign_nowhere, erase_form, erased_expr}
use Rattle.uc_print_laws.proofs.Maps.{map_twice}

-- ---- a layer with each part changed

abbrev selections_in : {X : Type 0} → Expr-F X → List (Selection X)
selections_in (Selected p q ss) = ss
selections_in other = []

abbrev branches_in : {X : Type 0} → Expr-F X → List (Branch X)
branches_in (If p bs z) = bs
branches_in other = []

abbrev primary_in : {X : Type 0} → Expr-F X → Primary X
primary_in (Selected p q ss) = q
primary_in other = Truth true

selections_of : {A B : Type 0} (f : A → B) (p : Place) (q : Primary A) (ss : List (Selection A)) → selections_in (map-Expr A B f (Selected p q ss)) ≡ map (each_selection f) ss
selections_of f p q [] = refl
selections_of f p q (Field r i ∷ ss) = ap (λ x. Field r i ∷ x) (selections_of f p q ss)
selections_of f p q (Copy r n ∷ ss) = ap (λ x. Copy r n ∷ x) (selections_of f p q ss)
selections_of f p q (Element r e ∷ ss) = ap (λ x. Element r (f e) ∷ x) (selections_of f p q ss)
selections_of f p q (Update r e v ∷ ss) = ap (λ x. Update r (f e) (f v) ∷ x) (selections_of f p q ss)
selections_of f p q (Extract r a b ∷ ss) = ap (λ x. Extract r a b ∷ x) (selections_of f p q ss)

primary_of : {A B : Type 0} (f : A → B) (p : Place) (q : Primary A) (ss : List (Selection A)) → primary_in (map-Expr A B f (Selected p q ss)) ≡ each_primary f q
primary_of f p (Truth b) ss = refl
primary_of f p (Number n) ss = refl
primary_of f p (BitsLiteral n w) ss = refl
primary_of f p (Name n b) ss = refl
primary_of f p (Apply n es) ss = refl
primary_of f p (OnBits k es) ss = refl
primary_of f p (Old i) ss = refl
primary_of f p (Grouped e) ss = refl

pub map_selected : {A B : Type 0} (f : A → B) (p : Place) (q : Primary A) (ss : List (Selection A)) → map-Expr A B f (Selected p q ss) ≡ Selected p (each_primary f q) (map (each_selection f) ss)
map_selected {A} {B} f p q ss =
    let x = map-Expr A B f (Selected p q ss) in
    ap (λ (z : Primary B). Expr-F.Selected p z (selections_in x)) (primary_of f p q ss) ∙ ap (λ (z : List (Selection B)). Expr-F.Selected p (each_primary f q) z) (selections_of f p q ss)

branches_of : {A B : Type 0} (f : A → B) (p : Place) (bs : List (Branch A)) (z : A) → branches_in (map-Expr A B f (If p bs z)) ≡ map (each_branch f) bs
branches_of f p [] z = refl
branches_of f p (b ∷ bs) z = ap (λ x. each_branch f b ∷ x) (branches_of f p bs z)

pub map_if : {A B : Type 0} (f : A → B) (p : Place) (bs : List (Branch A)) (z : A) → map-Expr A B f (If p bs z) ≡ If p (map (each_branch f) bs) (f z)
map_if {A} {B} f p bs z = ap (λ (x : List (Branch B)). Expr-F.If p x (f z)) (branches_of f p bs z)

-- ---- equations

abbrev pub erased_branch : Branch Expr → Branch Expr
erased_branch b = branch_nowhere (each_branch erased_expr b)

abbrev pub erased_selection : Selection Expr → Selection Expr
erased_selection s = selection_nowhere (each_selection erased_expr s)

abbrev pub erased_primary : Primary Expr → Primary Expr
erased_primary q = primary_nowhere (each_primary erased_expr q)

pub erased_if : (p : Place) (bs : List (Branch Expr)) (z : Expr) → erased_expr (exprs.If p bs z) ≡ exprs.If nowhere (map erased_branch bs) (erased_expr z)
unfolding roll-Expr denote.Hole.Carrier.roll
erased_if p bs z = fold-roll-Expr Expr erase_form (If p bs z) ∙ ap erase_form (map_if erased_expr p bs z) ∙ ap (λ x. exprs.If nowhere x (erased_expr z)) (map_twice (each_branch erased_expr) branch_nowhere bs)

pub erased_iff : (p : Place) (es : List Expr) (ms : List Place) → erased_expr (exprs.Iff p es ms) ≡ exprs.Iff nowhere (map erased_expr es) (marks_nowhere ms)
unfolding roll-Expr denote.Hole.Carrier.roll
erased_iff p es ms = fold-roll-Expr Expr erase_form (Iff p es ms)

pub erased_implies : (p : Place) (es : List Expr) (ms : List Place) → erased_expr (exprs.Implies p es ms) ≡ exprs.Implies nowhere (map erased_expr es) (marks_nowhere ms)
unfolding roll-Expr denote.Hole.Carrier.roll
erased_implies p es ms = fold-roll-Expr Expr erase_form (Implies p es ms)

pub erased_or : (p : Place) (es : List Expr) (ms : List Place) → erased_expr (exprs.Or p es ms) ≡ exprs.Or nowhere (map erased_expr es) (marks_nowhere ms)
unfolding roll-Expr denote.Hole.Carrier.roll
erased_or p es ms = fold-roll-Expr Expr erase_form (Or p es ms)

pub erased_and : (p : Place) (es : List Expr) (ms : List Place) → erased_expr (exprs.And p es ms) ≡ exprs.And nowhere (map erased_expr es) (marks_nowhere ms)
unfolding roll-Expr denote.Hole.Carrier.roll
erased_and p es ms = fold-roll-Expr Expr erase_form (And p es ms)

pub erased_bit_or : (p : Place) (es : List Expr) (ms : List Place) → erased_expr (exprs.BitOr p es ms) ≡ exprs.BitOr nowhere (map erased_expr es) (marks_nowhere ms)
unfolding roll-Expr denote.Hole.Carrier.roll
erased_bit_or p es ms = fold-roll-Expr Expr erase_form (BitOr p es ms)

pub erased_bit_xor : (p : Place) (es : List Expr) (ms : List Place) → erased_expr (exprs.BitXor p es ms) ≡ exprs.BitXor nowhere (map erased_expr es) (marks_nowhere ms)
unfolding roll-Expr denote.Hole.Carrier.roll
erased_bit_xor p es ms = fold-roll-Expr Expr erase_form (BitXor p es ms)

pub erased_bit_and : (p : Place) (es : List Expr) (ms : List Place) → erased_expr (exprs.BitAnd p es ms) ≡ exprs.BitAnd nowhere (map erased_expr es) (marks_nowhere ms)
unfolding roll-Expr denote.Hole.Carrier.roll
erased_bit_and p es ms = fold-roll-Expr Expr erase_form (BitAnd p es ms)

pub erased_concat : (p : Place) (es : List Expr) (ms : List Place) → erased_expr (exprs.Concat p es ms) ≡ exprs.Concat nowhere (map erased_expr es) (marks_nowhere ms)
unfolding roll-Expr denote.Hole.Carrier.roll
erased_concat p es ms = fold-roll-Expr Expr erase_form (Concat p es ms)

pub erased_product : (p : Place) (es : List Expr) (ms : List Place) → erased_expr (exprs.Product p es ms) ≡ exprs.Product nowhere (map erased_expr es) (marks_nowhere ms)
unfolding roll-Expr denote.Hole.Carrier.roll
erased_product p es ms = fold-roll-Expr Expr erase_form (Product p es ms)

pub erased_sum : (p : Place) (es : List Expr) (ss : List SumSign) → erased_expr (exprs.Sum p es ss) ≡ exprs.Sum nowhere (map erased_expr es) (map sign_nowhere ss)
unfolding roll-Expr denote.Hole.Carrier.roll
erased_sum p es ss = fold-roll-Expr Expr erase_form (Sum p es ss)

pub erased_compare : (p : Place) (c : Comparison) (m : Place) (a b : Expr) → erased_expr (exprs.Compare p c m a b) ≡ exprs.Compare nowhere c nowhere (erased_expr a) (erased_expr b)
unfolding roll-Expr denote.Hole.Carrier.roll
erased_compare p c m a b = fold-roll-Expr Expr erase_form (Compare p c m a b)

pub erased_unary : (p : Place) (o : UnaryOperator) (e : Expr) → erased_expr (exprs.Unary p o e) ≡ exprs.Unary nowhere o (erased_expr e)
unfolding roll-Expr denote.Hole.Carrier.roll
erased_unary p o e = fold-roll-Expr Expr erase_form (Unary p o e)

pub erased_selected : (p : Place) (q : Primary Expr) (ss : List (Selection Expr)) → erased_expr (exprs.Selected p q ss) ≡ exprs.Selected nowhere (erased_primary q) (map erased_selection ss)
unfolding roll-Expr denote.Hole.Carrier.roll
erased_selected p q ss = fold-roll-Expr Expr erase_form (Selected p q ss) ∙ ap erase_form (map_selected erased_expr p q ss) ∙ ap (λ x. exprs.Selected nowhere (erased_primary q) x) (map_twice (each_selection erased_expr) selection_nowhere ss)
