-- What expressions mention in each form, by what their parts mention.
use Rattle.std.proofs.Common.{◌≡◌, true, List, [], ◌∷◌, ◌++◌, map, refl, sym, ap, ◌∙◌}
use Rattle.std.specs.List.{flat_map}
use Rattle.std.proofs.lemmas.List.{map-append}
use Rattle.uc_lexer.specs.declared.place.Place.{Place}
use Rattle.uc_syntax.specs.declared.expression.Branch.{Branch}
use Rattle.uc_syntax.specs.declared.expression.Comparison.{Comparison}
use Rattle.uc_syntax.specs.declared.expression.Expr.{Expr}
use Rattle.uc_syntax.specs.declared.expression.Expr.TheOpen.{Expr-F}
use Rattle.uc_syntax.specs.declared.expression.Expr.TheOpen.Expr-F.{If as IfForm, Iff as IffForm, Implies as ImpliesForm, Or as OrForm, And as AndForm, Compare as CompareForm, BitOr as BitOrForm, BitXor as BitXorForm, BitAnd as BitAndForm, Concat as ConcatForm, Sum as SumForm, Product as ProductForm, Unary as UnaryForm, Selected as SelectedForm}
use Rattle.uc_syntax.specs.declared.expression.Expr.TheViews.{roll-Expr, If, Iff, Implies, Or, And, Compare, BitOr, BitXor, BitAnd, Concat, Sum, Product, Unary, Selected}
use Rattle.uc_syntax.specs.declared.expression.Expr.TheFolds.{map-Expr, fold-roll-Expr}
use Rattle.uc_syntax.specs.declared.expression.Primary.{Primary}
use Rattle.uc_syntax.specs.declared.expression.Primary.TheVariants.{Truth, Number, BitsLiteral, Name, Apply, OnBits, Old, Grouped}
use Rattle.uc_syntax.specs.declared.expression.Selection.{Selection}
use Rattle.uc_syntax.specs.declared.expression.Selection.TheVariants.{Field, Copy, Element, Update, Extract}
use Rattle.uc_syntax.specs.declared.expression.SumSign.{SumSign}
use Rattle.uc_syntax.specs.declared.expression.UnaryOperator.{UnaryOperator}
use Rattle.uc_syntax.proofs.Labels.{flat_map_map}
use Rattle.uc_order_rules.specs.Mentions.{Mention, Reads, Applies, all_of, dotted, mentions, mentions_form, primary_mentions, selection_mentions}
use Rattle.uc_uses.specs.declared.mentioned_names.Mentioned.{Mentioned}
use Rattle.uc_uses.specs.Meant.{in_branch, in_primary, in_selection, meant, mention_meant}

pub meant_push : (ms : List Mentioned) (m : Mentioned) → meant (ms ++ m ∷ []) ≡ meant ms ++ mention_meant m ∷ []
unfolding meant
meant_push ms m = map-append mention_meant ms (m ∷ [])

list_same : (es : List Expr) → all_of (map mentions es) ≡ flat_map mentions es
list_same es = flat_map_map (λ ms. ms) mentions es

through_branch : Branch Expr → Branch (List Mention)
through_branch b = record { place = b.place; condition = mentions b.condition; value = mentions b.value }

branches_same : (bs : List (Branch Expr)) → flat_map (λ b. b.condition ++ b.value) (map through_branch bs) ≡ flat_map in_branch bs
unfolding through_branch
branches_same [] = refl
branches_same (b ∷ more) = ap (λ ms. in_branch b ++ ms) (branches_same more)

pub form_if : (place : Place) (bs : List (Branch Expr)) (y : Expr) → mentions (If place bs y) ≡ flat_map in_branch bs ++ mentions y
unfolding mentions roll-Expr denote.Hole.Carrier.roll through_branch
form_if place bs y = fold-roll-Expr (List Mention) mentions_form (IfForm place bs y) ∙ ap (λ ms. ms ++ mentions y) (branches_same bs)

pub form_iff : (place : Place) (operands : List Expr) (marks : List Place) → mentions (Iff place operands marks) ≡ flat_map mentions operands
unfolding mentions roll-Expr denote.Hole.Carrier.roll
form_iff place operands marks = fold-roll-Expr (List Mention) mentions_form (IffForm place operands marks) ∙ list_same operands

pub form_implies : (place : Place) (operands : List Expr) (marks : List Place) → mentions (Implies place operands marks) ≡ flat_map mentions operands
unfolding mentions roll-Expr denote.Hole.Carrier.roll
form_implies place operands marks = fold-roll-Expr (List Mention) mentions_form (ImpliesForm place operands marks) ∙ list_same operands

pub form_or : (place : Place) (operands : List Expr) (marks : List Place) → mentions (Or place operands marks) ≡ flat_map mentions operands
unfolding mentions roll-Expr denote.Hole.Carrier.roll
form_or place operands marks = fold-roll-Expr (List Mention) mentions_form (OrForm place operands marks) ∙ list_same operands

pub form_and : (place : Place) (operands : List Expr) (marks : List Place) → mentions (And place operands marks) ≡ flat_map mentions operands
unfolding mentions roll-Expr denote.Hole.Carrier.roll
form_and place operands marks = fold-roll-Expr (List Mention) mentions_form (AndForm place operands marks) ∙ list_same operands

pub form_bit_or : (place : Place) (operands : List Expr) (marks : List Place) → mentions (BitOr place operands marks) ≡ flat_map mentions operands
unfolding mentions roll-Expr denote.Hole.Carrier.roll
form_bit_or place operands marks = fold-roll-Expr (List Mention) mentions_form (BitOrForm place operands marks) ∙ list_same operands

pub form_bit_xor : (place : Place) (operands : List Expr) (marks : List Place) → mentions (BitXor place operands marks) ≡ flat_map mentions operands
unfolding mentions roll-Expr denote.Hole.Carrier.roll
form_bit_xor place operands marks = fold-roll-Expr (List Mention) mentions_form (BitXorForm place operands marks) ∙ list_same operands

pub form_bit_and : (place : Place) (operands : List Expr) (marks : List Place) → mentions (BitAnd place operands marks) ≡ flat_map mentions operands
unfolding mentions roll-Expr denote.Hole.Carrier.roll
form_bit_and place operands marks = fold-roll-Expr (List Mention) mentions_form (BitAndForm place operands marks) ∙ list_same operands

pub form_concat : (place : Place) (operands : List Expr) (marks : List Place) → mentions (Concat place operands marks) ≡ flat_map mentions operands
unfolding mentions roll-Expr denote.Hole.Carrier.roll
form_concat place operands marks = fold-roll-Expr (List Mention) mentions_form (ConcatForm place operands marks) ∙ list_same operands

pub form_product : (place : Place) (operands : List Expr) (marks : List Place) → mentions (Product place operands marks) ≡ flat_map mentions operands
unfolding mentions roll-Expr denote.Hole.Carrier.roll
form_product place operands marks = fold-roll-Expr (List Mention) mentions_form (ProductForm place operands marks) ∙ list_same operands

pub form_sum : (place : Place) (operands : List Expr) (signs : List SumSign) → mentions (Sum place operands signs) ≡ flat_map mentions operands
unfolding mentions roll-Expr denote.Hole.Carrier.roll
form_sum place operands signs = fold-roll-Expr (List Mention) mentions_form (SumForm place operands signs) ∙ list_same operands

pub form_compare : (place : Place) (how : Comparison) (mark : Place) (x y : Expr) → mentions (Compare place how mark x y) ≡ mentions x ++ mentions y
unfolding mentions roll-Expr denote.Hole.Carrier.roll
form_compare place how mark x y = fold-roll-Expr (List Mention) mentions_form (CompareForm place how mark x y)

pub form_unary : (place : Place) (operator : UnaryOperator) (e : Expr) → mentions (Unary place operator e) ≡ mentions e
unfolding mentions roll-Expr denote.Hole.Carrier.roll
form_unary place operator e = fold-roll-Expr (List Mention) mentions_form (UnaryForm place operator e)

abbrev selections_of : {X : Type 0} → Expr-F X → List (Selection X)
selections_of (SelectedForm place primary selections) = selections
selections_of other = []

abbrev primary_of : {X : Type 0} → Expr-F X → Primary X
primary_of (SelectedForm place primary selections) = primary
primary_of other = Truth true

-- the layer of an expression, with what its parts mention in place of them
abbrev layer : Expr-F Expr → Expr-F (List Mention)
layer y = map-Expr Expr (List Mention) mentions y

dots_same : (place : Place) (primary : Primary Expr) (ss : List (Selection Expr)) → dotted (selections_of (layer (SelectedForm place primary ss))) ≡ dotted ss
unfolding dotted
dots_same place primary [] = refl
dots_same place primary (Field q i ∷ ss) = ap (λ ys. i.name ∷ ys) (dots_same place primary ss)
dots_same place primary (Copy q k ∷ ss) = refl
dots_same place primary (Element q e ∷ ss) = refl
dots_same place primary (Update q e v ∷ ss) = refl
dots_same place primary (Extract q a b ∷ ss) = refl

primary_same : (place : Place) (primary : Primary Expr) (ss : List (Selection Expr)) →
    primary_mentions (primary_of (layer (SelectedForm place primary ss))) (selections_of (layer (SelectedForm place primary ss))) ≡ in_primary primary ss
primary_same place (Truth b) ss = refl
primary_same place (Number n) ss = refl
primary_same place (BitsLiteral n w) ss = refl
primary_same place (Name x primed) ss = ap (λ ys. Reads x primed ys ∷ []) (dots_same place (Name x primed) ss)
primary_same place (Apply x es) ss = ap (λ ms. Applies x ∷ ms) (list_same es)
primary_same place (OnBits function es) ss = list_same es
primary_same place (Old i) ss = refl
primary_same place (Grouped e) ss = refl

selections_same : (place : Place) (primary : Primary Expr) (ss : List (Selection Expr)) →
    flat_map selection_mentions (selections_of (layer (SelectedForm place primary ss))) ≡ flat_map in_selection ss
selections_same place primary [] = refl
selections_same place primary (Field q i ∷ ss) = selections_same place primary ss
selections_same place primary (Copy q k ∷ ss) = selections_same place primary ss
selections_same place primary (Element q e ∷ ss) = ap (λ ms. mentions e ++ ms) (selections_same place primary ss)
selections_same place primary (Update q e v ∷ ss) = ap (λ ms. (mentions e ++ mentions v) ++ ms) (selections_same place primary ss)
selections_same place primary (Extract q a b ∷ ss) = selections_same place primary ss

pub form_selected : (place : Place) (primary : Primary Expr) (ss : List (Selection Expr)) → mentions (Selected place primary ss) ≡ in_primary primary ss ++ flat_map in_selection ss
unfolding mentions roll-Expr denote.Hole.Carrier.roll
form_selected place primary ss =
    fold-roll-Expr (List Mention) mentions_form (SelectedForm place primary ss) ∙ (λ k. primary_same place primary ss k ++ selections_same place primary ss k)

-- a primary, by its form, with its selections as they are shown
pub form_primary : (e : Expr) (place : Place) (p q : Primary Expr) (ss shown : List (Selection Expr)) → e ≡ Selected place p ss → p ≡ q → shown ≡ ss → mentions e ≡ in_primary q shown ++ flat_map in_selection shown
form_primary e place p q ss shown is same list = ap mentions is ∙ form_selected place p ss ∙ (λ k. in_primary (same k) (sym list k) ++ flat_map in_selection (sym list k))
