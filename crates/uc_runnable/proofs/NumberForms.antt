-- The first number in each form of an expression, by those in its parts.
use Rattle.std.proofs.Common.{◌≡◌, true, List, [], ◌∷◌, map, Option, refl, sym, ap, ◌∙◌}
use Rattle.std.specs.Option.{option_or}
use Rattle.uc_lexer.specs.declared.place.Place.{Place}
use Rattle.uc_syntax.specs.declared.expression.Branch.{Branch}
use Rattle.uc_syntax.specs.declared.expression.Comparison.{Comparison}
use Rattle.uc_syntax.specs.declared.expression.Expr.{Expr}
use Rattle.uc_syntax.specs.declared.expression.Expr.TheOpen.{Expr-F}
use Rattle.uc_syntax.specs.declared.expression.Expr.TheOpen.Expr-F.{If as IfForm, Iff as IffForm, Implies as ImpliesForm, Or as OrForm, And as AndForm, Compare as CompareForm, BitOr as BitOrForm, BitXor as BitXorForm, BitAnd as BitAndForm, Concat as ConcatForm, Sum as SumForm, Product as ProductForm, Unary as UnaryForm, Selected as SelectedForm}
use Rattle.uc_syntax.specs.declared.expression.Expr.TheViews.{roll-Expr, If, Iff, Implies, Or, And, Compare, BitOr, BitXor, BitAnd, Concat, Sum, Product, Unary, Selected}
use Rattle.uc_syntax.specs.declared.expression.Expr.TheFolds.{map-Expr, fold-roll-Expr}
use Rattle.uc_syntax.specs.declared.expression.Primary.{Primary}
use Rattle.uc_syntax.specs.declared.expression.Primary.TheVariants.{Truth, Number, BitsLiteral, Name, Apply, OnBits, Old, Grouped}
use Rattle.uc_syntax.specs.declared.expression.Selection.{Selection}
use Rattle.uc_syntax.specs.declared.expression.Selection.TheVariants.{Field, Copy, Element, Update, Extract}
use Rattle.uc_syntax.specs.declared.expression.SumSign.{SumSign}
use Rattle.uc_syntax.specs.declared.expression.UnaryOperator.{UnaryOperator}
use Rattle.uc_meaning.specs.Lookup.{first_some}
use Rattle.uc_runnable.specs.Outside.{expressions_among, first_of, number_form, number_in, number_in_primary, number_in_selection}
use Rattle.uc_runnable.specs.Parts.{number_in_branch, primary_in, selection_in}
use Rattle.uc_runnable.proofs.Firsts.{first_map, among_map}

through_branch : Branch Expr → Branch (Option Place)
through_branch b = record { place = b.place; condition = number_in b.condition; value = number_in b.value }

branches_same : (bs : List (Branch Expr)) → first_some (λ b. option_or b.condition b.value) (map through_branch bs) ≡ first_some number_in_branch bs
unfolding through_branch first_some
branches_same [] = refl
branches_same (b ∷ more) = ap (option_or (number_in_branch b)) (branches_same more)

pub form_if : (place : Place) (bs : List (Branch Expr)) (y : Expr) → number_in (If place bs y) ≡ option_or (first_some number_in_branch bs) (number_in y)
unfolding number_in roll-Expr denote.Hole.Carrier.roll through_branch
form_if place bs y = fold-roll-Expr (Option Place) number_form (IfForm place bs y) ∙ ap (λ o. option_or o (number_in y)) (branches_same bs)

pub form_iff : (place : Place) (operands : List Expr) (marks : List Place) → number_in (Iff place operands marks) ≡ first_some number_in operands
unfolding number_in roll-Expr denote.Hole.Carrier.roll
form_iff place operands marks = fold-roll-Expr (Option Place) number_form (IffForm place operands marks) ∙ first_map number_in operands

pub form_implies : (place : Place) (operands : List Expr) (marks : List Place) → number_in (Implies place operands marks) ≡ first_some number_in operands
unfolding number_in roll-Expr denote.Hole.Carrier.roll
form_implies place operands marks = fold-roll-Expr (Option Place) number_form (ImpliesForm place operands marks) ∙ first_map number_in operands

pub form_or : (place : Place) (operands : List Expr) (marks : List Place) → number_in (Or place operands marks) ≡ first_some number_in operands
unfolding number_in roll-Expr denote.Hole.Carrier.roll
form_or place operands marks = fold-roll-Expr (Option Place) number_form (OrForm place operands marks) ∙ first_map number_in operands

pub form_and : (place : Place) (operands : List Expr) (marks : List Place) → number_in (And place operands marks) ≡ first_some number_in operands
unfolding number_in roll-Expr denote.Hole.Carrier.roll
form_and place operands marks = fold-roll-Expr (Option Place) number_form (AndForm place operands marks) ∙ first_map number_in operands

pub form_bit_or : (place : Place) (operands : List Expr) (marks : List Place) → number_in (BitOr place operands marks) ≡ first_some number_in operands
unfolding number_in roll-Expr denote.Hole.Carrier.roll
form_bit_or place operands marks = fold-roll-Expr (Option Place) number_form (BitOrForm place operands marks) ∙ first_map number_in operands

pub form_bit_xor : (place : Place) (operands : List Expr) (marks : List Place) → number_in (BitXor place operands marks) ≡ first_some number_in operands
unfolding number_in roll-Expr denote.Hole.Carrier.roll
form_bit_xor place operands marks = fold-roll-Expr (Option Place) number_form (BitXorForm place operands marks) ∙ first_map number_in operands

pub form_bit_and : (place : Place) (operands : List Expr) (marks : List Place) → number_in (BitAnd place operands marks) ≡ first_some number_in operands
unfolding number_in roll-Expr denote.Hole.Carrier.roll
form_bit_and place operands marks = fold-roll-Expr (Option Place) number_form (BitAndForm place operands marks) ∙ first_map number_in operands

pub form_concat : (place : Place) (operands : List Expr) (marks : List Place) → number_in (Concat place operands marks) ≡ first_some number_in operands
unfolding number_in roll-Expr denote.Hole.Carrier.roll
form_concat place operands marks = fold-roll-Expr (Option Place) number_form (ConcatForm place operands marks) ∙ first_map number_in operands

pub form_product : (place : Place) (operands : List Expr) (marks : List Place) → number_in (Product place operands marks) ≡ first_some number_in operands
unfolding number_in roll-Expr denote.Hole.Carrier.roll
form_product place operands marks = fold-roll-Expr (Option Place) number_form (ProductForm place operands marks) ∙ first_map number_in operands

pub form_sum : (place : Place) (operands : List Expr) (signs : List SumSign) → number_in (Sum place operands signs) ≡ first_some number_in operands
unfolding number_in roll-Expr denote.Hole.Carrier.roll
form_sum place operands signs = fold-roll-Expr (Option Place) number_form (SumForm place operands signs) ∙ first_map number_in operands

pub form_compare : (place : Place) (how : Comparison) (mark : Place) (x y : Expr) → number_in (Compare place how mark x y) ≡ option_or (number_in x) (number_in y)
unfolding number_in roll-Expr denote.Hole.Carrier.roll
form_compare place how mark x y = fold-roll-Expr (Option Place) number_form (CompareForm place how mark x y)

pub form_unary : (place : Place) (operator : UnaryOperator) (e : Expr) → number_in (Unary place operator e) ≡ number_in e
unfolding number_in roll-Expr denote.Hole.Carrier.roll
form_unary place operator e = fold-roll-Expr (Option Place) number_form (UnaryForm place operator e)

abbrev selections_of : {X : Type 0} → Expr-F X → List (Selection X)
selections_of (SelectedForm place primary selections) = selections
selections_of other = []

abbrev primary_of : {X : Type 0} → Expr-F X → Primary X
primary_of (SelectedForm place primary selections) = primary
primary_of other = Truth true

-- the layer of an expression, with the first numbers of its parts in place of them
abbrev layer : Expr-F Expr → Expr-F (Option Place)
layer y = map-Expr Expr (Option Place) number_in y

primary_same : (place : Place) (primary : Primary Expr) (ss : List (Selection Expr)) → number_in_primary place (primary_of (layer (SelectedForm place primary ss))) ≡ primary_in place primary
primary_same place (Truth b) ss = refl
primary_same place (Number n) ss = refl
primary_same place (BitsLiteral n w) ss = refl
primary_same place (Name x primed) ss = refl
primary_same place (Apply x es) ss = first_map number_in es
primary_same place (OnBits function es) ss = ap first_of (among_map function number_in es) ∙ first_map number_in (expressions_among function es)
primary_same place (Old i) ss = refl
primary_same place (Grouped e) ss = refl

selections_same : (place : Place) (primary : Primary Expr) (ss : List (Selection Expr)) →
    first_some number_in_selection (selections_of (layer (SelectedForm place primary ss))) ≡ first_some selection_in ss
unfolding first_some
selections_same place primary [] = refl
selections_same place primary (Field q i ∷ ss) = selections_same place primary ss
selections_same place primary (Copy q k ∷ ss) = selections_same place primary ss
selections_same place primary (Element q e ∷ ss) = ap (option_or (number_in e)) (selections_same place primary ss)
selections_same place primary (Update q e v ∷ ss) = ap (option_or (option_or (number_in e) (number_in v))) (selections_same place primary ss)
selections_same place primary (Extract q a b ∷ ss) = selections_same place primary ss

pub form_selected : (place : Place) (primary : Primary Expr) (ss : List (Selection Expr)) → number_in (Selected place primary ss) ≡ option_or (primary_in place primary) (first_some selection_in ss)
unfolding number_in roll-Expr denote.Hole.Carrier.roll
form_selected place primary ss = fold-roll-Expr (Option Place) number_form (SelectedForm place primary ss) ∙ (λ k. option_or (primary_same place primary ss k) (selections_same place primary ss k))

-- The same for an expression whose form was found, with its parts as they are shown.

pub chain_is : (e form : Expr) (es shown : List Expr) (r : Option Place) → e ≡ form → number_in form ≡ first_some number_in es → shown ≡ es → r ≡ first_some number_in shown → r ≡ number_in e
chain_is e form es shown r is has same found = found ∙ ap (first_some number_in) same ∙ sym (ap number_in is ∙ has)

pub unary_is : (e form x shown : Expr) (r : Option Place) → e ≡ form → number_in form ≡ number_in x → shown ≡ x → r ≡ number_in shown → r ≡ number_in e
unary_is e form x shown r is has same found = found ∙ ap number_in same ∙ sym (ap number_in is ∙ has)

pub two_are : (e form : Expr) (a b r s t : Option Place) → e ≡ form → number_in form ≡ option_or a b → r ≡ option_or s t → s ≡ a → t ≡ b → r ≡ number_in e
two_are e form a b r s t is has found first second = found ∙ (λ j. option_or (first j) (second j)) ∙ sym (ap number_in is ∙ has)
