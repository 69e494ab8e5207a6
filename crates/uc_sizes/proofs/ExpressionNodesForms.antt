-- The nodes of each form of an expression, by those of its parts.
use Rattle.std.proofs.Common.{◌≡◌, ℕ, suc, ◌+◌, Bool, true, false, List, [], ◌∷◌, map, refl, sym, ap, ◌∙◌, zero-add, arith}
use Rattle.std.specs.Prelude.{cond}
use Rattle.uc_lexer.specs.declared.place.Place.{Place}
use Rattle.uc_syntax.specs.declared.place.Identifier.{Identifier}
use Rattle.uc_syntax.specs.declared.expression.BitFunction.{BitFunction}
use Rattle.uc_syntax.specs.declared.expression.Branch.{Branch}
use Rattle.uc_syntax.specs.declared.expression.Comparison.{Comparison}
use Rattle.uc_syntax.specs.declared.expression.Expr.{Expr}
use Rattle.uc_syntax.specs.declared.expression.Expr.TheOpen.{Expr-F}
use Rattle.uc_syntax.specs.declared.expression.Expr.TheOpen.Expr-F.{If as IfForm, Iff as IffForm, Implies as ImpliesForm, Or as OrForm, And as AndForm, Compare as CompareForm, BitOr as BitOrForm, BitXor as BitXorForm, BitAnd as BitAndForm, Concat as ConcatForm, Sum as SumForm, Product as ProductForm, Unary as UnaryForm, Selected as SelectedForm}
use Rattle.uc_syntax.specs.declared.expression.Expr.TheViews.{roll-Expr, If, Iff, Implies, Or, And, Compare, BitOr, BitXor, BitAnd, Concat, Sum, Product, Unary, Selected}
use Rattle.uc_syntax.specs.declared.expression.Expr.TheFolds.{map-Expr, fold-roll-Expr}
use Rattle.uc_syntax.specs.declared.expression.Primary.{Primary}
use Rattle.uc_syntax.specs.declared.expression.Primary.TheVariants.{Truth, Number, BitsLiteral, Name, Apply, OnBits, Old, Grouped}
use Rattle.uc_syntax.specs.declared.expression.Selection.{Selection}
use Rattle.uc_syntax.specs.declared.expression.Selection.TheVariants.{Field, Copy, Element, Update, Extract}
use Rattle.uc_syntax.specs.declared.expression.SumSign.{SumSign}
use Rattle.uc_syntax.specs.declared.expression.UnaryOperator.{UnaryOperator}
use Rattle.std.specs.Option.{option_and_then}
use Rattle.uc_meaning.specs.Lookup.{define_of, module_at}
use Rattle.uc_rules.specs.Expressions.{is_extension}
use Rattle.uc_order_rules.specs.Roots.{led, name_at}
use Rattle.uc_order_rules.specs.Mentions.{dotted}
use Rattle.uc_order_rules.specs.Sizes.{body_nodes, name_nodes, nodes_form, on_bits_nodes, primary_nodes, selection_nodes, total}
use Rattle.uc_sizes.specs.Counting.{Setting, behind_first, branch_nodes, nodes_in, nodes_of_all, primary_in, selection_in}

module _ (c : Setting) where
  form : Expr-F ℕ → ℕ
  form = nodes_form c.system c.elsewhere c.path

  through_branch : Branch Expr → Branch ℕ
  through_branch b = record { place = b.place; condition = nodes_in c b.condition; value = nodes_in c b.value }

  branches_same : (bs : List (Branch Expr)) → total (map (λ b. b.condition + b.value) (map through_branch bs)) ≡ total (map (branch_nodes c) bs)
  unfolding through_branch
  branches_same [] = refl
  branches_same (b ∷ more) = ap (λ n. branch_nodes c b + n) (branches_same more)

  pub form_if : (place : Place) (bs : List (Branch Expr)) (y : Expr) → nodes_in c (If place bs y) ≡ suc (total (map (branch_nodes c) bs) + nodes_in c y)
  unfolding nodes_in form roll-Expr denote.Hole.Carrier.roll through_branch
  form_if place bs y = fold-roll-Expr ℕ form (IfForm place bs y) ∙ ap (λ n. suc (n + nodes_in c y)) (branches_same bs)

  pub form_iff : (place : Place) (operands : List Expr) (marks : List Place) → nodes_in c (Iff place operands marks) ≡ suc (nodes_of_all operands c)
  unfolding nodes_in form roll-Expr denote.Hole.Carrier.roll
  form_iff place operands marks = fold-roll-Expr ℕ form (IffForm place operands marks)

  pub form_implies : (place : Place) (operands : List Expr) (marks : List Place) → nodes_in c (Implies place operands marks) ≡ suc (nodes_of_all operands c)
  unfolding nodes_in form roll-Expr denote.Hole.Carrier.roll
  form_implies place operands marks = fold-roll-Expr ℕ form (ImpliesForm place operands marks)

  pub form_or : (place : Place) (operands : List Expr) (marks : List Place) → nodes_in c (Or place operands marks) ≡ suc (nodes_of_all operands c)
  unfolding nodes_in form roll-Expr denote.Hole.Carrier.roll
  form_or place operands marks = fold-roll-Expr ℕ form (OrForm place operands marks)

  pub form_and : (place : Place) (operands : List Expr) (marks : List Place) → nodes_in c (And place operands marks) ≡ suc (nodes_of_all operands c)
  unfolding nodes_in form roll-Expr denote.Hole.Carrier.roll
  form_and place operands marks = fold-roll-Expr ℕ form (AndForm place operands marks)

  pub form_bit_or : (place : Place) (operands : List Expr) (marks : List Place) → nodes_in c (BitOr place operands marks) ≡ suc (nodes_of_all operands c)
  unfolding nodes_in form roll-Expr denote.Hole.Carrier.roll
  form_bit_or place operands marks = fold-roll-Expr ℕ form (BitOrForm place operands marks)

  pub form_bit_xor : (place : Place) (operands : List Expr) (marks : List Place) → nodes_in c (BitXor place operands marks) ≡ suc (nodes_of_all operands c)
  unfolding nodes_in form roll-Expr denote.Hole.Carrier.roll
  form_bit_xor place operands marks = fold-roll-Expr ℕ form (BitXorForm place operands marks)

  pub form_bit_and : (place : Place) (operands : List Expr) (marks : List Place) → nodes_in c (BitAnd place operands marks) ≡ suc (nodes_of_all operands c)
  unfolding nodes_in form roll-Expr denote.Hole.Carrier.roll
  form_bit_and place operands marks = fold-roll-Expr ℕ form (BitAndForm place operands marks)

  pub form_concat : (place : Place) (operands : List Expr) (marks : List Place) → nodes_in c (Concat place operands marks) ≡ suc (nodes_of_all operands c)
  unfolding nodes_in form roll-Expr denote.Hole.Carrier.roll
  form_concat place operands marks = fold-roll-Expr ℕ form (ConcatForm place operands marks)

  pub form_product : (place : Place) (operands : List Expr) (marks : List Place) → nodes_in c (Product place operands marks) ≡ suc (nodes_of_all operands c)
  unfolding nodes_in form roll-Expr denote.Hole.Carrier.roll
  form_product place operands marks = fold-roll-Expr ℕ form (ProductForm place operands marks)

  pub form_sum : (place : Place) (operands : List Expr) (signs : List SumSign) → nodes_in c (Sum place operands signs) ≡ suc (nodes_of_all operands c)
  unfolding nodes_in form roll-Expr denote.Hole.Carrier.roll
  form_sum place operands signs = fold-roll-Expr ℕ form (SumForm place operands signs)

  pub form_compare : (place : Place) (how : Comparison) (mark : Place) (x y : Expr) → nodes_in c (Compare place how mark x y) ≡ suc (nodes_in c x + nodes_in c y)
  unfolding nodes_in form roll-Expr denote.Hole.Carrier.roll
  form_compare place how mark x y = fold-roll-Expr ℕ form (CompareForm place how mark x y)

  pub form_unary : (place : Place) (operator : UnaryOperator) (e : Expr) → nodes_in c (Unary place operator e) ≡ suc (nodes_in c e)
  unfolding nodes_in form roll-Expr denote.Hole.Carrier.roll
  form_unary place operator e = fold-roll-Expr ℕ form (UnaryForm place operator e)

  abbrev selections_of : {X : Type 0} → Expr-F X → List (Selection X)
  selections_of (SelectedForm place primary selections) = selections
  selections_of other = []

  abbrev primary_of : {X : Type 0} → Expr-F X → Primary X
  primary_of (SelectedForm place primary selections) = primary
  primary_of other = Truth true

  -- the layer of an expression, with the nodes of its parts in place of them
  abbrev layer : Expr-F Expr → Expr-F ℕ
  layer y = map-Expr Expr ℕ (nodes_in c) y

  dots_same : (place : Place) (primary : Primary Expr) (ss : List (Selection Expr)) → dotted (selections_of (layer (SelectedForm place primary ss))) ≡ dotted ss
  unfolding dotted
  dots_same place primary [] = refl
  dots_same place primary (Field q i ∷ ss) = ap (λ ys. i.name ∷ ys) (dots_same place primary ss)
  dots_same place primary (Copy q k ∷ ss) = refl
  dots_same place primary (Element q e ∷ ss) = refl
  dots_same place primary (Update q e v ∷ ss) = refl
  dots_same place primary (Extract q a b ∷ ss) = refl

  primary_same : (place : Place) (primary : Primary Expr) (ss : List (Selection Expr)) →
      primary_nodes c.system c.elsewhere c.path (primary_of (layer (SelectedForm place primary ss))) (selections_of (layer (SelectedForm place primary ss))) ≡ primary_in c primary ss
  primary_same place (Truth b) ss = refl
  primary_same place (Number n) ss = refl
  primary_same place (BitsLiteral n w) ss = refl
  primary_same place (Name x primed) ss = ap (λ ys. name_nodes c.system c.elsewhere (led c.system c.path x ys)) (dots_same place (Name x primed) ss)
  primary_same place (Apply x es) ss = refl
  primary_same place (OnBits function es) ss = refl
  primary_same place (Old i) ss = refl
  primary_same place (Grouped e) ss = refl

  selections_same : (place : Place) (primary : Primary Expr) (ss : List (Selection Expr)) →
      total (map selection_nodes (selections_of (layer (SelectedForm place primary ss)))) ≡ total (map (selection_in c) ss)
  selections_same place primary [] = refl
  selections_same place primary (Field q i ∷ ss) = zero-add _ ∙ (selections_same place primary ss ∙ sym (zero-add _))
  selections_same place primary (Copy q k ∷ ss) = zero-add _ ∙ (selections_same place primary ss ∙ sym (zero-add _))
  selections_same place primary (Element q e ∷ ss) = ap (λ n. nodes_in c e + n) (selections_same place primary ss)
  selections_same place primary (Update q e v ∷ ss) = ap (λ n. (nodes_in c e + nodes_in c v) + n) (selections_same place primary ss)
  selections_same place primary (Extract q a b ∷ ss) = zero-add _ ∙ (selections_same place primary ss ∙ sym (zero-add _))

  pub form_selected : (place : Place) (primary : Primary Expr) (ss : List (Selection Expr)) → nodes_in c (Selected place primary ss) ≡ suc (primary_in c primary ss + total (map (selection_in c) ss))
  unfolding nodes_in form roll-Expr denote.Hole.Carrier.roll
  form_selected place primary ss =
      fold-roll-Expr ℕ form (SelectedForm place primary ss) ∙ (λ k. suc (primary_same place primary ss k + selections_same place primary ss k))

-- a name at entry is one with nothing behind it
pub led_alone : (c : Setting) (x : ℕ) → led c.system c.path x (dotted {A = Expr} []) ≡ name_at c.path x
unfolding led dotted
led_alone c x = refl

pub on_bits_extension : (function : BitFunction) (ns : List ℕ) → is_extension function ≡ true → on_bits_nodes function ns ≡ behind_first ns
on_bits_extension function [] h = refl
on_bits_extension function (n ∷ ns) h = ap (λ b. cond b (total ns) (n + total ns)) h

pub on_bits_other : (function : BitFunction) (ns : List ℕ) → is_extension function ≡ false → on_bits_nodes function ns ≡ total ns
on_bits_other function [] h = refl
on_bits_other function (n ∷ ns) h = ap (λ b. cond b (total ns) (n + total ns)) h

-- The same for an expression whose form was found, with its parts as they are shown.

pub chain_is : (c : Setting) (e form : Expr) (es shown : List Expr) → e ≡ form → nodes_in c form ≡ suc (nodes_of_all es c) → shown ≡ es → nodes_in c e ≡ 1 + nodes_of_all shown c
chain_is c e form es shown is has same =
    let n : nodes_of_all shown c ≡ nodes_of_all es c = ap (λ xs. nodes_of_all xs c) same in let m : nodes_in c e ≡ nodes_in c form = ap (nodes_in c) is in omega (arith, n, m, has)

pub unary_is : (c : Setting) (e form x shown : Expr) → e ≡ form → nodes_in c form ≡ suc (nodes_in c x) → shown ≡ x → nodes_in c e ≡ 1 + nodes_in c shown
unary_is c e form x shown is has same =
    let n : nodes_in c shown ≡ nodes_in c x = ap (nodes_in c) same in let m : nodes_in c e ≡ nodes_in c form = ap (nodes_in c) is in omega (arith, n, m, has)

pub compare_is : (c : Setting) (e form x y shown shown' : Expr) → e ≡ form → nodes_in c form ≡ suc (nodes_in c x + nodes_in c y) → shown ≡ x → shown' ≡ y → nodes_in c e ≡ 1 + (nodes_in c shown + nodes_in c shown')
compare_is c e form x y shown shown' is has same same' =
    let n : nodes_in c shown ≡ nodes_in c x = ap (nodes_in c) same in let n' : nodes_in c shown' ≡ nodes_in c y = ap (nodes_in c) same' in
    let m : nodes_in c e ≡ nodes_in c form = ap (nodes_in c) is in omega (arith, n, n', m, has)

pub chosen_is : (c : Setting) (e form y shown' : Expr) (bs shown : List (Branch Expr)) → e ≡ form → nodes_in c form ≡ suc (total (map (branch_nodes c) bs) + nodes_in c y) → shown ≡ bs → shown' ≡ y →
    nodes_in c e ≡ 1 + (total (map (branch_nodes c) shown) + nodes_in c shown')
chosen_is c e form y shown' bs shown is has same same' =
    let n : total (map (branch_nodes c) shown) ≡ total (map (branch_nodes c) bs) = ap (λ xs. total (map (branch_nodes c) xs)) same in let n' : nodes_in c shown' ≡ nodes_in c y = ap (nodes_in c) same' in
    let m : nodes_in c e ≡ nodes_in c form = ap (nodes_in c) is in omega (arith, n, n', m, has)

pub selected_is : (c : Setting) (e form : Expr) (p : Primary Expr) (ss shown shown' : List (Selection Expr)) → e ≡ form → nodes_in c form ≡ suc (primary_in c p ss + total (map (selection_in c) ss)) → shown ≡ ss → shown' ≡ ss →
    nodes_in c e ≡ 1 + (primary_in c p shown + total (map (selection_in c) shown'))
selected_is c e form p ss shown shown' is has same same' =
    let n : primary_in c p shown ≡ primary_in c p ss = ap (primary_in c p) same in let n' : total (map (selection_in c) shown') ≡ total (map (selection_in c) ss) = ap (λ xs. total (map (selection_in c) xs)) same' in
    let m : nodes_in c e ≡ nodes_in c form = ap (nodes_in c) is in omega (arith, n, n', m, has)

pub apply_is : (c : Setting) (p : Primary Expr) (x : ℕ) (es shown : List Expr) (ss : List (Selection Expr)) → p ≡ Apply x es → shown ≡ es →
    primary_in c p ss ≡ body_nodes c.elsewhere c.path (option_and_then (λ m. define_of m x) (module_at c.system c.path)) + nodes_of_all shown c
apply_is c p x es shown ss is same =
    let n : nodes_of_all shown c ≡ nodes_of_all es c = ap (λ xs. nodes_of_all xs c) same in
    ap (λ q. primary_in c q ss) is ∙ swap (nodes_of_all es c) _ ∙ ap (λ m. body_nodes c.elsewhere c.path (option_and_then (λ m. define_of m x) (module_at c.system c.path)) + m) (sym n)
  where
    swap : (a b : ℕ) → a + b ≡ b + a
    swap a b = omega arith
