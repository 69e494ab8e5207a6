-- What each form of a tree mentions, in terms of its parts: a test holds of all mentions of a form where it holds of its places and
-- names, and of all mentions of its parts. With `name_below n` and `file_below n` for the test these say when names and files are below n.
use Rattle.std.proofs.Common.{◌≡◌, ℕ, ◌<◌, ◌≤◌, Bool, true, false, ◌&&◌, nat_lt, List, [], ◌∷◌, ◌++◌, map, take, length, Option, None, Some, refl, sym, ap, ◌∙◌, arith, true≢false}
use Rattle.std.specs.List.{flat_map, list_all}
use Rattle.std.proofs.lemmas.List.Folds.{list_all-append, list_all-map}
use Rattle.std.proofs.lemmas.Bool.{ltb-true, lt-ltb}
use Rattle.uc_lexer.specs.declared.place.Place.{Place}
use Rattle.uc_syntax.specs.declared.place.Identifier.{Identifier}
use Rattle.uc_syntax.specs.declared.type_expression.Parameter.{Parameter}
use Rattle.uc_syntax.specs.declared.type_expression.TypeExpr.{TypeExpr}
use Rattle.uc_syntax.specs.declared.type_expression.TypeExpr.TheOpen.TypeExpr-F.{Boolean as BooleanForm, Integer as IntegerForm, Bits as BitsForm, Enumeration as EnumerationForm, Record as RecordForm, Array as ArrayForm, Named as NamedForm, OfModule as OfModuleForm}
use Rattle.uc_syntax.specs.declared.type_expression.TypeExpr.TheViews.{roll-TypeExpr, Record, Array}
use Rattle.uc_syntax.specs.declared.type_expression.TypeExpr.TheVariants.{Boolean, Integer, Bits, Enumeration, Named, OfModule}
use Rattle.uc_syntax.specs.declared.type_expression.TypeExpr.TheFolds.{fold-roll-TypeExpr}
use Rattle.uc_syntax.specs.declared.expression.Comparison.{Comparison}
use Rattle.uc_syntax.specs.declared.expression.UnaryOperator.{UnaryOperator}
use Rattle.uc_syntax.specs.declared.expression.SumSign.{SumSign}
use Rattle.uc_syntax.specs.declared.expression.Primary.{Primary}
use Rattle.uc_syntax.specs.declared.expression.Primary.TheVariants.{Truth, Number, BitsLiteral, Name, Apply, OnBits, Old, Grouped}
use Rattle.uc_syntax.specs.declared.expression.Branch.{Branch}
use Rattle.uc_syntax.specs.declared.expression.Selection.{Selection}
use Rattle.uc_syntax.specs.declared.expression.Selection.TheVariants.{Field, Copy, Element, Update, Extract}
use Rattle.uc_syntax.specs.declared.expression.Expr.{Expr}
use Rattle.uc_syntax.specs.declared.expression.Expr.TheOpen.{Expr-F}
use Rattle.uc_syntax.specs.declared.expression.Expr.TheOpen.Expr-F.{If as IfForm, Iff as IffForm, Implies as ImpliesForm, Or as OrForm, And as AndForm, Compare as CompareForm, BitOr as BitOrForm, BitXor as BitXorForm, BitAnd as BitAndForm, Concat as ConcatForm, Sum as SumForm, Product as ProductForm, Unary as UnaryForm, Selected as SelectedForm}
use Rattle.uc_syntax.specs.declared.expression.Expr.TheViews.{roll-Expr, If, Iff, Implies, Or, And, Compare, BitOr, BitXor, BitAnd, Concat, Sum, Product, Unary, Selected}
use Rattle.uc_syntax.specs.declared.expression.Expr.TheFolds.{map-Expr, fold-roll-Expr}
use Rattle.uc_syntax.specs.declared.statement.Target.{Target}
use Rattle.uc_syntax.specs.declared.statement.RangeBound.{RangeBound}
use Rattle.uc_syntax.specs.declared.statement.Arm.{Arm}
use Rattle.uc_syntax.specs.declared.statement.Stmt.{Stmt}
use Rattle.uc_syntax.specs.declared.statement.Stmt.TheOpen.Stmt-F.{Local as LocalForm, Skip as SkipForm, Block as BlockForm, Assert as AssertForm, Assume as AssumeForm, Havoc as HavocForm, Assign as AssignForm, If as ChoiceForm, Case as CasesForm, For as ForForm, Call as CallForm, Next as NextForm}
use Rattle.uc_syntax.specs.declared.statement.Stmt.TheViews.{roll-Stmt, Block, If as Choice, Case as Cases, For}
use Rattle.uc_syntax.specs.declared.statement.Stmt.TheVariants.{Local, Skip, Assert, Assume, Havoc, Assign, Call, Next}
use Rattle.uc_syntax.specs.declared.statement.Stmt.TheFolds.{fold-roll-Stmt}
use Rattle.uc_syntax.specs.Mentions.{Mention, OfName, OfFile, at_place, at_places, identifier_mentions, identifiers_mention, if_written, parameters_by, parameters_mention, type_form, type_mentions, primary_by, selection_by, chain_by, branches_by, expr_form, expr_mentions, target_mentions, bound_mentions, arms_by, choice_by, stmt_form, stmt_mentions, name_below, file_below, NamesBelow, FilesBelow}
use Rattle.uc_syntax.proofs.Labels.{flat_map_map}

-- Types.

pub mentions_boolean : (place : Place) → type_mentions (Boolean place) ≡ at_place place
unfolding type_mentions roll-TypeExpr denote.Hole.Carrier.roll
mentions_boolean place = fold-roll-TypeExpr (List Mention) type_form (BooleanForm place)

pub mentions_integer : (place : Place) → type_mentions (Integer place) ≡ at_place place
unfolding type_mentions roll-TypeExpr denote.Hole.Carrier.roll
mentions_integer place = fold-roll-TypeExpr (List Mention) type_form (IntegerForm place)

pub mentions_bits : (place : Place) (width : ℕ) → type_mentions (Bits place width) ≡ at_place place
unfolding type_mentions roll-TypeExpr denote.Hole.Carrier.roll
mentions_bits place width = fold-roll-TypeExpr (List Mention) type_form (BitsForm place width)

pub mentions_enumeration : (place : Place) (labels : List Identifier) → type_mentions (Enumeration place labels) ≡ at_place place ++ identifiers_mention labels
unfolding type_mentions roll-TypeExpr denote.Hole.Carrier.roll
mentions_enumeration place labels = fold-roll-TypeExpr (List Mention) type_form (EnumerationForm place labels)

pub mentions_record : (place : Place) (fields : List (Parameter TypeExpr)) → type_mentions (Record place fields) ≡ at_place place ++ parameters_mention fields
unfolding type_mentions roll-TypeExpr denote.Hole.Carrier.roll
mentions_record place fields = fold-roll-TypeExpr (List Mention) type_form (RecordForm place fields) ∙ ap (λ ms. at_place place ++ ms) (flat_map_map (λ p. identifier_mentions p.identifier ++ p.ty) _ fields)

pub mentions_array : (place : Place) (index : TypeExpr) (element : TypeExpr) → type_mentions (Array place index element) ≡ at_place place ++ (type_mentions index ++ type_mentions element)
unfolding type_mentions roll-TypeExpr denote.Hole.Carrier.roll
mentions_array place index element = fold-roll-TypeExpr (List Mention) type_form (ArrayForm place index element)

pub mentions_named : (place : Place) (x : ℕ) → type_mentions (Named place x) ≡ at_place place ++ OfName x ∷ []
unfolding type_mentions roll-TypeExpr denote.Hole.Carrier.roll
mentions_named place x = fold-roll-TypeExpr (List Mention) type_form (NamedForm place x)

pub mentions_of_module : (place : Place) (m : ℕ) (i : Identifier) → type_mentions (OfModule place m i) ≡ at_place place ++ OfName m ∷ identifier_mentions i
unfolding type_mentions roll-TypeExpr denote.Hole.Carrier.roll
mentions_of_module place m i = fold-roll-TypeExpr (List Mention) type_form (OfModuleForm place m i)

-- Expressions.

chain_same : (place : Place) (operands : List Expr) (marks : List Place) →
    chain_by (λ ms. ms) place (map expr_mentions operands) marks ≡ chain_by expr_mentions place operands marks
chain_same place operands marks = ap (λ ms. at_place place ++ (ms ++ at_places marks)) (flat_map_map (λ ms. ms) expr_mentions operands)

through_branch : Branch Expr → Branch (List Mention)
through_branch b = record { place = b.place; condition = expr_mentions b.condition; value = expr_mentions b.value }

branches_same : (bs : List (Branch Expr)) → branches_by (λ ms. ms) (map through_branch bs) ≡ branches_by expr_mentions bs
unfolding through_branch
branches_same [] = refl
branches_same (b ∷ more) = ap (λ ms. (at_place b.place ++ (expr_mentions b.condition ++ expr_mentions b.value)) ++ ms) (branches_same more)

pub mentions_if : (place : Place) (bs : List (Branch Expr)) (y : Expr) → expr_mentions (If place bs y) ≡ at_place place ++ (branches_by expr_mentions bs ++ expr_mentions y)
unfolding expr_mentions roll-Expr denote.Hole.Carrier.roll through_branch
mentions_if place bs y = fold-roll-Expr (List Mention) expr_form (IfForm place bs y) ∙ ap (λ ms. at_place place ++ (ms ++ expr_mentions y)) (branches_same bs)

pub mentions_iff : (place : Place) (operands : List Expr) (marks : List Place) → expr_mentions (Iff place operands marks) ≡ chain_by expr_mentions place operands marks
unfolding expr_mentions roll-Expr denote.Hole.Carrier.roll
mentions_iff place operands marks = fold-roll-Expr (List Mention) expr_form (IffForm place operands marks) ∙ chain_same place operands marks

pub mentions_implies : (place : Place) (operands : List Expr) (marks : List Place) → expr_mentions (Implies place operands marks) ≡ chain_by expr_mentions place operands marks
unfolding expr_mentions roll-Expr denote.Hole.Carrier.roll
mentions_implies place operands marks = fold-roll-Expr (List Mention) expr_form (ImpliesForm place operands marks) ∙ chain_same place operands marks

pub mentions_or : (place : Place) (operands : List Expr) (marks : List Place) → expr_mentions (Or place operands marks) ≡ chain_by expr_mentions place operands marks
unfolding expr_mentions roll-Expr denote.Hole.Carrier.roll
mentions_or place operands marks = fold-roll-Expr (List Mention) expr_form (OrForm place operands marks) ∙ chain_same place operands marks

pub mentions_and : (place : Place) (operands : List Expr) (marks : List Place) → expr_mentions (And place operands marks) ≡ chain_by expr_mentions place operands marks
unfolding expr_mentions roll-Expr denote.Hole.Carrier.roll
mentions_and place operands marks = fold-roll-Expr (List Mention) expr_form (AndForm place operands marks) ∙ chain_same place operands marks

pub mentions_bit_or : (place : Place) (operands : List Expr) (marks : List Place) → expr_mentions (BitOr place operands marks) ≡ chain_by expr_mentions place operands marks
unfolding expr_mentions roll-Expr denote.Hole.Carrier.roll
mentions_bit_or place operands marks = fold-roll-Expr (List Mention) expr_form (BitOrForm place operands marks) ∙ chain_same place operands marks

pub mentions_bit_xor : (place : Place) (operands : List Expr) (marks : List Place) → expr_mentions (BitXor place operands marks) ≡ chain_by expr_mentions place operands marks
unfolding expr_mentions roll-Expr denote.Hole.Carrier.roll
mentions_bit_xor place operands marks = fold-roll-Expr (List Mention) expr_form (BitXorForm place operands marks) ∙ chain_same place operands marks

pub mentions_bit_and : (place : Place) (operands : List Expr) (marks : List Place) → expr_mentions (BitAnd place operands marks) ≡ chain_by expr_mentions place operands marks
unfolding expr_mentions roll-Expr denote.Hole.Carrier.roll
mentions_bit_and place operands marks = fold-roll-Expr (List Mention) expr_form (BitAndForm place operands marks) ∙ chain_same place operands marks

pub mentions_concat : (place : Place) (operands : List Expr) (marks : List Place) → expr_mentions (Concat place operands marks) ≡ chain_by expr_mentions place operands marks
unfolding expr_mentions roll-Expr denote.Hole.Carrier.roll
mentions_concat place operands marks = fold-roll-Expr (List Mention) expr_form (ConcatForm place operands marks) ∙ chain_same place operands marks

pub mentions_product : (place : Place) (operands : List Expr) (marks : List Place) → expr_mentions (Product place operands marks) ≡ chain_by expr_mentions place operands marks
unfolding expr_mentions roll-Expr denote.Hole.Carrier.roll
mentions_product place operands marks = fold-roll-Expr (List Mention) expr_form (ProductForm place operands marks) ∙ chain_same place operands marks

pub mentions_sum : (place : Place) (operands : List Expr) (signs : List SumSign) → expr_mentions (Sum place operands signs) ≡ chain_by expr_mentions place operands (map (λ s. s.place) signs)
unfolding expr_mentions roll-Expr denote.Hole.Carrier.roll
mentions_sum place operands signs = fold-roll-Expr (List Mention) expr_form (SumForm place operands signs) ∙ chain_same place operands (map (λ s. s.place) signs)

pub mentions_compare : (place : Place) (comparison : Comparison) (mark : Place) (x : Expr) (y : Expr) → expr_mentions (Compare place comparison mark x y) ≡ at_place place ++ (at_place mark ++ (expr_mentions x ++ expr_mentions y))
unfolding expr_mentions roll-Expr denote.Hole.Carrier.roll
mentions_compare place comparison mark x y = fold-roll-Expr (List Mention) expr_form (CompareForm place comparison mark x y)

pub mentions_unary : (place : Place) (operator : UnaryOperator) (e : Expr) → expr_mentions (Unary place operator e) ≡ at_place place ++ expr_mentions e
unfolding expr_mentions roll-Expr denote.Hole.Carrier.roll
mentions_unary place operator e = fold-roll-Expr (List Mention) expr_form (UnaryForm place operator e)

abbrev selections_of : {X : Type 0} → Expr-F X → List (Selection X)
selections_of (SelectedForm place primary selections) = selections
selections_of other = []

abbrev primary_of : {X : Type 0} → Expr-F X → Primary X
primary_of (SelectedForm place primary selections) = primary
primary_of other = Truth true

-- the layer of an expression, with what its parts mention in place of them
abbrev layer : Expr-F Expr → Expr-F (List Mention)
layer y = map-Expr Expr (List Mention) expr_mentions y

list_same : (es : List Expr) → flat_map (λ ms. ms) (map expr_mentions es) ≡ flat_map expr_mentions es
list_same es = flat_map_map (λ ms. ms) expr_mentions es

primary_same : (place : Place) (primary : Primary Expr) (ss : List (Selection Expr)) →
    primary_by (λ ms. ms) (primary_of (layer (SelectedForm place primary ss))) ≡ primary_by expr_mentions primary
primary_same place (Truth b) ss = refl
primary_same place (Number n) ss = refl
primary_same place (BitsLiteral n w) ss = refl
primary_same place (Name x primed) ss = refl
primary_same place (Apply x es) ss = ap (λ ms. OfName x ∷ ms) (list_same es)
primary_same place (OnBits function es) ss = list_same es
primary_same place (Old i) ss = refl
primary_same place (Grouped e) ss = refl

selections_same : (place : Place) (primary : Primary Expr) (ss : List (Selection Expr)) →
    flat_map (selection_by (λ ms. ms)) (selections_of (layer (SelectedForm place primary ss))) ≡ flat_map (selection_by expr_mentions) ss
selections_same place primary [] = refl
selections_same place primary (Field q i ∷ ss) = ap (λ ms. (at_place q ++ identifier_mentions i) ++ ms) (selections_same place primary ss)
selections_same place primary (Copy q k ∷ ss) = ap (λ ms. at_place q ++ ms) (selections_same place primary ss)
selections_same place primary (Element q e ∷ ss) = ap (λ ms. (at_place q ++ expr_mentions e) ++ ms) (selections_same place primary ss)
selections_same place primary (Update q e v ∷ ss) =
    ap (λ ms. (at_place q ++ (expr_mentions e ++ expr_mentions v)) ++ ms) (selections_same place primary ss)
selections_same place primary (Extract q a b ∷ ss) = ap (λ ms. at_place q ++ ms) (selections_same place primary ss)

pub mentions_selected : (place : Place) (primary : Primary Expr) (selections : List (Selection Expr)) → expr_mentions (Selected place primary selections) ≡
    at_place place ++ (primary_by expr_mentions primary ++ flat_map (selection_by expr_mentions) selections)
unfolding expr_mentions roll-Expr denote.Hole.Carrier.roll
mentions_selected place primary selections =
    fold-roll-Expr (List Mention) expr_form (SelectedForm place primary selections)
    ∙ (λ k. at_place place ++ (primary_same place primary selections k ++ selections_same place primary selections k))

-- Statements.

block_same : (block : List Stmt) → flat_map (λ ms. ms) (map stmt_mentions block) ≡ flat_map stmt_mentions block
block_same block = flat_map_map (λ ms. ms) stmt_mentions block

through_arm : Arm Stmt → Arm (List Mention)
through_arm a = record { condition = a.condition; body = map stmt_mentions a.body }

arms_same : (arms : List (Arm Stmt)) → arms_by (λ ms. ms) (map through_arm arms) ≡ arms_by stmt_mentions arms
unfolding through_arm
arms_same [] = refl
arms_same (a ∷ more) = λ k. (expr_mentions a.condition ++ block_same a.body k) ++ arms_same more k

pub mentions_local : (place : Place) (names : List Identifier) (type : TypeExpr) → stmt_mentions (Local place names type) ≡ at_place place ++ (identifiers_mention names ++ type_mentions type)
unfolding stmt_mentions roll-Stmt denote.Hole.Carrier.roll
mentions_local place names type = fold-roll-Stmt (List Mention) stmt_form (LocalForm place names type)

pub mentions_skip : (place : Place) → stmt_mentions (Skip place) ≡ at_place place
unfolding stmt_mentions roll-Stmt denote.Hole.Carrier.roll
mentions_skip place = fold-roll-Stmt (List Mention) stmt_form (SkipForm place)

pub mentions_block : (place : Place) (block : List Stmt) → stmt_mentions (Block place block) ≡ at_place place ++ flat_map stmt_mentions block
unfolding stmt_mentions roll-Stmt denote.Hole.Carrier.roll
mentions_block place block = fold-roll-Stmt (List Mention) stmt_form (BlockForm place block) ∙ ap (λ ms. at_place place ++ ms) (block_same block)

pub mentions_assert : (place : Place) (name : Option Identifier) (e : Expr) → stmt_mentions (Assert place name e) ≡ at_place place ++ (if_written identifier_mentions name ++ expr_mentions e)
unfolding stmt_mentions roll-Stmt denote.Hole.Carrier.roll
mentions_assert place name e = fold-roll-Stmt (List Mention) stmt_form (AssertForm place name e)

pub mentions_assume : (place : Place) (e : Expr) → stmt_mentions (Assume place e) ≡ at_place place ++ expr_mentions e
unfolding stmt_mentions roll-Stmt denote.Hole.Carrier.roll
mentions_assume place e = fold-roll-Stmt (List Mention) stmt_form (AssumeForm place e)

pub mentions_havoc : (place : Place) (i : Identifier) (primed : Bool) → stmt_mentions (Havoc place i primed) ≡ at_place place ++ identifier_mentions i
unfolding stmt_mentions roll-Stmt denote.Hole.Carrier.roll
mentions_havoc place i primed = fold-roll-Stmt (List Mention) stmt_form (HavocForm place i primed)

pub mentions_assign : (place : Place) (targets : List Target) (sources : List Expr) → stmt_mentions (Assign place targets sources) ≡ at_place place ++ (flat_map target_mentions targets ++ flat_map expr_mentions sources)
unfolding stmt_mentions roll-Stmt denote.Hole.Carrier.roll
mentions_assign place targets sources = fold-roll-Stmt (List Mention) stmt_form (AssignForm place targets sources)

pub mentions_choice : (place : Place) (arms : List (Arm Stmt)) (otherwise : Option (List Stmt)) →
    stmt_mentions (Choice place arms otherwise) ≡ choice_by stmt_mentions place arms otherwise
unfolding stmt_mentions through_arm roll-Stmt denote.Hole.Carrier.roll
mentions_choice place arms None =
    fold-roll-Stmt (List Mention) stmt_form (ChoiceForm place arms None) ∙ ap (λ ms. at_place place ++ (ms ++ [])) (arms_same arms)
mentions_choice place arms (Some block) =
    fold-roll-Stmt (List Mention) stmt_form (ChoiceForm place arms (Some block)) ∙ (λ k. at_place place ++ (arms_same arms k ++ block_same block k))

pub mentions_cases : (place : Place) (arms : List (Arm Stmt)) (otherwise : Option (List Stmt)) →
    stmt_mentions (Cases place arms otherwise) ≡ choice_by stmt_mentions place arms otherwise
unfolding stmt_mentions through_arm roll-Stmt denote.Hole.Carrier.roll
mentions_cases place arms None =
    fold-roll-Stmt (List Mention) stmt_form (CasesForm place arms None) ∙ ap (λ ms. at_place place ++ (ms ++ [])) (arms_same arms)
mentions_cases place arms (Some block) =
    fold-roll-Stmt (List Mention) stmt_form (CasesForm place arms (Some block)) ∙ (λ k. at_place place ++ (arms_same arms k ++ block_same block k))

pub mentions_for : (place : Place) (i : Identifier) (type : Option TypeExpr) (from : RangeBound) (to : RangeBound) (block : List Stmt) → stmt_mentions (For place i type from to block) ≡
    at_place place ++ (identifier_mentions i ++ (if_written type_mentions type ++ (bound_mentions from ++ (bound_mentions to ++ flat_map stmt_mentions block))))
unfolding stmt_mentions roll-Stmt denote.Hole.Carrier.roll
mentions_for place i type from to block = fold-roll-Stmt (List Mention) stmt_form (ForForm place i type from to block)
    ∙ ap (λ ms. at_place place ++ (identifier_mentions i ++ (if_written type_mentions type ++ (bound_mentions from ++ (bound_mentions to ++ ms))))) (block_same block)

pub mentions_call : (place : Place) (targets : List Target) (i : Identifier) (arguments : List Expr) → stmt_mentions (Call place targets i arguments) ≡
    at_place place ++ (flat_map target_mentions targets ++ (identifier_mentions i ++ flat_map expr_mentions arguments))
unfolding stmt_mentions roll-Stmt denote.Hole.Carrier.roll
mentions_call place targets i arguments = fold-roll-Stmt (List Mention) stmt_form (CallForm place targets i arguments)

pub mentions_next : (place : Place) (i : Identifier) → stmt_mentions (Next place i) ≡ at_place place ++ identifier_mentions i
unfolding stmt_mentions roll-Stmt denote.Hole.Carrier.roll
mentions_next place i = fold-roll-Stmt (List Mention) stmt_form (NextForm place i)

-- A test of all mentions.

and_true : (a b : Bool) → a ≡ true → b ≡ true → (a && b) ≡ true
and_true true b f g = g
and_true false b f g = f

first_true : (a b : Bool) → (a && b) ≡ true → a ≡ true
first_true true b h = refl
first_true false b h = h

second_true : (a b : Bool) → (a && b) ≡ true → b ≡ true
second_true true b h = h
second_true false b h = absurd (true≢false (sym h))

lt_more : (x n m : ℕ) → n ≤ m → nat_lt x n ≡ true → nat_lt x m ≡ true
lt_more x n m le h = lt-ltb x m (omega (arith, ltb-true x n h))

module _ {A : Type 0} (test : A → Bool) where
  -- it holds of what stands in front and of what stands behind
  pub all_append : (xs ys : List A) → list_all test xs ≡ true → list_all test ys ≡ true → list_all test (xs ++ ys) ≡ true
  all_append xs ys f g = list_all-append test xs ys ∙ and_true _ _ f g

  -- it holds of what each element gives
  pub all_flat_map : {X : Type 0} (f : X → List A) (xs : List X) → list_all (λ x. list_all test (f x)) xs ≡ true → list_all test (flat_map f xs) ≡ true
  all_flat_map f xs h = each_flat f xs ∙ h
    where
      each_flat : {X : Type 0} (f : X → List A) (xs : List X) → list_all test (flat_map f xs) ≡ list_all (λ x. list_all test (f x)) xs
      each_flat f [] = refl
      each_flat f (x ∷ xs) = list_all-append test (f x) (flat_map f xs) ∙ ap (λ b. list_all test (f x) && b) (each_flat f xs)

  -- it holds of what the elements and one more give
  pub all_push : {X : Type 0} (f : X → List A) (xs : List X) (x : X) → list_all test (flat_map f xs) ≡ true → list_all test (f x) ≡ true →
      list_all test (flat_map f (xs ++ x ∷ [])) ≡ true
  all_push f [] x h g = all_append (f x) [] g refl
  all_push f (y ∷ ys) x h g =
      let parts : (list_all test (f y) && list_all test (flat_map f ys)) ≡ true = sym (list_all-append test (f y) (flat_map f ys)) ∙ h in
      all_append (f y) (flat_map f (ys ++ x ∷ [])) (first_true _ _ parts) (all_push f ys x (second_true _ _ parts) g)

  -- it is implied by a stronger one
  pub all_weaker : (weaker : A → Bool) → ((x : A) → test x ≡ true → weaker x ≡ true) → (xs : List A) → list_all test xs ≡ true → list_all weaker xs ≡ true
  all_weaker weaker implies [] h = refl
  all_weaker weaker implies (x ∷ xs) h =
      and_true _ _ (implies x (first_true _ _ h)) (all_weaker weaker implies xs (second_true _ _ h))

-- names stay below a greater number, and so do files
pub names_below_more : (n m : ℕ) (mentions : List Mention) → n ≤ m → NamesBelow n mentions → NamesBelow m mentions
names_below_more n m mentions le = all_weaker (name_below n) (name_below m) more mentions
  where
    more : (x : Mention) → name_below n x ≡ true → name_below m x ≡ true
    more (OfName x) h = lt_more x n m le h
    more (OfFile f) h = refl

pub files_below_more : (n m : ℕ) (mentions : List Mention) → n ≤ m → FilesBelow n mentions → FilesBelow m mentions
files_below_more n m mentions le = all_weaker (file_below n) (file_below m) more mentions
  where
    more : (x : Mention) → file_below n x ≡ true → file_below m x ≡ true
    more (OfName x) h = refl
    more (OfFile f) h = lt_more f n m le h
