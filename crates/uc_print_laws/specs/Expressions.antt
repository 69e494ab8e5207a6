-- The words of expressions, with parentheses where the tree needs them.
use Rattle.std.specs.Prelude.{ℕ, zero, suc, Bool, true, false, nat_le, if◌then◌else◌, List, [], ◌∷◌, map}
use Rattle.uc_grammar.specs.declared.word.Kind.{Kind}
use Rattle.uc_grammar.specs.declared.word.Kind.TheVariants as kinds
use Rattle.uc_grammar.specs.Syntax.{F, Placed, unary, product, summed, concatenated, bit_and, bit_xor, bit_or, compared, conjunction, disjunction, implication, equivalence, expression}
use Rattle.uc_lexer.specs.declared.place.Place.{Place}
use Rattle.uc_syntax.specs.declared.expression.UnaryOperator.{UnaryOperator}
use Rattle.uc_syntax.specs.declared.expression.UnaryOperator.TheVariants.{Not, Negate, Complement}
use Rattle.uc_syntax.specs.declared.expression.Comparison.{Comparison}
use Rattle.uc_syntax.specs.declared.expression.Comparison.TheVariants.{Equal, Unequal, Less, AtMost, Greater, AtLeast, LessUnsigned, AtMostUnsigned, GreaterUnsigned, AtLeastUnsigned}
use Rattle.uc_syntax.specs.declared.expression.SumSign.{SumSign}
use Rattle.uc_syntax.specs.declared.expression.Branch.{Branch}
use Rattle.uc_syntax.specs.declared.expression.Selection.{Selection}
use Rattle.uc_syntax.specs.declared.expression.Selection.TheVariants.{Field, Copy, Element, Update, Extract}
use Rattle.uc_syntax.specs.declared.expression.Primary.{Primary}
use Rattle.uc_syntax.specs.declared.expression.Primary.TheVariants.{Truth, Number, BitsLiteral, Name, Apply, OnBits, Old, Grouped}
use Rattle.uc_syntax.specs.declared.expression.Expr.{Expr}
use Rattle.uc_syntax.specs.declared.expression.Expr.TheOpen.{Expr-F}
use Rattle.uc_syntax.specs.declared.expression.Expr.TheOpen.Expr-F.{If, Iff, Implies, Or, And, Compare, BitOr, BitXor, BitAnd, Concat, Sum, Product, Unary, Selected}
use Rattle.uc_syntax.specs.declared.expression.Expr.TheViews as exprs
use Rattle.uc_syntax.specs.declared.expression.Expr.TheFolds.{fold-Expr}
use Rattle.uc_print_laws.specs.Piece.{name, applied}
use Rattle.uc_print_laws.specs.Printed.{Printed, none, piece, sign, identifier, ◌<+>◌, nested, when, each, joined, has_one, in_parens, nowhere, erased_identifier}

-- An expression binds the more loosely the higher it is: unary forms and selections are lowest, then come the levels of chains, and `if` is highest.
pub record Leveled : Type 0 where
  pub height : ℕ
  -- without parentheses around it
  pub bare : Printed

-- the form of the expressions of at most this height
abbrev pub place_for : ℕ → F Placed
place_for zero = unary
place_for (suc zero) = product
place_for (suc (suc zero)) = summed
place_for (suc (suc (suc zero))) = concatenated
place_for (suc (suc (suc (suc zero)))) = bit_and
place_for (suc (suc (suc (suc (suc zero))))) = bit_xor
place_for (suc (suc (suc (suc (suc (suc zero)))))) = bit_or
place_for (suc (suc (suc (suc (suc (suc (suc zero))))))) = compared
place_for (suc (suc (suc (suc (suc (suc (suc (suc zero)))))))) = conjunction
place_for (suc (suc (suc (suc (suc (suc (suc (suc (suc zero))))))))) = disjunction
place_for (suc (suc (suc (suc (suc (suc (suc (suc (suc (suc zero)))))))))) = implication
place_for (suc (suc (suc (suc (suc (suc (suc (suc (suc (suc (suc zero))))))))))) = equivalence
place_for (suc (suc (suc (suc (suc (suc (suc (suc (suc (suc (suc (suc n)))))))))))) = expression

-- where an expression of at most this height may stand: others need parentheses
abbrev pub at : ℕ → Leveled → Printed
at most x = if nat_le x.height most then x.bare else in_parens x.bare

-- where any expression may stand
abbrev pub whole : Leveled → Printed
whole x = x.bare

-- ---- chains

-- there is a mark between all neighbours, and no further one
abbrev pub is_marked : {A B : Type 0} → List A → List B → Bool
is_marked [] [] = true
is_marked [] (m ∷ ms) = false
is_marked (x ∷ xs) [] = false
is_marked (x ∷ xs) (m ∷ ms) = is_marked xs ms

-- two operands or more, with the marks between them
abbrev pub is_chain : {A B : Type 0} → List A → List B → Bool
is_chain [] ms = false
is_chain (x ∷ []) ms = false
is_chain (x ∷ y ∷ ys) ms = is_marked (y ∷ ys) ms

-- a chain of one level, whose operands are lower
abbrev pub chain : ℕ → Kind → List Leveled → List Place → Leveled
chain below k es ms = record { height = suc below; bare = when (is_chain es ms) (joined k (at below) es) }

abbrev pub sum_kind : SumSign → Kind
sum_kind s = if s.is_minus then kinds.Minus else kinds.Plus

-- the further operands of a sum, each behind its sign
unfoldable pub terms : List SumSign → List Leveled → Printed
terms [] es = none
terms (s ∷ ss) [] = none
terms (s ∷ ss) (e ∷ es) = sign (sum_kind s) <+> (at 1 e <+> terms ss es)

abbrev pub sum_words : List SumSign → List Leveled → Printed
sum_words ss [] = none
sum_words ss (e ∷ es) = at 1 e <+> terms ss es

abbrev pub comparison_kind : Comparison → Kind
comparison_kind Equal = kinds.Equal
comparison_kind Unequal = kinds.NotEqual
comparison_kind Less = kinds.Less
comparison_kind AtMost = kinds.LessEqual
comparison_kind Greater = kinds.Greater
comparison_kind AtLeast = kinds.GreaterEqual
comparison_kind LessUnsigned = kinds.LessUnsigned
comparison_kind AtMostUnsigned = kinds.LessEqualUnsigned
comparison_kind GreaterUnsigned = kinds.GreaterUnsigned
comparison_kind AtLeastUnsigned = kinds.GreaterEqualUnsigned

-- ---- primaries and selections

-- in parentheses, and maybe nothing between
abbrev pub enclosed : {C : Type 0} → (C → Printed) → List C → Printed
enclosed f cs = in_parens (joined kinds.Comma f cs)

abbrev pub prime : Bool → Printed
prime true = sign kinds.Prime
prime false = none

abbrev pub primary_words : Primary Leveled → Printed
primary_words (Truth true) = sign kinds.KwTrue
primary_words (Truth false) = sign kinds.KwFalse
primary_words (Number n) = sign (kinds.Number n)
primary_words (BitsLiteral n width) = sign (kinds.BvLit n width)
primary_words (Name n primed) = piece (name n) <+> prime primed
primary_words (Apply n es) = piece (applied n) <+> enclosed whole es
primary_words (OnBits f es) = sign (kinds.OnBits f 0) <+> enclosed whole es
primary_words (Old i) = sign kinds.KwOld <+> in_parens (identifier i)
primary_words (Grouped e) = in_parens (whole e)

-- grouping parentheses are a node only where selections follow
abbrev pub is_selected : {E : Type 0} → Primary E → List (Selection E) → Bool
is_selected (Grouped e) ss = has_one ss
is_selected other ss = true

abbrev pub selection_words : Selection Leveled → Printed
selection_words (Field p i) = sign kinds.Dot <+> identifier i
selection_words (Copy p n) = sign kinds.Dot <+> sign (kinds.Number n)
selection_words (Element p e) = nested (sign kinds.LeftBracket <+> (whole e <+> sign kinds.RightBracket))
selection_words (Update p e v) = nested (sign kinds.LeftBracket <+> (whole e <+> (sign kinds.Arrow <+> (whole v <+> sign kinds.RightBracket))))
selection_words (Extract p high low) = nested (sign kinds.LeftBracket <+> (sign (kinds.Number high) <+> (sign kinds.Colon <+> (sign (kinds.Number low) <+> sign kinds.RightBracket))))

-- ---- trees

abbrev pub branch_words : Branch Leveled → Printed
branch_words b = sign kinds.KwIf <+> ((whole b.condition <+> sign kinds.KwThen) <+> (whole b.value <+> sign kinds.KwElse))

abbrev pub unary_kind : UnaryOperator → Kind
unary_kind Not = kinds.Not
unary_kind Negate = kinds.Minus
unary_kind Complement = kinds.Tilde

abbrev pub expr_form : Expr-F Leveled → Leveled
expr_form (If p bs z) = record { height = 12; bare = when (has_one bs) (nested (each branch_words bs <+> at 11 z)) }
expr_form (Iff p es ms) = chain 10 kinds.Iff es ms
expr_form (Implies p es ms) = chain 9 kinds.Implies es ms
expr_form (Or p es ms) = chain 8 kinds.Or es ms
expr_form (And p es ms) = chain 7 kinds.And es ms
expr_form (Compare p c m a b) = record { height = 7; bare = at 6 a <+> (sign (comparison_kind c) <+> at 6 b) }
expr_form (BitOr p es ms) = chain 5 kinds.Bar es ms
expr_form (BitXor p es ms) = chain 4 kinds.Caret es ms
expr_form (BitAnd p es ms) = chain 3 kinds.Ampersand es ms
expr_form (Concat p es ms) = chain 2 kinds.Concat es ms
expr_form (Sum p es ss) = record { height = 2; bare = when (is_chain es ss) (sum_words ss es) }
expr_form (Product p es ms) = chain 0 kinds.Star es ms
expr_form (Unary p o e) = record { height = 0; bare = nested (sign (unary_kind o) <+> at 0 e) }
expr_form (Selected p q ss) = record { height = 0; bare = when (is_selected q ss) (primary_words q <+> each selection_words ss) }

abbrev pub leveled : Expr → Leveled
leveled = fold-Expr Leveled expr_form

abbrev pub printed_expr : Expr → Printed
printed_expr e = whole (leveled e)

-- ---- without places

abbrev pub each_branch : {A B : Type 0} → (A → B) → Branch A → Branch B
each_branch f b = record { place = b.place; condition = f b.condition; value = f b.value }

abbrev pub branch_nowhere : {A : Type 0} → Branch A → Branch A
branch_nowhere b = record { place = nowhere; condition = b.condition; value = b.value }

abbrev pub each_selection : {A B : Type 0} → (A → B) → Selection A → Selection B
each_selection f (Field p i) = Field p i
each_selection f (Copy p n) = Copy p n
each_selection f (Element p e) = Element p (f e)
each_selection f (Update p e v) = Update p (f e) (f v)
each_selection f (Extract p high low) = Extract p high low

abbrev pub selection_nowhere : {A : Type 0} → Selection A → Selection A
selection_nowhere (Field p i) = Field nowhere (erased_identifier i)
selection_nowhere (Copy p n) = Copy nowhere n
selection_nowhere (Element p e) = Element nowhere e
selection_nowhere (Update p e v) = Update nowhere e v
selection_nowhere (Extract p high low) = Extract nowhere high low

abbrev pub each_primary : {A B : Type 0} → (A → B) → Primary A → Primary B
each_primary f (Truth b) = Truth b
each_primary f (Number n) = Number n
each_primary f (BitsLiteral n width) = BitsLiteral n width
each_primary f (Name n primed) = Name n primed
each_primary f (Apply n es) = Apply n (map f es)
each_primary f (OnBits g es) = OnBits g (map f es)
each_primary f (Old i) = Old i
each_primary f (Grouped e) = Grouped (f e)

abbrev pub primary_nowhere : {A : Type 0} → Primary A → Primary A
primary_nowhere (Old i) = Old (erased_identifier i)
primary_nowhere q = q

abbrev pub marks_nowhere : List Place → List Place
marks_nowhere ms = map (λ m. nowhere) ms

abbrev pub sign_nowhere : SumSign → SumSign
sign_nowhere s = record { place = nowhere; is_minus = s.is_minus }

abbrev pub erase_form : Expr-F Expr → Expr
erase_form (If p bs z) = exprs.If nowhere (map branch_nowhere bs) z
erase_form (Iff p es ms) = exprs.Iff nowhere es (marks_nowhere ms)
erase_form (Implies p es ms) = exprs.Implies nowhere es (marks_nowhere ms)
erase_form (Or p es ms) = exprs.Or nowhere es (marks_nowhere ms)
erase_form (And p es ms) = exprs.And nowhere es (marks_nowhere ms)
erase_form (Compare p c m a b) = exprs.Compare nowhere c nowhere a b
erase_form (BitOr p es ms) = exprs.BitOr nowhere es (marks_nowhere ms)
erase_form (BitXor p es ms) = exprs.BitXor nowhere es (marks_nowhere ms)
erase_form (BitAnd p es ms) = exprs.BitAnd nowhere es (marks_nowhere ms)
erase_form (Concat p es ms) = exprs.Concat nowhere es (marks_nowhere ms)
erase_form (Sum p es ss) = exprs.Sum nowhere es (map sign_nowhere ss)
erase_form (Product p es ms) = exprs.Product nowhere es (marks_nowhere ms)
erase_form (Unary p o e) = exprs.Unary nowhere o e
erase_form (Selected p q ss) = exprs.Selected nowhere (primary_nowhere q) (map selection_nowhere ss)

abbrev pub erased_expr : Expr → Expr
erased_expr = fold-Expr Expr erase_form
