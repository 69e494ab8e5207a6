-- The printed words of an expression spell it.
use Rattle.std.proofs.Common.{◌≡◌, ℕ, Bool, true, false, List, [], ◌∷◌, Option, Some, None, map, refl, sym, ap, subst, ◌∙◌, inl, inr, ◌⊎◌}
use Rattle.uc_forms.specs.Form.{quiet, both, either, deep, many, word, one_of, after, before, nothing, ahead, member}
use Rattle.uc_lexer.specs.declared.place.Place.{Place}
use Rattle.uc_grammar.specs.declared.word.Word.{Word}
use Rattle.uc_grammar.specs.declared.word.Kind.{Kind}
use Rattle.uc_grammar.specs.declared.word.Kind.TheVariants as kinds
use Rattle.uc_grammar.specs.Code.{code_of, name_in, value_in, width_in}
use Rattle.uc_grammar.specs.Syntax.{F, Placed, Head, rule, in_name, arguments, brackets, sign_operand, if_expression, id, applied as applied_of, named, primary, selection, selected_of, chain_of, level, sum_sign, sum_of, comparison, compared_of, unary, product, summed, concatenated, bit_and, bit_xor, bit_or, compared, conjunction, disjunction, implication, equivalence, expression, expr, branch, unary_operator}
use Rattle.uc_syntax.specs.declared.place.Identifier.{Identifier}
use Rattle.uc_syntax.specs.declared.expression.UnaryOperator.{UnaryOperator}
use Rattle.uc_syntax.specs.declared.expression.UnaryOperator.TheVariants as unary_operators
use Rattle.uc_syntax.specs.declared.expression.Comparison.{Comparison}
use Rattle.uc_syntax.specs.declared.expression.Comparison.TheVariants as comparisons
use Rattle.uc_syntax.specs.declared.expression.BitFunction.{BitFunction}
use Rattle.uc_syntax.specs.declared.expression.SumSign.{SumSign}
use Rattle.uc_syntax.specs.declared.expression.Branch.{Branch}
use Rattle.uc_syntax.specs.declared.expression.Selection.{Selection}
use Rattle.uc_syntax.specs.declared.expression.Selection.TheVariants.{Field, Copy, Element, Update, Extract}
use Rattle.uc_syntax.specs.declared.expression.Primary.{Primary}
use Rattle.uc_syntax.specs.declared.expression.Primary.TheVariants.{Truth, Number, BitsLiteral, Name, Apply, OnBits, Old, Grouped}
use Rattle.uc_syntax.specs.declared.expression.Expr.{Expr}
use Rattle.uc_syntax.specs.declared.expression.Expr.TheOpen.{Expr-F}
use Rattle.uc_syntax.specs.declared.expression.Expr.TheOpen.Expr-F.{If, Iff, Implies, Or, And, Compare, BitOr, BitXor, BitAnd, Concat, Sum, Product, Unary, Selected}
use Rattle.uc_syntax.specs.declared.expression.Expr.TheViews as exprs
use Rattle.uc_syntax.specs.declared.expression.Expr.TheViews.{roll-Expr}
use Rattle.uc_syntax.specs.declared.expression.Expr.TheFolds.{map-Expr, fold-roll-Expr, ind-Expr}
use Rattle.uc_print_laws.specs.Piece.{Piece, name, applied, fixed, Shows, is_on_bits}
use Rattle.uc_print_laws.specs.Printed.{Printed, none, piece, sign, identifier, ◌<+>◌, nested, when, each, behind, joined, has_one, in_parens, nowhere, erased_identifier}
use Rattle.uc_print_laws.specs.Expressions.{Leveled, place_for, at, whole, is_marked, is_chain, chain, sum_kind, terms, sum_words, comparison_kind, enclosed, prime, primary_words, is_selected, selection_words, branch_words, unary_kind, expr_form, leveled, each_branch, branch_nowhere, each_selection, selection_nowhere, each_primary, marks_nowhere, sign_nowhere, erase_form, erased_expr}
use Rattle.uc_print_laws.specs.PrintedLaw.{Prints}
use Rattle.uc_print_laws.proofs.PrintedWords.{name_codes, name_code}
use Rattle.uc_print_laws.proofs.PrintedSteps.{s_when, s_ahead, s_not_ahead, s_any, s_first, s_next, s_a_name, s_optional_some, assoc, s_word, s_none, s_both, s_left, s_right, s_made, s_weak, s_after, s_before, s_deep, s_id, s_each, s_joined, many_none, many_one, same, never}
use Rattle.uc_print_laws.proofs.Maps.{map_twice, each_over, joined_over}
use Rattle.uc_print_laws.proofs.ExpressionEquations.{map_selected, map_if, erased_branch, erased_selection, erased_primary, erased_if, erased_iff, erased_implies, erased_or, erased_and, erased_bit_or, erased_bit_xor, erased_bit_and, erased_concat, erased_product, erased_sum, erased_compare, erased_unary, erased_selected}
use Rattle.uc_print_laws.proofs.Stand.{Is, IsExpr, IsHead, Good, s_whole, s_group, s_at}

-- ---- expressions with what is known of them

abbrev Holds : Expr → Type 0
Holds e = Good (leveled e) (erased_expr e)

abbrev Child : Type 0
Child = (e : Expr) × Holds e

abbrev tree : Child → Expr
tree c = c.0

abbrev piece_of : Child → Leveled
piece_of c = leveled c.0

abbrev tree_of : Child → Expr
tree_of c = erased_expr c.0

child_whole : (c : Child) → Prints expr (whole (piece_of c)) (IsExpr (tree_of c))
child_whole c = s_whole (piece_of c) (tree_of c) c.1

child_at : (k : ℕ) (c : Child) → Prints (place_for k) (at k (piece_of c)) (Is (tree_of c))
child_at k c = s_at k (piece_of c) (tree_of c) c.1

-- ---- primaries

-- it is this primary, places aside
abbrev IsPrimary : Primary Expr → Head → Type 0
IsPrimary t (p, inl q) = erased_primary q ≡ t
IsPrimary t (p, inr e) = Grouped (erased_expr e) ≡ t

truth_spelled : (b : Bool) → Prints primary (primary_words (Truth b)) (IsPrimary (Truth b))
unfolding primary
truth_spelled true = s_first (s_made _ (λ w q. refl) (s_word kinds.KwTrue kinds.KwTrue refl))
truth_spelled false = s_next (s_first (s_made _ (λ w q. refl) (s_word kinds.KwFalse kinds.KwFalse refl)))

number_spelled : (n : ℕ) → Prints primary (primary_words (Number n)) (IsPrimary (Number n))
unfolding primary
number_spelled n = s_next (s_next (s_first (s_made _ (λ w q. ap (λ z. Number (value_in z)) q.1) (s_word (kinds.Number 0) (kinds.Number n) refl))))

literal_spelled : (n w : ℕ) → Prints primary (primary_words (BitsLiteral n w)) (IsPrimary (BitsLiteral n w))
unfolding primary
literal_spelled n w = s_next (s_next (s_next (s_first (s_made _ (λ x q. ap (λ z. BitsLiteral (value_in z) (width_in z)) q.1) (s_word (kinds.BvLit 0 0) (kinds.BvLit n w) refl)))))

s_in_name : (i : Identifier) → Prints (rule in_name) (sign kinds.LeftParen <+> (identifier i <+> sign kinds.RightParen)) (λ j. erased_identifier j ≡ erased_identifier i)
s_in_name i = s_after kinds.LeftParen (s_before kinds.RightParen (s_id i))

pub s_deep_name : (i : Identifier) → Prints (deep in_name) (in_parens (identifier i)) (λ j. erased_identifier j ≡ erased_identifier i)
s_deep_name i = s_deep in_name (s_in_name i)

old_spelled : (i : Identifier) → Prints primary (primary_words (Old i)) (IsPrimary (Old (erased_identifier i)))
unfolding primary
old_spelled i = s_next (s_next (s_next (s_next (s_first (s_made _ (λ x q. ap (λ z. Old z) q.1) (s_both (s_word kinds.KwOld kinds.KwOld refl) (s_deep_name i)))))))

grouped_is : (t : Expr) (y : Head) → IsHead t y → IsPrimary (Grouped t) y
grouped_is t (p, inl q) r = absurd r
grouped_is t (p, inr e) r = ap (λ z. Grouped z) r

grouped_spelled : (c : Child) → Prints primary (in_parens (whole (piece_of c))) (IsPrimary (Grouped (tree_of c)))
grouped_spelled c = s_weak (grouped_is (tree_of c)) (s_group (whole (piece_of c)) (tree_of c) (child_whole c))

abbrev kinds_member : Kind → Type 0
kinds_member k = member (code_of k) name_codes ≡ true

-- what stands behind a name
abbrev Tail : Type 0
Tail = Word ⊎ (List Expr ⊎ Unit {0})

s_named : (p : Piece) (x : Printed) (R : Tail → Type 0) (t : Primary Expr) → ((k : Kind) → Shows p k → kinds_member k) → ((w : Word) (y : Tail) → Shows p w.kind → R y → IsPrimary t (named (w, y)))
    → Prints (either (word kinds.Prime) (either (deep arguments) nothing)) x R → Prints primary (piece p <+> x) (IsPrimary t)
unfolding primary
s_named p x R t c k b = s_next (s_next (s_next (s_next (s_next (s_next (s_made named (λ y q. k y.0 y.1 q.0 q.1) (s_both (s_a_name p c) b)))))))

abbrev IsPrime : Tail → Type 0
IsPrime (inl w) = Unit {0}
IsPrime (inr z) = ⊥

abbrev IsBlank : Tail → Type 0
IsBlank (inl w) = ⊥
IsBlank (inr (inl es)) = ⊥
IsBlank (inr (inr u)) = Unit {0}

abbrev IsListed : List Expr → Tail → Type 0
IsListed ts (inl w) = ⊥
IsListed ts (inr (inl vs)) = map erased_expr vs ≡ ts
IsListed ts (inr (inr u)) = ⊥

primed_is : (n : ℕ) (w : Word) (y : Tail) → Shows (name n) w.kind → IsPrime y → IsPrimary (Name n true) (named (w, y))
primed_is n w (inl v) i q = ap (λ z. Name z true) i.1
primed_is n w (inr z) i q = absurd q

blank_is : (n : ℕ) (w : Word) (y : Tail) → Shows (name n) w.kind → IsBlank y → IsPrimary (Name n false) (named (w, y))
blank_is n w (inl v) i q = absurd q
blank_is n w (inr (inl es)) i q = absurd q
blank_is n w (inr (inr u)) i q = ap (λ z. Name z false) i.1

name_spelled : (n : ℕ) (b : Bool) → Prints primary (primary_words (Name n b)) (IsPrimary (Name n b))
name_spelled n true = s_named (name n) (prime true) IsPrime (Name n true) (λ k q. name_code k q.0) (primed_is n) (s_left (s_weak (λ w q. tt) (s_word kinds.Prime kinds.Prime refl)))
name_spelled n false = s_named (name n) (prime false) IsBlank (Name n false) (λ k q. name_code k q.0) (blank_is n) (s_right (s_right {Q = λ y. IsBlank (inr y)} (s_none tt)))

abbrev listed_of : Word ⊎ List Expr → List Expr
listed_of (inl w) = []
listed_of (inr es) = es

-- expressions in parentheses, or nothing between
s_enclosed : (cs : List Child) → Prints (rule arguments) (sign kinds.LeftParen <+> (joined kinds.Comma (λ c. whole (piece_of c)) cs <+> sign kinds.RightParen)) (λ vs. map erased_expr vs ≡ map tree_of cs)
s_enclosed [] = s_after kinds.LeftParen (s_made _ (λ y q. q) (s_left {Q = λ y. map erased_expr (listed_of y) ≡ []} (s_weak (λ w q. refl) (s_word kinds.RightParen kinds.RightParen refl))))
s_enclosed (c ∷ cs) = s_after kinds.LeftParen (s_made _ (λ y q. q) (s_right {Q = λ y. map erased_expr (listed_of y) ≡ map tree_of (c ∷ cs)} (s_before kinds.RightParen (s_joined expr erased_expr (λ c. whole (piece_of c)) tree_of child_whole kinds.Comma c cs))))

s_arguments : (cs : List Child) → Prints (deep arguments) (enclosed (λ c. whole (piece_of c)) cs) (λ vs. map erased_expr vs ≡ map tree_of cs)
s_arguments cs = s_deep arguments (s_enclosed cs)

applied_plain : (n : ℕ) (es : List Expr) (k : Kind) → is_on_bits k ≡ false → name_in k ≡ n → applied_of k es ≡ Apply n es
applied_plain n es (kinds.OnBits f m) e i = absurd cc
applied_plain n es k e i = ap (λ z. Apply z es) i

apply_is : (n : ℕ) (ts : List Expr) (w : Word) (y : Tail) → Shows (applied n) w.kind → IsListed ts y → IsPrimary (Apply n ts) (named (w, y))
apply_is n ts w (inl v) i q = absurd q
apply_is n ts w (inr (inl vs)) i q = ap erased_primary (applied_plain n vs w.kind i.2 i.1) ∙ ap (λ z. Apply n z) q
apply_is n ts w (inr (inr u)) i q = absurd q

apply_spelled : (n : ℕ) (cs : List Child) → Prints primary (piece (applied n) <+> enclosed (λ c. whole (piece_of c)) cs) (IsPrimary (Apply n (map tree_of cs)))
apply_spelled n cs = s_named (applied n) (enclosed (λ c. whole (piece_of c)) cs) (IsListed (map tree_of cs)) (Apply n (map tree_of cs)) (λ k q. name_code k q.0) (apply_is n (map tree_of cs))
    (s_right (s_left {Q = λ y. IsListed (map tree_of cs) (inr y)} (s_arguments cs)))

on_bits_is : (f : BitFunction) (ts : List Expr) (w : Word) (y : Tail) → Shows (fixed (kinds.OnBits f 0)) w.kind → IsListed ts y → IsPrimary (OnBits f ts) (named (w, y))
on_bits_is f ts w (inl v) i q = absurd q
on_bits_is f ts w (inr (inl vs)) i q = ap (λ z. erased_primary (applied_of z vs)) i.1 ∙ ap (λ z. OnBits f z) q
on_bits_is f ts w (inr (inr u)) i q = absurd q

on_bits_code : (f : BitFunction) (k : Kind) → Shows (fixed (kinds.OnBits f 0)) k → kinds_member k
on_bits_code f k s = subst kinds_member (sym s.1) refl

on_bits_spelled : (f : BitFunction) (cs : List Child) → Prints primary (sign (kinds.OnBits f 0) <+> enclosed (λ c. whole (piece_of c)) cs) (IsPrimary (OnBits f (map tree_of cs)))
on_bits_spelled f cs = s_named (fixed (kinds.OnBits f 0)) (enclosed (λ c. whole (piece_of c)) cs) (IsListed (map tree_of cs)) (OnBits f (map tree_of cs)) (on_bits_code f) (on_bits_is f (map tree_of cs))
    (s_right (s_left {Q = λ y. IsListed (map tree_of cs) (inr y)} (s_arguments cs)))

-- a primary as printed, and as it is without places
abbrev primary_piece : Primary Child → Primary Leveled
primary_piece q = each_primary leveled (each_primary tree q)

abbrev primary_tree : Primary Child → Primary Expr
primary_tree q = erased_primary (each_primary tree q)

enclosed_over : (cs : List Child) → enclosed whole (map leveled (map tree cs)) ≡ enclosed (λ c. whole (piece_of c)) cs
enclosed_over cs = ap in_parens (joined_over kinds.Comma leveled whole (map tree cs) ∙ joined_over kinds.Comma tree (λ e. whole (leveled e)) cs)

primary_spelled : (q : Primary Child) → Prints primary (primary_words (primary_piece q)) (IsPrimary (primary_tree q))
primary_spelled (Truth b) = truth_spelled b
primary_spelled (Number n) = number_spelled n
primary_spelled (BitsLiteral n w) = literal_spelled n w
primary_spelled (Name n b) = name_spelled n b
primary_spelled (Apply n cs) = same (ap (λ z. piece (applied n) <+> z) (sym (enclosed_over cs))) (s_weak (λ y. subst (λ z. IsPrimary (Apply n z) y) (sym (map_twice tree erased_expr cs))) (apply_spelled n cs))
primary_spelled (OnBits f cs) = same (ap (λ z. sign (kinds.OnBits f 0) <+> z) (sym (enclosed_over cs))) (s_weak (λ y. subst (λ z. IsPrimary (OnBits f z) y) (sym (map_twice tree erased_expr cs))) (on_bits_spelled f cs))
primary_spelled (Old i) = old_spelled i
primary_spelled (Grouped c) = grouped_spelled c

-- ---- selections

abbrev Pick : Type 0
Pick = Selection Child

abbrev pick_piece : Pick → Selection Leveled
pick_piece s = each_selection leveled (each_selection tree s)

abbrev pick_tree : Pick → Selection Expr
pick_tree s = erased_selection (each_selection tree s)

abbrev IsPick : Selection Expr → Selection Expr → Type 0
IsPick t v = erased_selection v ≡ t

abbrev Dotted : Type 0
Dotted = Word × (Identifier ⊎ Word)

abbrev dotted : Dotted → Selection Expr
dotted x = elim x.1 [ inl i ↦ Field x.0.place i | inr w ↦ Copy x.0.place (value_in w.kind) ]

abbrev IsDot : Selection Expr → Identifier ⊎ Word → Type 0
IsDot t (inl i) = Field nowhere (erased_identifier i) ≡ t
IsDot t (inr w) = Copy nowhere (value_in w.kind) ≡ t

dotted_is : (t : Selection Expr) (w : Word) (y : Identifier ⊎ Word) → IsDot t y → IsPick t (dotted (w, y))
dotted_is t w (inl i) q = q
dotted_is t w (inr v) q = q

s_dotted : (x : Printed) (t : Selection Expr) → Prints (either id (word (kinds.Number 0))) x (IsDot t) → Prints selection (sign kinds.Dot <+> x) (IsPick t)
unfolding selection
s_dotted x t p = s_first (s_made dotted (λ y q. dotted_is t y.0 y.1 q.1) (s_both (s_word kinds.Dot kinds.Dot refl) p))

-- in brackets
abbrev Inside : Type 0
Inside = (Word × Word) ⊎ (Expr × (Word ⊎ Expr))

abbrev bracketed : Word × Inside → Selection Expr
bracketed x = elim x.1 [
  | inl y ↦ Extract x.0.place (value_in y.0.kind) (value_in y.1.kind)
  | inr y ↦ elim y.1 [ inl w ↦ Element x.0.place y.0 | inr e ↦ Update x.0.place y.0 e ]
]

abbrev numbers_form : F Word
numbers_form = before (word (kinds.Number 0)) kinds.RightBracket

abbrev ends_form : F (Word ⊎ Expr)
ends_form = either (word kinds.RightBracket) (after kinds.Arrow (before expr kinds.RightBracket))

abbrev inside_form : F Inside
inside_form = ahead quiet (kinds.Number 0) [] kinds.Colon numbers_form (both expr ends_form)

abbrev IsInside : Selection Expr → Inside → Type 0
IsInside t (inl y) = Extract nowhere (value_in y.0.kind) (value_in y.1.kind) ≡ t
IsInside t (inr (e, inl w)) = Element nowhere (erased_expr e) ≡ t
IsInside t (inr (e, inr v)) = Update nowhere (erased_expr e) (erased_expr v) ≡ t

bracketed_is : (t : Selection Expr) (w : Word) (y : Inside) → IsInside t y → IsPick t (bracketed (w, y))
bracketed_is t w (inl y) q = q
bracketed_is t w (inr (e, inl v)) q = q
bracketed_is t w (inr (e, inr v)) q = q

s_brackets : (x : Printed) (t : Selection Expr) → Prints inside_form x (IsInside t) → Prints (rule brackets) (sign kinds.LeftBracket <+> x) (IsPick t)
s_brackets x t p = s_made bracketed (λ y q. bracketed_is t y.0 y.1 q.1) (s_both (s_word kinds.LeftBracket kinds.LeftBracket refl) p)

s_bracketed : (x : Printed) (t : Selection Expr) → Prints inside_form x (IsInside t) → Prints selection (nested (sign kinds.LeftBracket <+> x)) (IsPick t)
unfolding selection
s_bracketed x t p = s_next (s_deep brackets (s_brackets x t p))

abbrev IsBracketEnd : Word ⊎ Expr → Type 0
IsBracketEnd (inl w) = Unit {0}
IsBracketEnd (inr v) = ⊥

abbrev IsUpdateEnd : Expr → Word ⊎ Expr → Type 0
IsUpdateEnd t (inl w) = ⊥
IsUpdateEnd t (inr v) = IsExpr t v

element_is : (t e : Expr) (y : Word ⊎ Expr) → IsExpr t e → IsBracketEnd y → IsInside (Element nowhere t) (inr (e, y))
element_is t e (inl w) i q = ap (λ z. Element nowhere z) i
element_is t e (inr v) i q = absurd q

update_is : (t u e : Expr) (y : Word ⊎ Expr) → IsExpr t e → IsUpdateEnd u y → IsInside (Update nowhere t u) (inr (e, y))
update_is t u e (inl w) i q = absurd q
update_is t u e (inr v) i q = ap (λ z. Update nowhere z (erased_expr v)) i ∙ ap (λ z. Update nowhere t z) q

extract_is : (a b : ℕ) (y : Word × Word) → Shows (fixed (kinds.Number a)) y.0.kind → Shows (fixed (kinds.Number b)) y.1.kind → IsInside (Extract nowhere a b) (inl y)
extract_is a b y p q = ap (λ z. Extract nowhere (value_in z) (value_in y.1.kind)) p.1 ∙ ap (λ z. Extract nowhere a (value_in z)) q.1

pick_spelled : (s : Pick) → Prints selection (selection_words (pick_piece s)) (IsPick (pick_tree s))
pick_spelled (Field p i) = s_dotted (identifier i) (Field nowhere (erased_identifier i)) (s_left (s_weak (λ j q. ap (λ z. Field nowhere z) q) (s_id i)))
pick_spelled (Copy p n) = s_dotted (sign (kinds.Number n)) (Copy nowhere n) (s_right (s_weak (λ w q. ap (λ z. Copy nowhere (value_in z)) q.1) (s_word (kinds.Number 0) (kinds.Number n) refl)))
pick_spelled (Element p c) = s_bracketed (whole (piece_of c) <+> sign kinds.RightBracket) (Element nowhere (tree_of c)) (s_not_ahead
    (s_weak (λ y q. element_is (tree_of c) y.0 y.1 q.0 q.1) (s_both (child_whole c) (s_left {Q = IsBracketEnd} (s_weak (λ w q. tt) (s_word kinds.RightBracket kinds.RightBracket refl))))))
pick_spelled (Update p c d) = s_bracketed (whole (piece_of c) <+> (sign kinds.Arrow <+> (whole (piece_of d) <+> sign kinds.RightBracket))) (Update nowhere (tree_of c) (tree_of d)) (s_not_ahead
    (s_weak (λ y q. update_is (tree_of c) (tree_of d) y.0 y.1 q.0 q.1) (s_both (child_whole c) (s_right {Q = IsUpdateEnd (tree_of d)} (s_after kinds.Arrow (s_before kinds.RightBracket (child_whole d)))))))
pick_spelled (Extract p a b) = s_bracketed (sign (kinds.Number a) <+> (sign kinds.Colon <+> (sign (kinds.Number b) <+> sign kinds.RightBracket))) (Extract nowhere a b)
    (s_ahead (fixed (kinds.Number a)) (λ k q. subst (λ z. member (code_of z) (code_of (kinds.Number 0) ∷ []) ≡ true) (sym q.1) refl) (λ w v i q. extract_is a b (w, v) i q) (s_before kinds.RightBracket (s_word (kinds.Number 0) (kinds.Number b) refl)))

-- ---- unary forms

unary_is : (o : UnaryOperator) (k : Kind) → Shows (fixed (unary_kind o)) k → unary_operator k ≡ o
unary_is unary_operators.Not k q = ap unary_operator q.1
unary_is unary_operators.Negate k q = ap unary_operator q.1
unary_is unary_operators.Complement k q = ap unary_operator q.1

sign_word : (o : UnaryOperator) → Prints (one_of kinds.Not (kinds.Minus ∷ kinds.Tilde ∷ [])) (sign (unary_kind o)) (λ w. Shows (fixed (unary_kind o)) w.kind)
sign_word unary_operators.Not = s_any quiet kinds.Not (kinds.Minus ∷ kinds.Tilde ∷ []) kinds.Not refl
sign_word unary_operators.Negate = s_any quiet kinds.Not (kinds.Minus ∷ kinds.Tilde ∷ []) kinds.Minus refl
sign_word unary_operators.Complement = s_any quiet kinds.Not (kinds.Minus ∷ kinds.Tilde ∷ []) kinds.Tilde refl

operand_spelled : (o : UnaryOperator) (c : Child) → Prints (rule sign_operand) (sign (unary_kind o) <+> at 0 (piece_of c)) (Is (exprs.Unary nowhere o (tree_of c)))
operand_spelled o c = s_made _ (λ x q. erased_unary x.0.place (unary_operator x.0.kind) x.1.1 ∙ ap (λ z. exprs.Unary nowhere z (erased_expr x.1.1)) (unary_is o x.0.kind q.0) ∙ ap (λ z. exprs.Unary nowhere o z) q.1) (s_both (sign_word o) (child_at 0 c))

good_unary : (o : UnaryOperator) (c : Child) → Prints unary (nested (sign (unary_kind o) <+> at 0 (piece_of c))) (Is (exprs.Unary nowhere o (tree_of c)))
unfolding unary
good_unary o c = s_first (s_deep sign_operand (operand_spelled o c))

-- ---- selections behind a primary

-- it is this primary with these selections, and where the primary is a group there are some
selected_is : (t : Primary Expr) (ts : List (Selection Expr)) (h : Head) (vs : List (Selection Expr)) → is_selected t ts ≡ true → IsPrimary t h → map erased_selection vs ≡ ts → Is (exprs.Selected nowhere t ts) (selected_of (h, vs))
selected_is t ts (p, inl q) vs s i j = erased_selected p q vs ∙ ap (λ z. exprs.Selected nowhere z (map erased_selection vs)) i ∙ ap (λ z. exprs.Selected nowhere t z) j
selected_is t ts (p, inr e) (v ∷ vs) s i j = erased_selected p (Grouped e) (v ∷ vs) ∙ ap (λ z. exprs.Selected nowhere z (map erased_selection (v ∷ vs))) i ∙ ap (λ z. exprs.Selected nowhere t z) j
selected_is t ts (p, inr e) [] s i j = absurd (group_without e t ts s i j)
  where
    group_without : (e : Expr) (t : Primary Expr) (ts : List (Selection Expr)) → is_selected t ts ≡ true → Grouped (erased_expr e) ≡ t → [] ≡ ts → ⊥
    group_without e t ts s i j = no_group (subst (λ z. is_selected (Grouped (erased_expr e)) z ≡ true) (sym j) (subst (λ z. is_selected z ts ≡ true) (sym i) s))
      where
        no_group : false ≡ true → ⊥
        no_group e = absurd cc

good_selected : (q : Primary Child) (ss : List Pick) → is_selected (primary_tree q) (map pick_tree ss) ≡ true → Prints unary (primary_words (primary_piece q) <+> each (λ s. selection_words (pick_piece s)) ss) (Is (exprs.Selected nowhere (primary_tree q) (map pick_tree ss)))
unfolding unary
good_selected q ss s = s_next (s_made selected_of (λ x r. selected_is (primary_tree q) (map pick_tree ss) x.0 x.1 s r.0 r.1)
    (s_both (primary_spelled q) (s_each selection erased_selection (λ s. selection_words (pick_piece s)) pick_tree pick_spelled ss)))

-- ---- chains

abbrev operand_words : ℕ → Child → Printed
operand_words k c = at k (piece_of c)

-- the marks of a chain, whatever their places
abbrev AreMarks : List Expr → List (Word × Placed) → Type 0
AreMarks ts ys = map (λ (y : Word × Placed). erased_expr y.1.1) ys ≡ ts

s_signed : (k : ℕ) (j : Kind) (c : Child) → Prints (both (word j) (place_for k)) (sign j <+> operand_words k c) (λ y. erased_expr y.1.1 ≡ tree_of c)
s_signed k j c = s_weak (λ y q. q.1) (s_both (s_word j j refl) (child_at k c))

s_operands : (k : ℕ) (j : Kind) (cs : List Child) → Prints (many (both (word j) (place_for k))) (behind j (operand_words k) cs) (AreMarks (map tree_of cs))
unfolding behind
s_operands k j [] = many_none (λ y. erased_expr y.1.1)
s_operands k j (c ∷ cs) = same (assoc (sign j) (operand_words k c) (behind j (operand_words k) cs)) (many_one (λ y. erased_expr y.1.1) (s_signed k j c) (s_operands k j cs))

abbrev tail_of : {A : Type 0} → List A → List A
tail_of [] = []
tail_of (x ∷ xs) = xs

-- as many places as there are marks
marks_alike : (ys : List (Word × Placed)) (ts : List Expr) (ms : List Place) → is_marked ts ms ≡ true → AreMarks ts ys → marks_nowhere (map (λ y. y.0.place) ys) ≡ marks_nowhere ms
marks_alike [] [] [] e q = refl
marks_alike [] [] (m ∷ ms) e q = absurd cc
marks_alike [] (t ∷ ts) ms e q = absurd cc
marks_alike (y ∷ ys) [] ms e q = absurd cc
marks_alike (y ∷ ys) (t ∷ ts) [] e q = absurd cc
marks_alike (y ∷ ys) (t ∷ ts) (m ∷ ms) e q = ap (λ z. nowhere ∷ z) (marks_alike ys ts ms e (ap tail_of q))

operands_alike : (ys : List (Word × Placed)) (ts : List Expr) → AreMarks ts ys → map erased_expr (map (λ y. y.1.1) ys) ≡ ts
operands_alike ys ts q = map_twice (λ y. y.1.1) erased_expr ys ∙ q

module _ (node : Place → List Expr → List Place → Expr) (erased_node : (p : Place) (es : List Expr) (ms : List Place) → erased_expr (node p es ms) ≡ node nowhere (map erased_expr es) (marks_nowhere ms)) where
  chain_is : (t u : Expr) (us : List Expr) (ms : List Place) (p : Placed) (ys : List (Word × Placed)) → is_marked (u ∷ us) ms ≡ true → Is t p → AreMarks (u ∷ us) ys → Is (node nowhere (t ∷ u ∷ us) (marks_nowhere ms)) (chain_of node (p, ys))
  chain_is t u us ms p [] e i q = absurd cc
  chain_is t u us ms p (y ∷ ys) e i q =
      erased_node p.0 (p.1 ∷ map (λ z. z.1.1) (y ∷ ys)) (map (λ z. z.0.place) (y ∷ ys))
      ∙ ap (λ z. node nowhere (z ∷ map erased_expr (map (λ z. z.1.1) (y ∷ ys))) (marks_nowhere (map (λ z. z.0.place) (y ∷ ys)))) i
      ∙ ap (λ z. node nowhere (t ∷ z) (marks_nowhere (map (λ z. z.0.place) (y ∷ ys)))) (operands_alike (y ∷ ys) (u ∷ us) q)
      ∙ ap (λ z. node nowhere (t ∷ u ∷ us) z) (marks_alike (y ∷ ys) (u ∷ us) ms e q)

  marked_over : (cs : List Child) (ms : List Place) → is_marked cs ms ≡ true → is_marked (map tree_of cs) ms ≡ true
  marked_over [] [] e = refl
  marked_over [] (m ∷ ms) e = absurd cc
  marked_over (c ∷ cs) [] e = absurd cc
  marked_over (c ∷ cs) (m ∷ ms) e = marked_over cs ms e

  chain_spelled : (k : ℕ) (j : Kind) (c d : Child) (cs : List Child) (ms : List Place) → is_marked (d ∷ cs) ms ≡ true → Prints (level node j (place_for k)) (joined j (operand_words k) (c ∷ d ∷ cs)) (Is (node nowhere (map tree_of (c ∷ d ∷ cs)) (marks_nowhere ms)))
  chain_spelled k j c d cs ms e = s_made (chain_of node) (λ x q. chain_is (tree_of c) (tree_of d) (map tree_of cs) ms x.0 x.1 (marked_over (d ∷ cs) ms e) q.0 q.1) (s_both (child_at k c) (s_operands k j (d ∷ cs)))

  is_chain_case : (k : ℕ) (j : Kind) (cs : List Child) (ms : List Place) → is_chain cs ms ≡ true → Prints (level node j (place_for k)) (joined j (operand_words k) cs) (Is (node nowhere (map tree_of cs) (marks_nowhere ms)))
  is_chain_case k j [] ms e = absurd cc
  is_chain_case k j (c ∷ []) ms e = absurd cc
  is_chain_case k j (c ∷ d ∷ cs) ms e = chain_spelled k j c d cs ms e

  chain_over : (cs : List Child) (ms : List Place) → is_chain (map leveled (map tree cs)) ms ≡ is_chain cs ms
  chain_over [] ms = refl
  chain_over (c ∷ []) ms = refl
  chain_over (c ∷ d ∷ cs) ms = over (d ∷ cs) ms
    where
      over : (cs : List Child) (ms : List Place) → is_marked (map leveled (map tree cs)) ms ≡ is_marked cs ms
      over [] [] = refl
      over [] (m ∷ ms) = refl
      over (c ∷ cs) [] = refl
      over (c ∷ cs) (m ∷ ms) = over cs ms

  -- as the definitions have it
  good_chain : (k : ℕ) (j : Kind) (cs : List Child) (ms : List Place) → Prints (level node j (place_for k)) (chain k j (map leveled (map tree cs)) ms).bare (Is (node nowhere (map erased_expr (map tree cs)) (marks_nowhere ms)))
  good_chain k j cs ms =
      same (ap (λ b. when b (joined j (at k) (map leveled (map tree cs)))) (sym (chain_over cs ms)) ∙ ap (λ z. when (is_chain (map leveled (map tree cs)) ms) z) refl)
      (same (ap (λ z. when (is_chain cs ms) z) (sym (joined_over j leveled (at k) (map tree cs) ∙ joined_over j tree (λ e. at k (leveled e)) cs)))
      (s_weak (λ y. subst (λ z. Is (node nowhere z (marks_nowhere ms)) y) (sym (map_twice tree erased_expr cs)))
      (s_when (is_chain cs ms) (λ e. is_chain_case k j cs ms e))))

-- ---- sums

sum_word : (s : SumSign) → Prints (one_of kinds.Plus (kinds.Minus ∷ [])) (sign (sum_kind s)) (λ w. sign_nowhere (sum_sign w) ≡ sign_nowhere s)
sum_word s = tested s.place s.is_minus
  where
    tested : (p : Place) (b : Bool) → Prints (one_of kinds.Plus (kinds.Minus ∷ [])) (sign (sum_kind (record { place = p; is_minus = b }))) (λ w. sign_nowhere (sum_sign w) ≡ sign_nowhere (record { place = p; is_minus = b }))
    tested p true = s_weak (λ w q. ap (λ z. sign_nowhere (sum_sign (record { kind = z; place = w.place }))) q.1) (s_any quiet kinds.Plus (kinds.Minus ∷ []) kinds.Minus refl)
    tested p false = s_weak (λ w q. ap (λ z. sign_nowhere (sum_sign (record { kind = z; place = w.place }))) q.1) (s_any quiet kinds.Plus (kinds.Minus ∷ []) kinds.Plus refl)

-- the signs and operands behind the first, without places
abbrev Term : Type 0
Term = SumSign × Expr

abbrev term_of : Word × Placed → Term
term_of y = (sign_nowhere (sum_sign y.0), erased_expr y.1.1)

abbrev terms_of : List SumSign → List Child → List Term
terms_of [] cs = []
terms_of (s ∷ ss) [] = []
terms_of (s ∷ ss) (c ∷ cs) = (sign_nowhere s, tree_of c) ∷ terms_of ss cs

abbrev term_words : List SumSign → List Child → Printed
term_words [] cs = none
term_words (s ∷ ss) [] = none
term_words (s ∷ ss) (c ∷ cs) = sign (sum_kind s) <+> (operand_words 1 c <+> term_words ss cs)

abbrev term_form : F (Word × Placed)
term_form = both (one_of kinds.Plus (kinds.Minus ∷ [])) product

term_spelled : (s : SumSign) (c : Child) → Prints term_form (sign (sum_kind s) <+> operand_words 1 c) (λ y. term_of y ≡ (sign_nowhere s, tree_of c))
term_spelled s c = s_weak (λ y q. ap (λ (z : SumSign). (z, erased_expr y.1.1)) q.0 ∙ ap (λ (z : Expr). (sign_nowhere s, z)) q.1) (s_both (sum_word s) (child_at 1 c))

terms_spelled : (ss : List SumSign) (cs : List Child) → Prints (many term_form) (term_words ss cs) (λ ys. map term_of ys ≡ terms_of ss cs)
terms_spelled [] cs = many_none term_of
terms_spelled (s ∷ ss) [] = many_none term_of
terms_spelled (s ∷ ss) (c ∷ cs) = same (assoc (sign (sum_kind s)) (operand_words 1 c) (term_words ss cs)) (many_one term_of (term_spelled s c) (terms_spelled ss cs))

signs_alike : (ys : List (Word × Placed)) (ss : List SumSign) (cs : List Child) → is_marked cs ss ≡ true → map term_of ys ≡ terms_of ss cs → map sign_nowhere (map (λ y. sum_sign y.0) ys) ≡ map sign_nowhere ss
signs_alike ys ss cs e q = map_twice (λ y. sum_sign y.0) sign_nowhere ys ∙ sym (map_twice term_of (λ (t : Term). t.0) ys) ∙ ap (λ z. map (λ (t : Term). t.0) z) q ∙ both_signs ss cs e
  where
    both_signs : (ss : List SumSign) (cs : List Child) → is_marked cs ss ≡ true → map (λ (t : Term). t.0) (terms_of ss cs) ≡ map sign_nowhere ss
    both_signs [] [] e = refl
    both_signs [] (c ∷ cs) e = refl
    both_signs (s ∷ ss) [] e = absurd cc
    both_signs (s ∷ ss) (c ∷ cs) e = ap (λ z. sign_nowhere s ∷ z) (both_signs ss cs e)

trees_alike : (ys : List (Word × Placed)) (ss : List SumSign) (cs : List Child) → is_marked cs ss ≡ true → map term_of ys ≡ terms_of ss cs → map erased_expr (map (λ y. y.1.1) ys) ≡ map tree_of cs
trees_alike ys ss cs e q = map_twice (λ y. y.1.1) erased_expr ys ∙ sym (map_twice term_of (λ (t : Term). t.1) ys) ∙ ap (λ z. map (λ (t : Term). t.1) z) q ∙ both_trees ss cs e
  where
    both_trees : (ss : List SumSign) (cs : List Child) → is_marked cs ss ≡ true → map (λ (t : Term). t.1) (terms_of ss cs) ≡ map tree_of cs
    both_trees [] [] e = refl
    both_trees [] (c ∷ cs) e = absurd cc
    both_trees (s ∷ ss) [] e = absurd cc
    both_trees (s ∷ ss) (c ∷ cs) e = ap (λ z. tree_of c ∷ z) (both_trees ss cs e)

sum_is : (t : Expr) (s : SumSign) (ss : List SumSign) (d : Child) (cs : List Child) (p : Placed) (ys : List (Word × Placed)) → is_marked (d ∷ cs) (s ∷ ss) ≡ true → Is t p → map term_of ys ≡ terms_of (s ∷ ss) (d ∷ cs) → Is (exprs.Sum nowhere (t ∷ map tree_of (d ∷ cs)) (map sign_nowhere (s ∷ ss))) (sum_of (p, ys))
sum_is t s ss d cs p [] e i q = absurd cc
sum_is t s ss d cs p (y ∷ ys) e i q =
    erased_sum p.0 (p.1 ∷ map (λ z. z.1.1) (y ∷ ys)) (map (λ z. sum_sign z.0) (y ∷ ys))
    ∙ ap (λ z. exprs.Sum nowhere (z ∷ map erased_expr (map (λ z. z.1.1) (y ∷ ys))) (map sign_nowhere (map (λ z. sum_sign z.0) (y ∷ ys)))) i
    ∙ ap (λ z. exprs.Sum nowhere (t ∷ z) (map sign_nowhere (map (λ z. sum_sign z.0) (y ∷ ys)))) (trees_alike (y ∷ ys) (s ∷ ss) (d ∷ cs) e q)
    ∙ ap (λ z. exprs.Sum nowhere (t ∷ map tree_of (d ∷ cs)) z) (signs_alike (y ∷ ys) (s ∷ ss) (d ∷ cs) e q)

abbrev sum_child_words : List SumSign → List Child → Printed
sum_child_words ss [] = none
sum_child_words ss (c ∷ cs) = operand_words 1 c <+> term_words ss cs

good_sum_case : (cs : List Child) (ss : List SumSign) → is_chain cs ss ≡ true → Prints summed (sum_child_words ss cs) (Is (exprs.Sum nowhere (map tree_of cs) (map sign_nowhere ss)))
unfolding summed
good_sum_case [] ss e = absurd cc
good_sum_case (c ∷ []) ss e = absurd cc
good_sum_case (c ∷ d ∷ cs) [] e = absurd cc
good_sum_case (c ∷ d ∷ cs) (s ∷ ss) e = s_made sum_of (λ x q. sum_is (tree_of c) s ss d cs x.0 x.1 e q.0 q.1) (s_both (child_at 1 c) (terms_spelled (s ∷ ss) (d ∷ cs)))

terms_over : (ss : List SumSign) (cs : List Child) → terms ss (map leveled (map tree cs)) ≡ term_words ss cs
unfolding terms
terms_over [] cs = refl
terms_over (s ∷ ss) [] = refl
terms_over (s ∷ ss) (c ∷ cs) = ap (λ z. sign (sum_kind s) <+> (operand_words 1 c <+> z)) (terms_over ss cs)

sum_over : (ss : List SumSign) (cs : List Child) → sum_words ss (map leveled (map tree cs)) ≡ sum_child_words ss cs
sum_over ss [] = refl
sum_over ss (c ∷ cs) = ap (λ z. operand_words 1 c <+> z) (terms_over ss cs)

sum_chain_over : (cs : List Child) (ss : List SumSign) → is_chain (map leveled (map tree cs)) ss ≡ is_chain cs ss
sum_chain_over [] ss = refl
sum_chain_over (c ∷ []) ss = refl
sum_chain_over (c ∷ d ∷ cs) ss = over (d ∷ cs) ss
  where
    over : (cs : List Child) (ss : List SumSign) → is_marked (map leveled (map tree cs)) ss ≡ is_marked cs ss
    over [] [] = refl
    over [] (s ∷ ss) = refl
    over (c ∷ cs) [] = refl
    over (c ∷ cs) (s ∷ ss) = over cs ss

good_sum : (cs : List Child) (ss : List SumSign) → Prints summed (when (is_chain (map leveled (map tree cs)) ss) (sum_words ss (map leveled (map tree cs)))) (Is (exprs.Sum nowhere (map erased_expr (map tree cs)) (map sign_nowhere ss)))
good_sum cs ss =
    same (ap (λ b. when b (sum_words ss (map leveled (map tree cs)))) (sym (sum_chain_over cs ss)))
    (same (ap (λ z. when (is_chain cs ss) z) (sym (sum_over ss cs)))
    (s_weak (λ y. subst (λ z. Is (exprs.Sum nowhere z (map sign_nowhere ss)) y) (sym (map_twice tree erased_expr cs)))
    (s_when (is_chain cs ss) (λ e. good_sum_case cs ss e))))

-- ---- comparisons

abbrev comparison_list : List Kind
comparison_list = kinds.NotEqual ∷ kinds.Less ∷ kinds.LessEqual ∷ kinds.Greater ∷ kinds.GreaterEqual ∷ kinds.LessUnsigned ∷ kinds.LessEqualUnsigned ∷ kinds.GreaterUnsigned ∷ kinds.GreaterEqualUnsigned ∷ []

comparison_word : (c : Comparison) → Prints (one_of kinds.Equal comparison_list) (sign (comparison_kind c)) (λ w. comparison w.kind ≡ c)
comparison_word comparisons.Equal = s_weak (λ w q. ap comparison q.1) (s_any quiet kinds.Equal comparison_list kinds.Equal refl)
comparison_word comparisons.Unequal = s_weak (λ w q. ap comparison q.1) (s_any quiet kinds.Equal comparison_list kinds.NotEqual refl)
comparison_word comparisons.Less = s_weak (λ w q. ap comparison q.1) (s_any quiet kinds.Equal comparison_list kinds.Less refl)
comparison_word comparisons.AtMost = s_weak (λ w q. ap comparison q.1) (s_any quiet kinds.Equal comparison_list kinds.LessEqual refl)
comparison_word comparisons.Greater = s_weak (λ w q. ap comparison q.1) (s_any quiet kinds.Equal comparison_list kinds.Greater refl)
comparison_word comparisons.AtLeast = s_weak (λ w q. ap comparison q.1) (s_any quiet kinds.Equal comparison_list kinds.GreaterEqual refl)
comparison_word comparisons.LessUnsigned = s_weak (λ w q. ap comparison q.1) (s_any quiet kinds.Equal comparison_list kinds.LessUnsigned refl)
comparison_word comparisons.AtMostUnsigned = s_weak (λ w q. ap comparison q.1) (s_any quiet kinds.Equal comparison_list kinds.LessEqualUnsigned refl)
comparison_word comparisons.GreaterUnsigned = s_weak (λ w q. ap comparison q.1) (s_any quiet kinds.Equal comparison_list kinds.GreaterUnsigned refl)
comparison_word comparisons.AtLeastUnsigned = s_weak (λ w q. ap comparison q.1) (s_any quiet kinds.Equal comparison_list kinds.GreaterEqualUnsigned refl)

abbrev IsSecond : Comparison → Expr → Option (Word × Placed) → Type 0
IsSecond c t None = ⊥
IsSecond c t (Some y) = (comparison y.0.kind ≡ c) × Is t y.1

compared_is : (c : Comparison) (t u : Expr) (x : Placed × Option (Word × Placed)) → Is t x.0 × IsSecond c u x.1 → Is (exprs.Compare nowhere c nowhere t u) (compared_of x)
compared_is c t u (p, None) q = absurd q.1
compared_is c t u (p, Some y) q =
    erased_compare p.0 (comparison y.0.kind) y.0.place p.1 y.1.1
    ∙ ap (λ z. exprs.Compare nowhere z nowhere (erased_expr p.1) (erased_expr y.1.1)) q.1.0
    ∙ ap (λ z. exprs.Compare nowhere c nowhere z (erased_expr y.1.1)) q.0 ∙ ap (λ z. exprs.Compare nowhere c nowhere t z) q.1.1

good_compare : (k : Comparison) (c d : Child) → Prints compared (operand_words 6 c <+> (sign (comparison_kind k) <+> operand_words 6 d)) (Is (exprs.Compare nowhere k nowhere (tree_of c) (tree_of d)))
unfolding compared
good_compare k c d = s_made compared_of (compared_is k (tree_of c) (tree_of d)) (s_both (child_at 6 c) (s_optional_some {Q = IsSecond k (tree_of d)} (s_both (comparison_word k) (child_at 6 d))))

-- ---- conditionals

abbrev Arm : Type 0
Arm = Branch Child

abbrev arm_words : Arm → Printed
arm_words b = branch_words (each_branch leveled (each_branch tree b))

abbrev arm_tree : Arm → Branch Expr
arm_tree b = erased_branch (each_branch tree b)

abbrev branch_with : Expr → Expr → Branch Expr
branch_with t u = record { place = nowhere; condition = t; value = u }

branch_spelled : (b : Arm) → Prints branch (arm_words b) (λ v. erased_branch v ≡ arm_tree b)
unfolding branch
branch_spelled b = s_made _ (λ x q. ap (λ z. branch_with z (erased_expr x.1.1)) q.1.0 ∙ ap (λ z. branch_with (tree_of b.condition) z) q.1.1)
    (s_both (s_word kinds.KwIf kinds.KwIf refl) (s_both (s_before kinds.KwThen (child_whole b.condition)) (s_before kinds.KwElse (child_whole b.value))))

if_is : (t : Branch Expr) (ts : List (Branch Expr)) (u : Expr) (x : Branch Expr × (List (Branch Expr) × Placed)) → erased_branch x.0 ≡ t → map erased_branch x.1.0 ≡ ts → Is u x.1.1 → Is (exprs.If nowhere (t ∷ ts) u) (x.0.place, exprs.If x.0.place (x.0 ∷ x.1.0) x.1.1.1)
if_is t ts u x i j k =
    erased_if x.0.place (x.0 ∷ x.1.0) x.1.1.1
    ∙ ap (λ z. exprs.If nowhere (z ∷ map erased_branch x.1.0) (erased_expr x.1.1.1)) i ∙ ap (λ z. exprs.If nowhere (t ∷ z) (erased_expr x.1.1.1)) j ∙ ap (λ z. exprs.If nowhere (t ∷ ts) z) k

conditional_spelled : (b : Arm) (bs : List Arm) (c : Child) → Prints (rule if_expression) (each arm_words (b ∷ bs) <+> operand_words 11 c) (Is (exprs.If nowhere (map arm_tree (b ∷ bs)) (tree_of c)))
unfolding each
conditional_spelled b bs c = same (sym (assoc (arm_words b) (each arm_words bs) (operand_words 11 c)))
    (s_made _ (λ x q. if_is (arm_tree b) (map arm_tree bs) (tree_of c) x q.0 q.1.0 q.1.1) (s_both (branch_spelled b) (s_both (s_each branch erased_branch arm_words arm_tree branch_spelled bs) (child_at 11 c))))

good_if : (bs : List Arm) (c : Child) → Prints expression (when (has_one bs) (nested (each arm_words bs <+> operand_words 11 c))) (Is (exprs.If nowhere (map arm_tree bs) (tree_of c)))
unfolding expression
good_if [] c = never _ (nested (each arm_words [] <+> operand_words 11 c)) _
good_if (b ∷ bs) c = s_first (s_deep if_expression (conditional_spelled b bs c))

-- ---- every expression

abbrev layer : Expr-F Child → Expr-F Expr
layer y = map-Expr Child Expr tree y

abbrev words_of : Expr-F Child → Leveled
words_of y = expr_form (map-Expr Expr Leveled leveled (layer y))

abbrev erased_of : Expr-F Child → Expr
erased_of y = erase_form (map-Expr Expr Expr erased_expr (layer y))

good_at : {x y : Leveled} {t u : Expr} → x ≡ y → t ≡ u → Good y u → Good x t
good_at {x} {y} {t} {u} i j g = subst (λ z. Good z t) (sym i) (subst (λ z. Good y z) (sym j) g)

abbrev if_leveled : Printed → Leveled
if_leveled x = record { height = 12; bare = x }

if_words : (p : Place) (bs : List Arm) (c : Child) → words_of (If p bs c) ≡ if_leveled (when (has_one bs) (nested (each arm_words bs <+> operand_words 11 c)))
if_words p bs c =
    ap (λ z. expr_form (map-Expr Expr Leveled leveled z)) (map_if tree p bs c) ∙ ap expr_form (map_if leveled p (map (each_branch tree) bs) c.0)
    ∙ ap (λ b. if_leveled (when b (nested (each branch_words (map (each_branch leveled) (map (each_branch tree) bs)) <+> operand_words 11 c)))) (one_over bs)
    ∙ ap (λ z. if_leveled (when (has_one bs) (nested (z <+> operand_words 11 c)))) (each_over (each_branch leveled) branch_words (map (each_branch tree) bs) ∙ each_over (each_branch tree) (λ b. branch_words (each_branch leveled b)) bs)
  where
    one_over : (bs : List Arm) → has_one (map (each_branch leveled) (map (each_branch tree) bs)) ≡ has_one bs
    one_over [] = refl
    one_over (b ∷ bs) = refl

if_tree : (p : Place) (bs : List Arm) (c : Child) → erased_of (If p bs c) ≡ exprs.If nowhere (map arm_tree bs) (tree_of c)
if_tree p bs c =
    ap (λ z. erase_form (map-Expr Expr Expr erased_expr z)) (map_if tree p bs c) ∙ ap erase_form (map_if erased_expr p (map (each_branch tree) bs) c.0)
    ∙ ap (λ z. exprs.If nowhere z (tree_of c)) (map_twice (each_branch erased_expr) branch_nowhere (map (each_branch tree) bs) ∙ map_twice (each_branch tree) erased_branch bs)

abbrev selected_leveled : Printed → Leveled
selected_leveled x = record { height = 0; bare = x }

selected_words : (p : Place) (q : Primary Child) (ss : List Pick) → words_of (Selected p q ss) ≡ selected_leveled (when (is_selected (primary_tree q) (map pick_tree ss)) (primary_words (primary_piece q) <+> each (λ s. selection_words (pick_piece s)) ss))
selected_words p q ss =
    ap (λ z. expr_form (map-Expr Expr Leveled leveled z)) (map_selected tree p q ss) ∙ ap expr_form (map_selected leveled p (each_primary tree q) (map (each_selection tree) ss))
    ∙ ap (λ b. selected_leveled (when b (primary_words (primary_piece q) <+> each selection_words (map (each_selection leveled) (map (each_selection tree) ss))))) (selected_over q ss)
    ∙ ap (λ z. selected_leveled (when (is_selected (primary_tree q) (map pick_tree ss)) (primary_words (primary_piece q) <+> z))) (each_over (each_selection leveled) selection_words (map (each_selection tree) ss) ∙ each_over (each_selection tree) (λ s. selection_words (each_selection leveled s)) ss)
  where
    some_over : (ss : List Pick) → has_one (map (each_selection leveled) (map (each_selection tree) ss)) ≡ has_one (map pick_tree ss)
    some_over [] = refl
    some_over (s ∷ ss) = refl

    selected_over : (q : Primary Child) (ss : List Pick) → is_selected (primary_piece q) (map (each_selection leveled) (map (each_selection tree) ss)) ≡ is_selected (primary_tree q) (map pick_tree ss)
    selected_over (Truth b) ss = refl
    selected_over (Number n) ss = refl
    selected_over (BitsLiteral n w) ss = refl
    selected_over (Name n b) ss = refl
    selected_over (Apply n cs) ss = refl
    selected_over (OnBits f cs) ss = refl
    selected_over (Old i) ss = refl
    selected_over (Grouped c) ss = some_over ss

selected_tree : (p : Place) (q : Primary Child) (ss : List Pick) → erased_of (Selected p q ss) ≡ exprs.Selected nowhere (primary_tree q) (map pick_tree ss)
selected_tree p q ss =
    ap (λ z. erase_form (map-Expr Expr Expr erased_expr z)) (map_selected tree p q ss) ∙ ap erase_form (map_selected erased_expr p (each_primary tree q) (map (each_selection tree) ss))
    ∙ ap (λ z. exprs.Selected nowhere (primary_tree q) z) (map_twice (each_selection erased_expr) selection_nowhere (map (each_selection tree) ss) ∙ map_twice (each_selection tree) erased_selection ss)

layer_good : (y : Expr-F Child) → Good (words_of y) (erased_of y)
unfolding product concatenated bit_and bit_xor bit_or conjunction disjunction implication equivalence
layer_good (If p bs c) = good_at (if_words p bs c) (if_tree p bs c) (good_if bs c)
layer_good (Iff p cs ms) = good_chain exprs.Iff erased_iff 10 kinds.Iff cs ms
layer_good (Implies p cs ms) = good_chain exprs.Implies erased_implies 9 kinds.Implies cs ms
layer_good (Or p cs ms) = good_chain exprs.Or erased_or 8 kinds.Or cs ms
layer_good (And p cs ms) = good_chain exprs.And erased_and 7 kinds.And cs ms
layer_good (Compare p k m c d) = good_compare k c d
layer_good (BitOr p cs ms) = good_chain exprs.BitOr erased_bit_or 5 kinds.Bar cs ms
layer_good (BitXor p cs ms) = good_chain exprs.BitXor erased_bit_xor 4 kinds.Caret cs ms
layer_good (BitAnd p cs ms) = good_chain exprs.BitAnd erased_bit_and 3 kinds.Ampersand cs ms
layer_good (Concat p cs ms) = good_chain exprs.Concat erased_concat 2 kinds.Concat cs ms
layer_good (Sum p cs ss) = good_sum cs ss
layer_good (Product p cs ms) = good_chain exprs.Product erased_product 0 kinds.Star cs ms
layer_good (Unary p o c) = good_unary o c
layer_good (Selected p q ss) = good_at (selected_words p q ss) (selected_tree p q ss) (s_when (is_selected (primary_tree q) (map pick_tree ss)) (good_selected q ss))

step : (y : Expr-F Child) → Holds (roll-Expr (layer y))
step y = good_at (fold-roll-Expr Leveled expr_form (layer y)) (fold-roll-Expr Expr erase_form (layer y)) (layer_good y)

holds : (e : Expr) → Holds e
holds = ind-Expr Holds (λ x y is. subst (λ z. Holds (roll-Expr z)) is (step y))

pub expr_spelled : (e : Expr) → Prints expr (whole (leveled e)) (IsExpr (erased_expr e))
expr_spelled e = s_whole (leveled e) (erased_expr e) (holds e)
