-- The text of each form of expression.
use Rattle.std.proofs.Common.{◌≡◌, ◌≤◌, ◌<◌, ℕ, Bool, true, false, List, [], ◌∷◌, ◌++◌, length, drop, map, ◌+◌, if◌then◌else◌, refl, sym, ap, ◌∙◌, arith}
use Rattle.std.specs.Prelude.{get_or}
use Rattle.std.proofs.lemmas.List.{drop_all}
use Rattle.std.proofs.lemmas.Bool.{le-leb, lt-leb}
use Rattle.uc_lexer.specs.declared.place.Place.{Place}
use Rattle.uc_grammar.specs.declared.word.Kind.{Kind}
use Rattle.uc_grammar.specs.declared.word.Kind.TheVariants as kinds
use Rattle.uc_syntax.specs.declared.expression.UnaryOperator.{UnaryOperator}
use Rattle.uc_syntax.specs.declared.expression.Comparison.{Comparison}
use Rattle.uc_syntax.specs.declared.expression.SumSign.{SumSign}
use Rattle.uc_syntax.specs.declared.expression.BitFunction.{BitFunction}
use Rattle.uc_syntax.specs.declared.expression.Branch.{Branch}
use Rattle.uc_syntax.specs.declared.expression.Selection.{Selection}
use Rattle.uc_syntax.specs.declared.expression.Selection.TheVariants as selections
use Rattle.uc_syntax.specs.declared.expression.Primary.{Primary}
use Rattle.uc_syntax.specs.declared.expression.Primary.TheVariants as primaries
use Rattle.uc_syntax.specs.declared.expression.Expr.{Expr}
use Rattle.uc_syntax.specs.declared.expression.Expr.TheOpen.Expr-F.{If, Iff, Implies, Or, And, Compare, BitOr, BitXor, BitAnd, Concat, Sum, Product, Unary, Selected}
use Rattle.uc_syntax.specs.declared.expression.Expr.TheViews as exprs
use Rattle.uc_syntax.specs.declared.expression.Expr.TheViews.{roll-Expr}
use Rattle.uc_syntax.specs.declared.expression.Expr.TheFolds.{fold-roll-Expr}
use Rattle.uc_print_laws.specs.Piece.{fixed}
use Rattle.uc_print_laws.specs.Printed.{Printed, each, joined, in_parens}
use Rattle.uc_print_laws.specs.Expressions.{Leveled, at, chain, terms, sum_kind, sum_words, comparison_kind, unary_kind, branch_words, selection_words, each_branch, each_selection, expr_form, leveled, printed_expr}
use Rattle.uc_print_laws.proofs.Maps.{each_over, joined_over}
use Rattle.uc_print_laws.proofs.ExpressionEquations.{map_if, map_selected}
use Rattle.uc_print_laws.specs.Text.{name_text, function_text, kind_text, with_word, written}
use Rattle.uc_print_laws.proofs.Written.{written_both, drop_more}
use Rattle.uc_printer.specs.PrintExpressionsParts.{operand, shown_branch, shown_primary, shown_selection, truth_kind}

-- ---- operands

pub low_text : (names : List (List ℕ)) (out : List ℕ) (most : ℕ) (e : Expr) → (leveled e).height ≤ most → written names out (operand most e).words ≡ written names out (printed_expr e).words
low_text names out most e h = ap (λ b. written names out (if b then (leveled e).bare else in_parens (leveled e).bare).words) (le-leb (leveled e).height most h)

pub parens_text : (names : List (List ℕ)) (out : List ℕ) (most : ℕ) (e : Expr) → most < (leveled e).height → written names out (operand most e).words
    ≡ with_word (written names (with_word out (kind_text kinds.LeftParen)) (printed_expr e).words) (kind_text kinds.RightParen)
parens_text names out most e h =
    ap (λ b. written names out (if b then (leveled e).bare else in_parens (leveled e).bare).words) (lt-leb (leveled e).height most h)
    ∙ written_both names (with_word out (kind_text kinds.LeftParen)) (printed_expr e).words (fixed kinds.RightParen ∷ [])

-- ---- chains

chain_text : (names : List (List ℕ)) (out : List ℕ) (below : ℕ) (k : Kind) (es : List Expr) (ms : List Place) → written names out (chain below k (map leveled es) ms).bare.words ≡ written names out (joined k (operand below) es).words
chain_text names out below k es ms = ap (λ (x : Printed). written names out x.words) (joined_over k leveled (at below) es)

pub iff_text : (names : List (List ℕ)) (out : List ℕ) (p : Place) (es : List Expr) (ms : List Place) → written names out (printed_expr (exprs.Iff p es ms)).words ≡ written names out (joined kinds.Iff (operand 10) es).words
unfolding roll-Expr denote.Hole.Carrier.roll
iff_text names out p es ms = ap (λ (x : Leveled). written names out x.bare.words) (fold-roll-Expr Leveled expr_form (Iff p es ms)) ∙ chain_text names out 10 kinds.Iff es ms

pub implies_text : (names : List (List ℕ)) (out : List ℕ) (p : Place) (es : List Expr) (ms : List Place) → written names out (printed_expr (exprs.Implies p es ms)).words ≡ written names out (joined kinds.Implies (operand 9) es).words
unfolding roll-Expr denote.Hole.Carrier.roll
implies_text names out p es ms = ap (λ (x : Leveled). written names out x.bare.words) (fold-roll-Expr Leveled expr_form (Implies p es ms)) ∙ chain_text names out 9 kinds.Implies es ms

pub or_text : (names : List (List ℕ)) (out : List ℕ) (p : Place) (es : List Expr) (ms : List Place) → written names out (printed_expr (exprs.Or p es ms)).words ≡ written names out (joined kinds.Or (operand 8) es).words
unfolding roll-Expr denote.Hole.Carrier.roll
or_text names out p es ms = ap (λ (x : Leveled). written names out x.bare.words) (fold-roll-Expr Leveled expr_form (Or p es ms)) ∙ chain_text names out 8 kinds.Or es ms

pub and_text : (names : List (List ℕ)) (out : List ℕ) (p : Place) (es : List Expr) (ms : List Place) → written names out (printed_expr (exprs.And p es ms)).words ≡ written names out (joined kinds.And (operand 7) es).words
unfolding roll-Expr denote.Hole.Carrier.roll
and_text names out p es ms = ap (λ (x : Leveled). written names out x.bare.words) (fold-roll-Expr Leveled expr_form (And p es ms)) ∙ chain_text names out 7 kinds.And es ms

pub bit_or_text : (names : List (List ℕ)) (out : List ℕ) (p : Place) (es : List Expr) (ms : List Place) → written names out (printed_expr (exprs.BitOr p es ms)).words ≡ written names out (joined kinds.Bar (operand 5) es).words
unfolding roll-Expr denote.Hole.Carrier.roll
bit_or_text names out p es ms = ap (λ (x : Leveled). written names out x.bare.words) (fold-roll-Expr Leveled expr_form (BitOr p es ms)) ∙ chain_text names out 5 kinds.Bar es ms

pub bit_xor_text : (names : List (List ℕ)) (out : List ℕ) (p : Place) (es : List Expr) (ms : List Place) → written names out (printed_expr (exprs.BitXor p es ms)).words ≡ written names out (joined kinds.Caret (operand 4) es).words
unfolding roll-Expr denote.Hole.Carrier.roll
bit_xor_text names out p es ms = ap (λ (x : Leveled). written names out x.bare.words) (fold-roll-Expr Leveled expr_form (BitXor p es ms)) ∙ chain_text names out 4 kinds.Caret es ms

pub bit_and_text : (names : List (List ℕ)) (out : List ℕ) (p : Place) (es : List Expr) (ms : List Place) → written names out (printed_expr (exprs.BitAnd p es ms)).words ≡ written names out (joined kinds.Ampersand (operand 3) es).words
unfolding roll-Expr denote.Hole.Carrier.roll
bit_and_text names out p es ms = ap (λ (x : Leveled). written names out x.bare.words) (fold-roll-Expr Leveled expr_form (BitAnd p es ms)) ∙ chain_text names out 3 kinds.Ampersand es ms

pub concat_text : (names : List (List ℕ)) (out : List ℕ) (p : Place) (es : List Expr) (ms : List Place) → written names out (printed_expr (exprs.Concat p es ms)).words ≡ written names out (joined kinds.Concat (operand 2) es).words
unfolding roll-Expr denote.Hole.Carrier.roll
concat_text names out p es ms = ap (λ (x : Leveled). written names out x.bare.words) (fold-roll-Expr Leveled expr_form (Concat p es ms)) ∙ chain_text names out 2 kinds.Concat es ms

pub product_text : (names : List (List ℕ)) (out : List ℕ) (p : Place) (es : List Expr) (ms : List Place) → written names out (printed_expr (exprs.Product p es ms)).words ≡ written names out (joined kinds.Star (operand 0) es).words
unfolding roll-Expr denote.Hole.Carrier.roll
product_text names out p es ms = ap (λ (x : Leveled). written names out x.bare.words) (fold-roll-Expr Leveled expr_form (Product p es ms)) ∙ chain_text names out 0 kinds.Star es ms

pub sum_text : (names : List (List ℕ)) (out : List ℕ) (p : Place) (es : List Expr) (ss : List SumSign) → written names out (printed_expr (exprs.Sum p es ss)).words ≡ written names out (sum_words ss (map leveled es)).words
unfolding roll-Expr denote.Hole.Carrier.roll
sum_text names out p es ss = ap (λ (x : Leveled). written names out x.bare.words) (fold-roll-Expr Leveled expr_form (Sum p es ss))

-- ---- the other forms

pub if_text : (names : List (List ℕ)) (out : List ℕ) (p : Place) (bs : List (Branch Expr)) (z : Expr) → written names out (printed_expr (exprs.If p bs z)).words ≡ written names (written names out (each shown_branch bs).words) (operand 11 z).words
unfolding roll-Expr denote.Hole.Carrier.roll
if_text names out p bs z =
    ap (λ (x : Leveled). written names out x.bare.words) (fold-roll-Expr Leveled expr_form (If p bs z) ∙ ap expr_form (map_if leveled p bs z))
    ∙ ap (λ (x : Printed). written names out (x.words ++ (operand 11 z).words)) (each_over (each_branch leveled) branch_words bs)
    ∙ written_both names out (each shown_branch bs).words (operand 11 z).words

pub compare_text : (names : List (List ℕ)) (out : List ℕ) (p : Place) (c : Comparison) (m : Place) (a b : Expr) → written names out (printed_expr (exprs.Compare p c m a b)).words
    ≡ written names (with_word (written names out (operand 6 a).words) (kind_text (comparison_kind c))) (operand 6 b).words
unfolding roll-Expr denote.Hole.Carrier.roll
compare_text names out p c m a b =
    ap (λ (x : Leveled). written names out x.bare.words) (fold-roll-Expr Leveled expr_form (Compare p c m a b))
    ∙ written_both names out (operand 6 a).words (fixed (comparison_kind c) ∷ (operand 6 b).words)

pub unary_text : (names : List (List ℕ)) (out : List ℕ) (p : Place) (o : UnaryOperator) (e : Expr) → written names out (printed_expr (exprs.Unary p o e)).words ≡ written names (with_word out (kind_text (unary_kind o))) (operand 0 e).words
unfolding roll-Expr denote.Hole.Carrier.roll
unary_text names out p o e = ap (λ (x : Leveled). written names out x.bare.words) (fold-roll-Expr Leveled expr_form (Unary p o e))

pub selected_text : (names : List (List ℕ)) (out : List ℕ) (p : Place) (q : Primary Expr) (ss : List (Selection Expr)) → written names out (printed_expr (exprs.Selected p q ss)).words
    ≡ written names (written names out (shown_primary q).words) (each shown_selection ss).words
unfolding roll-Expr denote.Hole.Carrier.roll
selected_text names out p q ss =
    ap (λ (x : Leveled). written names out x.bare.words) (fold-roll-Expr Leveled expr_form (Selected p q ss) ∙ ap expr_form (map_selected leveled p q ss))
    ∙ ap (λ (x : Printed). written names out ((shown_primary q).words ++ x.words)) (each_over (each_selection leveled) selection_words ss)
    ∙ written_both names out (shown_primary q).words (each shown_selection ss).words

-- ---- primaries

pub truth_text : (names : List (List ℕ)) (out : List ℕ) (b : Bool) → written names out (shown_primary (primaries.Truth b)).words ≡ with_word out (kind_text (truth_kind b))
truth_text names out true = refl
truth_text names out false = refl

-- what stands in parentheses behind a first word
behind_word : (names : List (List ℕ)) (out : List ℕ) (x : Printed) → written names out (in_parens x).words ≡ with_word (written names (with_word out (kind_text kinds.LeftParen)) x.words) (kind_text kinds.RightParen)
behind_word names out x = written_both names (with_word out (kind_text kinds.LeftParen)) x.words (fixed kinds.RightParen ∷ [])

arguments_text : (names : List (List ℕ)) (out : List ℕ) (es : List Expr) → written names out (in_parens (joined kinds.Comma (λ (x : Leveled). x.bare) (map leveled es))).words
    ≡ with_word (written names (with_word out (kind_text kinds.LeftParen)) (joined kinds.Comma printed_expr es).words) (kind_text kinds.RightParen)
arguments_text names out es =
    ap (λ (x : Printed). written names out (in_parens x).words) (joined_over kinds.Comma leveled (λ (x : Leveled). x.bare) es) ∙ behind_word names out (joined kinds.Comma printed_expr es)

pub apply_text : (names : List (List ℕ)) (out : List ℕ) (n : ℕ) (es : List Expr) → written names out (shown_primary (primaries.Apply n es)).words
    ≡ with_word (written names (with_word (with_word out (name_text names n)) (kind_text kinds.LeftParen)) (joined kinds.Comma printed_expr es).words) (kind_text kinds.RightParen)
apply_text names out n es = arguments_text names (with_word out (name_text names n)) es

pub on_bits_text : (names : List (List ℕ)) (out : List ℕ) (f : BitFunction) (es : List Expr) → written names out (shown_primary (primaries.OnBits f es)).words
    ≡ with_word (written names (with_word (with_word out (kind_text (kinds.OnBits f 0))) (kind_text kinds.LeftParen)) (joined kinds.Comma printed_expr es).words) (kind_text kinds.RightParen)
on_bits_text names out f es = arguments_text names (with_word out (function_text f)) es

pub grouped_text : (names : List (List ℕ)) (out : List ℕ) (e : Expr) → written names out (shown_primary (primaries.Grouped e)).words
    ≡ with_word (written names (with_word out (kind_text kinds.LeftParen)) (printed_expr e).words) (kind_text kinds.RightParen)
grouped_text names out e = behind_word names out (printed_expr e)

-- ---- branches and selections

pub branch_text : (names : List (List ℕ)) (out : List ℕ) (b : Branch Expr) → written names out (shown_branch b).words
    ≡ with_word (written names (with_word (written names (with_word out (kind_text kinds.KwIf)) (printed_expr b.condition).words) (kind_text kinds.KwThen)) (printed_expr b.value).words) (kind_text kinds.KwElse)
branch_text names out b =
    let o = with_word out (kind_text kinds.KwIf) in
    written_both names o ((printed_expr b.condition).words ++ fixed kinds.KwThen ∷ []) ((printed_expr b.value).words ++ fixed kinds.KwElse ∷ [])
    ∙ ap (λ z. written names z ((printed_expr b.value).words ++ fixed kinds.KwElse ∷ [])) (written_both names o (printed_expr b.condition).words (fixed kinds.KwThen ∷ []))
    ∙ written_both names (with_word (written names o (printed_expr b.condition).words) (kind_text kinds.KwThen)) (printed_expr b.value).words (fixed kinds.KwElse ∷ [])

pub element_text : (names : List (List ℕ)) (out : List ℕ) (p : Place) (e : Expr) → written names out (shown_selection (selections.Element p e)).words
    ≡ with_word (written names (with_word out (kind_text kinds.LeftBracket)) (printed_expr e).words) (kind_text kinds.RightBracket)
element_text names out p e = written_both names (with_word out (kind_text kinds.LeftBracket)) (printed_expr e).words (fixed kinds.RightBracket ∷ [])

pub update_text : (names : List (List ℕ)) (out : List ℕ) (p : Place) (e v : Expr) → written names out (shown_selection (selections.Update p e v)).words
    ≡ with_word (written names (with_word (written names (with_word out (kind_text kinds.LeftBracket)) (printed_expr e).words) (kind_text kinds.Arrow)) (printed_expr v).words) (kind_text kinds.RightBracket)
update_text names out p e v =
    let o = with_word out (kind_text kinds.LeftBracket) in
    written_both names o (printed_expr e).words (fixed kinds.Arrow ∷ ((printed_expr v).words ++ fixed kinds.RightBracket ∷ []))
    ∙ written_both names (with_word (written names o (printed_expr e).words) (kind_text kinds.Arrow)) (printed_expr v).words (fixed kinds.RightBracket ∷ [])

-- ---- sums

pub sum_begin : (names : List (List ℕ)) (ss : List SumSign) (x : Expr) (xs all : List Expr) (out now : List ℕ) → all ≡ x ∷ xs → now ≡ written names out (operand 1 x).words
    → written names now (terms ss (map leveled xs)).words ≡ written names out (sum_words ss (map leveled all)).words
sum_begin names ss x xs all out now i put =
    ap (λ z. written names z (terms ss (map leveled xs)).words) put ∙ sym (written_both names out (operand 1 x).words (terms ss (map leveled xs)).words) ∙ ap (λ z. written names out (sum_words ss (map leveled z)).words) (sym i)

pub sum_more : (names : List (List ℕ)) (k : ℕ) (signs ss : List SumSign) (s : SumSign) (xs : List Expr) (x : Expr) (out now total : List ℕ) → k < length xs → x ≡ get_or xs k x → signs ≡ s ∷ ss → written names out (terms signs (map leveled (drop k xs))).words ≡ total
    → now ≡ written names (with_word out (kind_text (sum_kind s))) (operand 1 x).words → written names now (terms ss (map leveled (drop (k + 1) xs))).words ≡ total
unfolding terms
sum_more names k signs ss s xs x out now total h e i so_far put =
    ap (λ z. written names z (terms ss (map leveled (drop (k + 1) xs))).words) put ∙ sym (written_both names (with_word out (kind_text (sum_kind s))) (operand 1 x).words (terms ss (map leveled (drop (k + 1) xs))).words)
    ∙ ap (λ z. written names out (terms z (map leveled (x ∷ drop (k + 1) xs))).words) (sym i) ∙ ap (λ z. written names out (terms signs (map leveled z)).words) (sym (drop_more xs k x h e)) ∙ so_far

-- where no sign is left
pub sum_stops : (names : List (List ℕ)) (signs : List SumSign) (xs : List Expr) (out total : List ℕ) → length signs ≡ 0 → written names out (terms signs (map leveled xs)).words ≡ total → out ≡ total
unfolding terms
sum_stops names [] xs out total h so_far = so_far
sum_stops names (s ∷ ss) xs out total h so_far = absurd (omega arith)

pub sum_end : (names : List (List ℕ)) (k : ℕ) (signs : List SumSign) (xs : List Expr) (out total : List ℕ) → length xs ≤ k → written names out (terms signs (map leveled (drop k xs))).words ≡ total → out ≡ total
unfolding terms
sum_end names k [] xs out total h so_far = so_far
sum_end names k (s ∷ ss) xs out total h so_far = ap (λ z. written names out (terms (s ∷ ss) (map leveled z)).words) (sym (drop_all k xs h)) ∙ so_far
