-- The text of each form of statement.
use Rattle.std.specs.Prelude.{get_or}
use Rattle.std.proofs.lemmas.List.{drop_all}
use Rattle.std.proofs.Common.{◌≡◌, ◌<◌, ◌≤◌, ◌+◌, ℕ, Bool, true, false, List, [], ◌∷◌, ◌++◌, length, drop, map, Option, Some, None, refl, sym, ap, ◌∙◌, append_assoc, arith}
use Rattle.std.specs.Option.{option_map}
use Rattle.uc_lexer.specs.declared.place.Place.{Place}
use Rattle.uc_grammar.specs.declared.word.Kind.TheVariants as kinds
use Rattle.uc_syntax.specs.declared.place.Identifier.{Identifier}
use Rattle.uc_syntax.specs.declared.type_expression.TypeExpr.{TypeExpr}
use Rattle.uc_syntax.specs.declared.expression.Expr.{Expr}
use Rattle.uc_syntax.specs.declared.statement.Arm.{Arm}
use Rattle.uc_syntax.specs.declared.statement.Target.{Target}
use Rattle.uc_syntax.specs.declared.statement.TargetPart.TheVariants as target_parts
use Rattle.uc_syntax.specs.declared.statement.RangeBound.{RangeBound}
use Rattle.uc_syntax.specs.declared.statement.Stmt.{Stmt}
use Rattle.uc_syntax.specs.declared.statement.Stmt.TheOpen.Stmt-F.{Local, Skip, Block, Assert, Assume, Havoc, Assign, If, Case, For, Call, Next}
use Rattle.uc_syntax.specs.declared.statement.Stmt.TheVariants as stmts
use Rattle.uc_syntax.specs.declared.statement.Stmt.TheViews as stmt_views
use Rattle.uc_syntax.specs.declared.statement.Stmt.TheViews.{roll-Stmt}
use Rattle.uc_syntax.specs.declared.statement.Stmt.TheFolds.{fold-roll-Stmt}
use Rattle.uc_print_laws.specs.Piece.{name, fixed}
use Rattle.uc_print_laws.specs.Printed.{Printed, piece, sign, identifier, ◌<+>◌, each, joined, listed, in_parens}
use Rattle.uc_print_laws.specs.Types.{printed_type}
use Rattle.uc_print_laws.specs.Expressions.{printed_expr, enclosed, prime}
use Rattle.uc_print_laws.specs.Statements.{part_words, target_words, bound_words, labelled, else_words, default_words, further_words, case_words, variable_words, called_words, each_arm, stmt_form, printed_stmt}
use Rattle.uc_print_laws.specs.Declarations.{code_words}
use Rattle.uc_print_laws.proofs.Maps.{each_over}
use Rattle.uc_print_laws.proofs.StatementLaw.{map_if, map_case}
use Rattle.uc_print_laws.specs.Text.{name_text, kind_text, with_word, written}
use Rattle.uc_print_laws.proofs.Written.{written_both, drop_more}
use Rattle.uc_printer.specs.PrintStatementsParts.{arm, further, guarded, arms_words, opened, loop_head}

-- ---- targets

pub element_text : (names : List (List ℕ)) (out : List ℕ) (p : Place) (e : Expr) → written names out (part_words (target_parts.Element p e)).words
    ≡ with_word (written names (with_word out (kind_text kinds.LeftBracket)) (printed_expr e).words) (kind_text kinds.RightBracket)
element_text names out p e = written_both names (with_word out (kind_text kinds.LeftBracket)) (printed_expr e).words (fixed kinds.RightBracket ∷ [])

pub target_text : (names : List (List ℕ)) (out : List ℕ) (t : Target) → written names out (target_words t).words ≡ written names (written names out (piece (name t.name) <+> prime t.is_primed).words) (each part_words t.parts).words
target_text names out t = written_both names (with_word out (name_text names t.name)) (prime t.is_primed).words (each part_words t.parts).words

pub assignment_text : (names : List (List ℕ)) (out : List ℕ) (ts : List Target) (es : List Expr) → written names out (listed target_words ts <+> (sign kinds.Assign <+> (listed printed_expr es <+> sign kinds.Semicolon))).words
    ≡ with_word (written names (with_word (written names out (joined kinds.Comma target_words ts).words) (kind_text kinds.Assign)) (joined kinds.Comma printed_expr es).words) (kind_text kinds.Semicolon)
assignment_text names out ts es =
    written_both names out (joined kinds.Comma target_words ts).words (fixed kinds.Assign ∷ ((joined kinds.Comma printed_expr es).words ++ fixed kinds.Semicolon ∷ []))
    ∙ written_both names (with_word (written names out (joined kinds.Comma target_words ts).words) (kind_text kinds.Assign)) (joined kinds.Comma printed_expr es).words (fixed kinds.Semicolon ∷ [])

-- what stands in parentheses, before one more word
pub parens_and : (names : List (List ℕ)) (out : List ℕ) (x y : Printed) → written names out (in_parens x <+> y).words ≡ written names (with_word (written names (with_word out (kind_text kinds.LeftParen)) x.words) (kind_text kinds.RightParen)) y.words
parens_and names out x y =
    let o = with_word out (kind_text kinds.LeftParen) in
    written_both names o (x.words ++ fixed kinds.RightParen ∷ []) y.words ∙ ap (λ z. written names z y.words) (written_both names o x.words (fixed kinds.RightParen ∷ []))

pub called_none : (names : List (List ℕ)) (out : List ℕ) (ts : List Target) → length ts ≡ 0 → out ≡ written names out (called_words ts).words
called_none names out [] h = refl
called_none names out (t ∷ ts) h = absurd (omega arith)

pub called_text : (names : List (List ℕ)) (out : List ℕ) (ts : List Target) → 0 < length ts → written names out (called_words ts).words
    ≡ with_word (with_word (written names (with_word out (kind_text kinds.LeftParen)) (joined kinds.Comma target_words ts).words) (kind_text kinds.RightParen)) (kind_text kinds.Assign)
called_text names out [] h = absurd (omega arith)
called_text names out (t ∷ ts) h = parens_and names out (joined kinds.Comma target_words (t ∷ ts)) (sign kinds.Assign)

pub call_text : (names : List (List ℕ)) (out : List ℕ) (ts : List Target) (i : Identifier) (es : List Expr) → written names out (called_words ts <+> (identifier i <+> (enclosed printed_expr es <+> sign kinds.Semicolon))).words
    ≡ with_word (with_word (written names (with_word (with_word (written names out (called_words ts).words) (name_text names i.name)) (kind_text kinds.LeftParen)) (joined kinds.Comma printed_expr es).words) (kind_text kinds.RightParen)) (kind_text kinds.Semicolon)
call_text names out ts i es =
    written_both names out (called_words ts).words (identifier i <+> (enclosed printed_expr es <+> sign kinds.Semicolon)).words
    ∙ parens_and names (with_word (written names out (called_words ts).words) (name_text names i.name)) (joined kinds.Comma printed_expr es) (sign kinds.Semicolon)

-- ---- other parts

pub variable_text : (names : List (List ℕ)) (out : List ℕ) (i : Identifier) (t : TypeExpr) → written names out (variable_words i (Some t)).words
    ≡ with_word (written names (with_word (with_word (with_word out (kind_text kinds.LeftParen)) (name_text names i.name)) (kind_text kinds.Colon)) (printed_type t).words) (kind_text kinds.RightParen)
variable_text names out i t = written_both names (with_word (with_word (with_word out (kind_text kinds.LeftParen)) (name_text names i.name)) (kind_text kinds.Colon)) (printed_type t).words (fixed kinds.RightParen ∷ [])

pub ended_text : (names : List (List ℕ)) (out : List ℕ) (e : Expr) → written names out (printed_expr e <+> sign kinds.Semicolon).words ≡ with_word (written names out (printed_expr e).words) (kind_text kinds.Semicolon)
ended_text names out e = written_both names out (printed_expr e).words (fixed kinds.Semicolon ∷ [])

pub typed_names_text : (names : List (List ℕ)) (out : List ℕ) (is : List Identifier) (t : TypeExpr) → written names out (listed identifier is <+> (sign kinds.Colon <+> (printed_type t <+> sign kinds.Semicolon))).words
    ≡ with_word (written names (with_word (written names out (joined kinds.Comma identifier is).words) (kind_text kinds.Colon)) (printed_type t).words) (kind_text kinds.Semicolon)
typed_names_text names out is t =
    written_both names out (joined kinds.Comma identifier is).words (fixed kinds.Colon ∷ ((printed_type t).words ++ fixed kinds.Semicolon ∷ []))
    ∙ written_both names (with_word (written names out (joined kinds.Comma identifier is).words) (kind_text kinds.Colon)) (printed_type t).words (fixed kinds.Semicolon ∷ [])

pub loop_head_text : (names : List (List ℕ)) (out : List ℕ) (i : Identifier) (t : Option TypeExpr) (a b : RangeBound) → written names out (loop_head i t a b).words
    ≡ with_word (written names (with_word (written names (with_word (with_word (with_word (written names (with_word out (kind_text kinds.KwFor)) (variable_words i t).words) (kind_text kinds.KwIn)) (kind_text (kinds.Range 0))) (kind_text kinds.LeftParen)) (bound_words a).words) (kind_text kinds.Comma)) (bound_words b).words) (kind_text kinds.RightParen)
loop_head_text names out i t a b =
    let bounds = bound_words a <+> (sign kinds.Comma <+> bound_words b) in
    let o = with_word (with_word (with_word (written names (with_word out (kind_text kinds.KwFor)) (variable_words i t).words) (kind_text kinds.KwIn)) (kind_text (kinds.Range 0))) (kind_text kinds.LeftParen) in
    written_both names (with_word out (kind_text kinds.KwFor)) (variable_words i t).words (sign kinds.KwIn <+> (sign (kinds.Range 0) <+> in_parens bounds)).words
    ∙ written_both names o bounds.words (fixed kinds.RightParen ∷ [])
    ∙ ap (λ z. with_word z (kind_text kinds.RightParen)) (written_both names o (bound_words a).words (fixed kinds.Comma ∷ (bound_words b).words))

-- ---- blocks and arms

pub code_text : (names : List (List ℕ)) (out : List ℕ) (ss : List Stmt) → written names out (code_words ss).words ≡ with_word (written names (with_word out (kind_text kinds.LeftBrace)) (each printed_stmt ss).words) (kind_text kinds.RightBrace)
code_text names out ss =
    ap (λ (x : Printed). written names (with_word out (kind_text kinds.LeftBrace)) (x.words ++ fixed kinds.RightBrace ∷ [])) (each_over printed_stmt (λ x. x) ss)
    ∙ written_both names (with_word out (kind_text kinds.LeftBrace)) (each printed_stmt ss).words (fixed kinds.RightBrace ∷ [])

pub arm_text : (names : List (List ℕ)) (out : List ℕ) (a : Arm Stmt) → written names out (arm a).words
    ≡ with_word (written names (with_word (written names out (printed_expr a.condition).words) (kind_text kinds.LeftBrace)) (each printed_stmt a.body).words) (kind_text kinds.RightBrace)
arm_text names out a = written_both names out (printed_expr a.condition).words (code_words a.body).words ∙ code_text names (written names out (printed_expr a.condition).words) a.body

pub guarded_text : (names : List (List ℕ)) (out : List ℕ) (a : Arm Stmt) → written names out (guarded a).words
    ≡ with_word (written names (with_word (with_word (written names out (printed_expr a.condition).words) (kind_text kinds.Colon)) (kind_text kinds.LeftBrace)) (each printed_stmt a.body).words) (kind_text kinds.RightBrace)
guarded_text names out a =
    written_both names out (printed_expr a.condition).words (fixed kinds.Colon ∷ (code_words a.body).words)
    ∙ code_text names (with_word (written names out (printed_expr a.condition).words) (kind_text kinds.Colon)) a.body

pub arms_more : (names : List (List ℕ)) (is_first : Bool) (k : ℕ) (arms : List (Arm Stmt)) (a : Arm Stmt) (out now total : List ℕ) → k < length arms → a ≡ get_or arms k a → written names out (arms_words is_first (drop k arms)).words ≡ total
    → now ≡ written names (opened is_first out) (arm a).words → written names now (arms_words false (drop (k + 1) arms)).words ≡ total
unfolding each
arms_more names is_first k arms a out now total h e so_far put =
    ap (λ z. written names z (arms_words false (drop (k + 1) arms)).words) put ∙ more is_first (drop (k + 1) arms) ∙ ap (λ z. written names out (arms_words is_first z).words) (sym (drop_more arms k a h e)) ∙ so_far
  where
    all_further : (rest : List (Arm Stmt)) → arms_words false rest ≡ each further rest
    all_further [] = refl
    all_further (b ∷ rest) = refl

    more : (is_first : Bool) (rest : List (Arm Stmt)) → written names (written names (opened is_first out) (arm a).words) (arms_words false rest).words ≡ written names out (arms_words is_first (a ∷ rest)).words
    more true rest = ap (λ (z : Printed). written names (written names (opened true out) (arm a).words) z.words) (all_further rest) ∙ sym (written_both names (opened true out) (arm a).words (each further rest).words)
    more false rest = ap (λ (z : Printed). written names (written names (opened false out) (arm a).words) z.words) (all_further rest) ∙ sym (written_both names (opened false out) (arm a).words (each further rest).words)

pub arms_end : (names : List (List ℕ)) (is_first : Bool) (k : ℕ) (arms : List (Arm Stmt)) (out total : List ℕ) → length arms ≤ k → written names out (arms_words is_first (drop k arms)).words ≡ total → out ≡ total
arms_end names is_first k arms out total h so_far = ap (λ z. written names out (arms_words is_first z).words) (sym (drop_all k arms h)) ∙ so_far

-- ---- statements

pub local_text : (names : List (List ℕ)) (out : List ℕ) (p : Place) (is : List Identifier) (t : TypeExpr) → written names out (printed_stmt (stmts.Local p is t)).words ≡ written names (with_word out (kind_text kinds.KwVar)) (listed identifier is <+> (sign kinds.Colon <+> (printed_type t <+> sign kinds.Semicolon))).words
unfolding roll-Stmt denote.Hole.Carrier.roll
local_text names out p is t = ap (λ (x : Printed). written names out x.words) (fold-roll-Stmt Printed stmt_form (Local p is t))

pub skip_text : (names : List (List ℕ)) (out : List ℕ) (p : Place) → written names out (printed_stmt (stmts.Skip p)).words ≡ with_word (with_word out (kind_text kinds.KwSkip)) (kind_text kinds.Semicolon)
unfolding roll-Stmt denote.Hole.Carrier.roll
skip_text names out p = ap (λ (x : Printed). written names out x.words) (fold-roll-Stmt Printed stmt_form (Skip p))

pub block_text : (names : List (List ℕ)) (out : List ℕ) (p : Place) (ss : List Stmt) → written names out (printed_stmt (stmt_views.Block p ss)).words ≡ written names out (code_words ss).words
unfolding roll-Stmt denote.Hole.Carrier.roll
block_text names out p ss = ap (λ (x : Printed). written names out x.words) (fold-roll-Stmt Printed stmt_form (Block p ss))

pub assert_text : (names : List (List ℕ)) (out : List ℕ) (p : Place) (o : Option Identifier) (e : Expr) → written names out (printed_stmt (stmts.Assert p o e)).words ≡ written names (with_word out (kind_text kinds.KwAssert)) (labelled o (printed_expr e <+> sign kinds.Semicolon)).words
unfolding roll-Stmt denote.Hole.Carrier.roll
assert_text names out p o e = ap (λ (x : Printed). written names out x.words) (fold-roll-Stmt Printed stmt_form (Assert p o e))

pub assume_text : (names : List (List ℕ)) (out : List ℕ) (p : Place) (e : Expr) → written names out (printed_stmt (stmts.Assume p e)).words ≡ with_word (written names (with_word out (kind_text kinds.KwAssume)) (printed_expr e).words) (kind_text kinds.Semicolon)
unfolding roll-Stmt denote.Hole.Carrier.roll
assume_text names out p e = ap (λ (x : Printed). written names out x.words) (fold-roll-Stmt Printed stmt_form (Assume p e)) ∙ ended_text names (with_word out (kind_text kinds.KwAssume)) e

pub havoc_text : (names : List (List ℕ)) (out : List ℕ) (p : Place) (i : Identifier) (b : Bool) → written names out (printed_stmt (stmts.Havoc p i b)).words ≡ with_word (written names (with_word out (kind_text kinds.KwHavoc)) (piece (name i.name) <+> prime b).words) (kind_text kinds.Semicolon)
unfolding roll-Stmt denote.Hole.Carrier.roll
havoc_text names out p i b = ap (λ (x : Printed). written names out x.words) (fold-roll-Stmt Printed stmt_form (Havoc p i b)) ∙ written_both names (with_word (with_word out (kind_text kinds.KwHavoc)) (name_text names i.name)) (prime b).words (fixed kinds.Semicolon ∷ [])

pub assign_text : (names : List (List ℕ)) (out : List ℕ) (p : Place) (ts : List Target) (es : List Expr) → written names out (printed_stmt (stmts.Assign p ts es)).words ≡ written names out (listed target_words ts <+> (sign kinds.Assign <+> (listed printed_expr es <+> sign kinds.Semicolon))).words
unfolding roll-Stmt denote.Hole.Carrier.roll
assign_text names out p ts es = ap (λ (x : Printed). written names out x.words) (fold-roll-Stmt Printed stmt_form (Assign p ts es))

pub call_statement_text : (names : List (List ℕ)) (out : List ℕ) (p : Place) (ts : List Target) (i : Identifier) (es : List Expr) → written names out (printed_stmt (stmts.Call p ts i es)).words ≡ written names (with_word out (kind_text kinds.KwCall)) (called_words ts <+> (identifier i <+> (enclosed printed_expr es <+> sign kinds.Semicolon))).words
unfolding roll-Stmt denote.Hole.Carrier.roll
call_statement_text names out p ts i es = ap (λ (x : Printed). written names out x.words) (fold-roll-Stmt Printed stmt_form (Call p ts i es))

pub next_text : (names : List (List ℕ)) (out : List ℕ) (p : Place) (i : Identifier) → written names out (printed_stmt (stmts.Next p i)).words ≡ with_word (with_word (with_word (with_word (with_word out (kind_text kinds.KwNext)) (kind_text kinds.LeftParen)) (name_text names i.name)) (kind_text kinds.RightParen)) (kind_text kinds.Semicolon)
unfolding roll-Stmt denote.Hole.Carrier.roll
next_text names out p i = ap (λ (x : Printed). written names out x.words) (fold-roll-Stmt Printed stmt_form (Next p i))

pub for_text : (names : List (List ℕ)) (out : List ℕ) (p : Place) (i : Identifier) (t : Option TypeExpr) (a : RangeBound) (b : RangeBound) (ss : List Stmt) → written names out (printed_stmt (stmt_views.For p i t a b ss)).words ≡ written names (written names out (loop_head i t a b).words) (code_words ss).words
unfolding roll-Stmt denote.Hole.Carrier.roll
for_text names out p i t a b ss = ap (λ (x : Printed). written names out x.words) (fold-roll-Stmt Printed stmt_form (For p i t a b ss))
    ∙ ap (λ z. written names out (fixed kinds.KwFor ∷ z)) (sym (append_assoc (variable_words i t).words (sign kinds.KwIn <+> (sign (kinds.Range 0) <+> in_parens (bound_words a <+> (sign kinds.Comma <+> bound_words b)))).words (code_words ss).words))
    ∙ written_both names out (loop_head i t a b).words (code_words ss).words

pub no_arms_text : (names : List (List ℕ)) (out : List ℕ) (p : Place) (arms : List (Arm Stmt)) (o : Option (List Stmt)) → arms ≡ [] → out ≡ written names out (printed_stmt (stmt_views.If p arms o)).words
unfolding roll-Stmt denote.Hole.Carrier.roll
no_arms_text names out p [] o h = sym (ap (λ (x : Printed). written names out x.words) (fold-roll-Stmt Printed stmt_form (If p [] o) ∙ ap stmt_form (map_if printed_stmt p [] o)))
no_arms_text names out p (a ∷ arms) o h = absurd cc

if_text : (names : List (List ℕ)) (out : List ℕ) (p : Place) (a : Arm Stmt) (arms : List (Arm Stmt)) (o : Option (List Stmt)) → written names out (printed_stmt (stmt_views.If p (a ∷ arms) o)).words
    ≡ written names (written names out (arms_words true (a ∷ arms)).words) (else_words (option_map (map printed_stmt) o)).words
unfolding roll-Stmt denote.Hole.Carrier.roll
if_text names out p a arms o =
    let rest = else_words (option_map (map printed_stmt) o) in
    ap (λ (x : Printed). written names out x.words) (fold-roll-Stmt Printed stmt_form (If p (a ∷ arms) o) ∙ ap stmt_form (map_if printed_stmt p (a ∷ arms) o))
    ∙ ap (λ (x : Printed). written names (with_word out (kind_text kinds.KwIf)) ((arm a).words ++ (x.words ++ rest.words))) (each_over (each_arm printed_stmt) further_words arms)
    ∙ ap (λ z. written names (with_word out (kind_text kinds.KwIf)) z) (sym (append_assoc (arm a).words (each further arms).words rest.words))
    ∙ written_both names (with_word out (kind_text kinds.KwIf)) ((arm a).words ++ (each further arms).words) rest.words

pub if_alone_text : (names : List (List ℕ)) (out : List ℕ) (p : Place) (arms : List (Arm Stmt)) → (arms ≡ [] → ⊥) → written names out (printed_stmt (stmt_views.If p arms None)).words ≡ written names out (arms_words true arms).words
if_alone_text names out p [] h = absurd (h refl)
if_alone_text names out p (a ∷ arms) h = if_text names out p a arms None

pub if_else_text : (names : List (List ℕ)) (out : List ℕ) (p : Place) (arms : List (Arm Stmt)) (ss : List Stmt) → (arms ≡ [] → ⊥) → written names out (printed_stmt (stmt_views.If p arms (Some ss))).words
    ≡ written names (with_word (written names out (arms_words true arms).words) (kind_text kinds.KwElse)) (code_words ss).words
if_else_text names out p [] ss h = absurd (h refl)
if_else_text names out p (a ∷ arms) ss h = if_text names out p a arms (Some ss)

cases_text : (names : List (List ℕ)) (out : List ℕ) (p : Place) (arms : List (Arm Stmt)) (o : Option (List Stmt)) → written names out (printed_stmt (stmt_views.Case p arms o)).words
    ≡ written names (written names (with_word out (kind_text kinds.KwCase)) (each guarded arms).words) (default_words (option_map (map printed_stmt) o)).words
unfolding roll-Stmt denote.Hole.Carrier.roll
cases_text names out p arms o =
    let rest = default_words (option_map (map printed_stmt) o) in
    ap (λ (x : Printed). written names out x.words) (fold-roll-Stmt Printed stmt_form (Case p arms o) ∙ ap stmt_form (map_case printed_stmt p arms o))
    ∙ ap (λ (x : Printed). written names (with_word out (kind_text kinds.KwCase)) (x.words ++ rest.words)) (each_over (each_arm printed_stmt) case_words arms)
    ∙ written_both names (with_word out (kind_text kinds.KwCase)) (each guarded arms).words rest.words

pub case_text : (names : List (List ℕ)) (out : List ℕ) (p : Place) (arms : List (Arm Stmt)) → written names out (printed_stmt (stmt_views.Case p arms None)).words
    ≡ with_word (written names (with_word out (kind_text kinds.KwCase)) (each guarded arms).words) (kind_text kinds.KwEsac)
case_text names out p arms = cases_text names out p arms None

pub case_default_text : (names : List (List ℕ)) (out : List ℕ) (p : Place) (arms : List (Arm Stmt)) (ss : List Stmt) → written names out (printed_stmt (stmt_views.Case p arms (Some ss))).words
    ≡ with_word (written names (with_word (with_word (written names (with_word out (kind_text kinds.KwCase)) (each guarded arms).words) (kind_text kinds.KwDefault)) (kind_text kinds.Colon)) (code_words ss).words) (kind_text kinds.KwEsac)
case_default_text names out p arms ss =
    cases_text names out p arms (Some ss)
    ∙ written_both names (with_word (with_word (written names (with_word out (kind_text kinds.KwCase)) (each guarded arms).words) (kind_text kinds.KwDefault)) (kind_text kinds.Colon)) (code_words ss).words (fixed kinds.KwEsac ∷ [])
