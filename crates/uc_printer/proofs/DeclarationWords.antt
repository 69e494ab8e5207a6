-- The text of each form of command, declaration and module.
use Rattle.std.proofs.lemmas.List.{append-nil, drop_all}
use Rattle.std.proofs.Common.{◌≡◌, ◌<◌, ◌≤◌, ◌+◌, ℕ, List, [], ◌∷◌, ◌++◌, length, drop, Some, None, refl, sym, ap, ◌∙◌, append_assoc, arith}
use Rattle.std.specs.Prelude.{codes, get_or}
use Rattle.uc_lexer.specs.declared.place.Place.{Place}
use Rattle.uc_grammar.specs.declared.word.Kind.TheVariants as kinds
use Rattle.uc_syntax.specs.declared.place.Identifier.{Identifier}
use Rattle.uc_syntax.specs.declared.type_expression.Parameter.{Parameter}
use Rattle.uc_syntax.specs.declared.type_expression.TypeExpr.{TypeExpr}
use Rattle.uc_syntax.specs.declared.expression.Expr.{Expr}
use Rattle.uc_syntax.specs.declared.declaration.Clause.TheVariants.{Requires, Ensures, Modifies}
use Rattle.uc_syntax.specs.declared.declaration.Procedure.{Procedure}
use Rattle.uc_syntax.specs.declared.declaration.Binding.{Binding}
use Rattle.uc_syntax.specs.declared.declaration.WrittenRun.{WrittenRun}
use Rattle.uc_syntax.specs.declared.declaration.Command.{Command}
use Rattle.uc_syntax.specs.declared.declaration.Command.TheVariants.{Run}
use Rattle.uc_syntax.specs.declared.declaration.Decl.TheVariants.{TypeAlias, Function, Define, Instance, Control}
use Rattle.uc_syntax.specs.declared.declaration.Module.{Module}
use Rattle.uc_print_laws.specs.Piece.{Piece, name, fixed}
use Rattle.uc_print_laws.specs.Printed.{Printed, sign, identifier, ◌<+>◌, each, joined}
use Rattle.uc_print_laws.specs.Types.{printed_type}
use Rattle.uc_print_laws.specs.Expressions.{printed_expr, enclosed}
use Rattle.uc_print_laws.specs.Declarations.{run_words, path_words, counterexample_words, command_words, parameter_words, code_words, clause_words, results_words, procedure_words, binding_words, decl_words, module_words}
use Rattle.uc_print_laws.specs.Text.{name_text, kind_text, with_word, spelling, written, spaced, design_text}
use Rattle.uc_print_laws.proofs.Written.{written_both, drop_more}
use Rattle.uc_printer.proofs.StatementWords.{parens_and}
use Rattle.uc_printer.specs.Parts.{function_head, formula}

-- ---- commands

pub counterexamples_text : (names : List (List ℕ)) (out : List ℕ) (ps : List (List Identifier)) → written names out (counterexample_words (Some ps)).words
    ≡ with_word (with_word (written names (with_word (with_word out (kind_text (kinds.PrintCex 0))) (kind_text kinds.LeftParen)) (joined kinds.Comma path_words ps).words) (kind_text kinds.RightParen)) (kind_text kinds.Semicolon)
counterexamples_text names out ps = parens_and names (with_word out (kind_text (kinds.PrintCex 0))) (joined kinds.Comma path_words ps) (sign kinds.Semicolon)

pub run_text : (names : List (List ℕ)) (out : List ℕ) (p : Place) (r : WrittenRun) → written names out (command_words (Run p None r)).words ≡ with_word (written names out (run_words r).words) (kind_text kinds.Semicolon)
run_text names out p r = written_both names out (run_words r).words (fixed kinds.Semicolon ∷ [])

pub named_run_text : (names : List (List ℕ)) (out : List ℕ) (p : Place) (i : Identifier) (r : WrittenRun) → written names out (command_words (Run p (Some i) r)).words
    ≡ with_word (written names (with_word (with_word out (name_text names i.name)) (kind_text kinds.Assign)) (run_words r).words) (kind_text kinds.Semicolon)
named_run_text names out p i r = written_both names (with_word (with_word out (name_text names i.name)) (kind_text kinds.Assign)) (run_words r).words (fixed kinds.Semicolon ∷ [])

-- ---- procedures and bindings

pub requires_text : (names : List (List ℕ)) (out : List ℕ) (p : Place) (e : Expr) → written names out (clause_words (Requires p e)).words ≡ with_word (written names (with_word out (kind_text kinds.KwRequires)) (printed_expr e).words) (kind_text kinds.Semicolon)
requires_text names out p e = written_both names (with_word out (kind_text kinds.KwRequires)) (printed_expr e).words (fixed kinds.Semicolon ∷ [])

pub ensures_text : (names : List (List ℕ)) (out : List ℕ) (p : Place) (e : Expr) → written names out (clause_words (Ensures p e)).words ≡ with_word (written names (with_word out (kind_text kinds.KwEnsures)) (printed_expr e).words) (kind_text kinds.Semicolon)
ensures_text names out p e = written_both names (with_word out (kind_text kinds.KwEnsures)) (printed_expr e).words (fixed kinds.Semicolon ∷ [])

pub modifies_text : (names : List (List ℕ)) (out : List ℕ) (p : Place) (is : List Identifier) → written names out (clause_words (Modifies p is)).words
    ≡ with_word (written names (with_word out (kind_text kinds.KwModifies)) (joined kinds.Comma identifier is).words) (kind_text kinds.Semicolon)
modifies_text names out p is = written_both names (with_word out (kind_text kinds.KwModifies)) (joined kinds.Comma identifier is).words (fixed kinds.Semicolon ∷ [])

pub results_none : (names : List (List ℕ)) (out : List ℕ) (rs : List (Parameter TypeExpr)) → length rs ≡ 0 → out ≡ written names out (results_words rs).words
results_none names out [] h = refl
results_none names out (r ∷ rs) h = absurd (omega arith)

pub results_text : (names : List (List ℕ)) (out : List ℕ) (rs : List (Parameter TypeExpr)) → 0 < length rs → written names out (results_words rs).words
    ≡ with_word (written names (with_word (with_word out (kind_text kinds.KwReturns)) (kind_text kinds.LeftParen)) (joined kinds.Comma parameter_words rs).words) (kind_text kinds.RightParen)
results_text names out [] h = absurd (omega arith)
results_text names out (r ∷ rs) h = written_both names (with_word (with_word out (kind_text kinds.KwReturns)) (kind_text kinds.LeftParen)) (joined kinds.Comma parameter_words (r ∷ rs)).words (fixed kinds.RightParen ∷ [])

pub procedure_text : (names : List (List ℕ)) (out : List ℕ) (q : Procedure) → written names out (procedure_words q).words
    ≡ written names (written names (written names (with_word (written names (with_word (with_word out (name_text names q.identifier.name)) (kind_text kinds.LeftParen)) (joined kinds.Comma parameter_words q.parameters).words) (kind_text kinds.RightParen))
    (results_words q.results).words) (each clause_words q.clauses).words) (code_words q.body).words
procedure_text names out q =
    let o = with_word (written names (with_word (with_word out (name_text names q.identifier.name)) (kind_text kinds.LeftParen)) (joined kinds.Comma parameter_words q.parameters).words) (kind_text kinds.RightParen) in
    parens_and names (with_word out (name_text names q.identifier.name)) (joined kinds.Comma parameter_words q.parameters) (results_words q.results <+> (each clause_words q.clauses <+> code_words q.body))
    ∙ written_both names o (results_words q.results).words (each clause_words q.clauses <+> code_words q.body).words
    ∙ written_both names (written names o (results_words q.results).words) (each clause_words q.clauses).words (code_words q.body).words

pub binding_text : (names : List (List ℕ)) (out : List ℕ) (b : Binding) → written names out (binding_words b).words
    ≡ with_word (written names (with_word (with_word (with_word out (name_text names b.identifier.name)) (kind_text kinds.Colon)) (kind_text kinds.LeftParen)) (printed_expr b.expression).words) (kind_text kinds.RightParen)
binding_text names out b = written_both names (with_word (with_word (with_word out (name_text names b.identifier.name)) (kind_text kinds.Colon)) (kind_text kinds.LeftParen)) (printed_expr b.expression).words (fixed kinds.RightParen ∷ [])

-- ---- declarations

pub function_head_text : (names : List (List ℕ)) (out : List ℕ) (i : Identifier) (ps : List (Parameter TypeExpr)) (t : TypeExpr) → written names out (function_head i ps t).words
    ≡ written names (with_word (with_word (written names (with_word (with_word out (name_text names i.name)) (kind_text kinds.LeftParen)) (joined kinds.Comma parameter_words ps).words) (kind_text kinds.RightParen)) (kind_text kinds.Colon)) (printed_type t).words
function_head_text names out i ps t = parens_and names (with_word out (name_text names i.name)) (joined kinds.Comma parameter_words ps) (sign kinds.Colon <+> printed_type t)

-- with more behind the type
head_and : (names : List (List ℕ)) (out : List ℕ) (i : Identifier) (ps : List (Parameter TypeExpr)) (t : TypeExpr) (x : Printed) → written names out (identifier i <+> (enclosed parameter_words ps <+> (sign kinds.Colon <+> (printed_type t <+> x)))).words
    ≡ written names (written names out (function_head i ps t).words) x.words
head_and names out i ps t x =
    parens_and names (with_word out (name_text names i.name)) (joined kinds.Comma parameter_words ps) (sign kinds.Colon <+> (printed_type t <+> x))
    ∙ written_both names (with_word (with_word (written names (with_word (with_word out (name_text names i.name)) (kind_text kinds.LeftParen)) (joined kinds.Comma parameter_words ps).words) (kind_text kinds.RightParen)) (kind_text kinds.Colon)) (printed_type t).words x.words
    ∙ ap (λ z. written names z x.words) (sym (function_head_text names out i ps t))

pub formula_text : (names : List (List ℕ)) (out : List ℕ) (i : Identifier) (e : Expr) → written names out (formula i e).words
    ≡ with_word (written names (with_word (with_word out (name_text names i.name)) (kind_text kinds.Colon)) (printed_expr e).words) (kind_text kinds.Semicolon)
formula_text names out i e = written_both names (with_word (with_word out (name_text names i.name)) (kind_text kinds.Colon)) (printed_expr e).words (fixed kinds.Semicolon ∷ [])

pub alias_text : (names : List (List ℕ)) (out : List ℕ) (p : Place) (i : Identifier) (t : TypeExpr) → written names out (decl_words (TypeAlias p i t)).words
    ≡ with_word (written names (with_word (with_word (with_word out (kind_text kinds.KwType)) (name_text names i.name)) (kind_text kinds.Assign)) (printed_type t).words) (kind_text kinds.Semicolon)
alias_text names out p i t = written_both names (with_word (with_word (with_word out (kind_text kinds.KwType)) (name_text names i.name)) (kind_text kinds.Assign)) (printed_type t).words (fixed kinds.Semicolon ∷ [])

pub function_declaration_text : (names : List (List ℕ)) (out : List ℕ) (p : Place) (i : Identifier) (ps : List (Parameter TypeExpr)) (t : TypeExpr) → written names out (decl_words (Function p i ps t)).words
    ≡ with_word (written names (with_word out (kind_text kinds.KwFunction)) (function_head i ps t).words) (kind_text kinds.Semicolon)
function_declaration_text names out p i ps t = head_and names (with_word out (kind_text kinds.KwFunction)) i ps t (sign kinds.Semicolon)

pub define_text : (names : List (List ℕ)) (out : List ℕ) (p : Place) (i : Identifier) (ps : List (Parameter TypeExpr)) (t : TypeExpr) (e : Expr) → written names out (decl_words (Define p i ps t e)).words
    ≡ with_word (written names (with_word (written names (with_word out (kind_text kinds.KwDefine)) (function_head i ps t).words) (kind_text kinds.Assign)) (printed_expr e).words) (kind_text kinds.Semicolon)
define_text names out p i ps t e =
    head_and names (with_word out (kind_text kinds.KwDefine)) i ps t (sign kinds.Assign <+> (printed_expr e <+> sign kinds.Semicolon))
    ∙ written_both names (with_word (written names (with_word out (kind_text kinds.KwDefine)) (function_head i ps t).words) (kind_text kinds.Assign)) (printed_expr e).words (fixed kinds.Semicolon ∷ [])

pub instance_text : (names : List (List ℕ)) (out : List ℕ) (p : Place) (i m : Identifier) (bs : List Binding) → written names out (decl_words (Instance p i m bs)).words
    ≡ with_word (with_word (written names (with_word (with_word (with_word (with_word (with_word out (kind_text kinds.KwInstance)) (name_text names i.name)) (kind_text kinds.Colon)) (name_text names m.name)) (kind_text kinds.LeftParen)) (joined kinds.Comma binding_words bs).words)
    (kind_text kinds.RightParen)) (kind_text kinds.Semicolon)
instance_text names out p i m bs =
    parens_and names (with_word (with_word (with_word (with_word out (kind_text kinds.KwInstance)) (name_text names i.name)) (kind_text kinds.Colon)) (name_text names m.name)) (joined kinds.Comma binding_words bs) (sign kinds.Semicolon)

pub control_text : (names : List (List ℕ)) (out : List ℕ) (p : Place) (cs : List Command) → written names out (decl_words (Control p cs)).words
    ≡ with_word (written names (with_word (with_word out (kind_text kinds.KwControl)) (kind_text kinds.LeftBrace)) (each command_words cs).words) (kind_text kinds.RightBrace)
control_text names out p cs = written_both names (with_word (with_word out (kind_text kinds.KwControl)) (kind_text kinds.LeftBrace)) (each command_words cs).words (fixed kinds.RightBrace ∷ [])

-- ---- modules

word_behind : (before out word : List ℕ) → with_word (before ++ out) word ≡ before ++ with_word out word
unfolding with_word
word_behind before out word = append_assoc before out (32 ∷ word)

-- a text goes on in the same way behind any other
written_behind : (names : List (List ℕ)) (before out : List ℕ) (ps : List Piece) → written names (before ++ out) ps ≡ before ++ written names out ps
written_behind names before out [] = refl
written_behind names before out (p ∷ ps) = ap (λ z. written names z ps) (word_behind before out (spelling names p)) ∙ written_behind names before (with_word out (spelling names p)) ps

pub module_text : (names : List (List ℕ)) (out : List ℕ) (m : Module) →
    with_word (written names (with_word (with_word (out ++ codes "module") (name_text names m.name)) (kind_text kinds.LeftBrace)) (each decl_words m.decls).words) (kind_text kinds.RightBrace) ++ 10 ∷ []
    ≡ out ++ (spaced names (module_words m).words ++ 10 ∷ [])
module_text names out m =
    let rest = (each decl_words m.decls).words in
    let opened = with_word (with_word (out ++ codes "module") (name_text names m.name)) (kind_text kinds.LeftBrace) in
    ap (λ z. z ++ 10 ∷ []) (sym (written_both names opened rest (fixed kinds.RightBrace ∷ [])) ∙ written_behind names out (codes "module") (name m.name ∷ fixed kinds.LeftBrace ∷ (rest ++ fixed kinds.RightBrace ∷ [])))
    ∙ append_assoc out (spaced names (module_words m).words) (10 ∷ [])

pub design_more : (names : List (List ℕ)) (k : ℕ) (ms : List Module) (m : Module) (out now total : List ℕ) → k < length ms → m ≡ get_or ms k m → out ++ design_text names (drop k ms) ≡ total
    → now ≡ out ++ (spaced names (module_words m).words ++ 10 ∷ []) → now ++ design_text names (drop (k + 1) ms) ≡ total
design_more names k ms m out now total h e so_far put =
    ap (λ z. z ++ design_text names (drop (k + 1) ms)) put ∙ append_assoc out (spaced names (module_words m).words ++ 10 ∷ []) (design_text names (drop (k + 1) ms))
    ∙ ap (λ z. out ++ design_text names z) (sym (drop_more ms k m h e)) ∙ so_far

pub design_end : (names : List (List ℕ)) (k : ℕ) (ms : List Module) (out total : List ℕ) → length ms ≤ k → out ++ design_text names (drop k ms) ≡ total → out ≡ total
design_end names k ms out total h so_far = sym (append-nil out) ∙ ap (λ z. out ++ design_text names z) (sym (drop_all k ms h)) ∙ so_far
