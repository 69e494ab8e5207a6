use Rattle.std.proofs.Common.{◌≡◌, arith, rules, true, false, refl, subst, [], ◌∷◌, ◌++◌, ◌∙◌, Ok}
use Rattle.std.proofs.lemmas.Result.{err_from_is_err_and}
use Rattle.uc_forms.specs.Counted.{turned, turns}
use Rattle.uc_forms.proofs.Shapes.{after_is, after_fails}
use Rattle.uc_forms.proofs.CountedTurns.{goes_on, is_done, loop_fails}
use Rattle.uc_forms.specs.Form.{after, both, word, one_of}
use Rattle.uc_forms.specs.Reading.{is_at}
use Rattle.uc_grammar.specs.Code.{code_of}
use Rattle.uc_grammar.specs.declared.word.Word.{Word}
use Rattle.uc_grammar.specs.declared.word.Kind.TheVariants.{Comma, Dot, LeftBracket, KwIf, Plus}
use Rattle.uc_grammar.specs.Syntax as syntax
use Rattle.uc_grammar.specs.Syntax.{words, rule, opens, expr, selection, branch, product, chain_of, sum_of, sum_sign}
use Rattle.uc_parse_expressions.specs.Chains.{form_of, operand_form, sign_of, node_of, gathered}
use Rattle.uc_parse_expressions.specs.Parts.{selections, element, new_value}
use Rattle.uc_parse_expressions.specs.Signs.{minus, sum_codes, order_codes}
use Rattle.uc_parse_expressions.proofs.Chains.{gathers_on, gather_fails, gather_done, fold_more, fold_alone, chain_folds, sum_folds, pair_is, pair_fails}
use Rattle.uc_parse_expressions.proofs.Compared.{compared_alone, compared_pair, compared_fails}
use Rattle.uc_parse_expressions.proofs.InBrackets.{brackets_given}
use Rattle.uc_parse_expressions.proofs.Levels.{fails_above, turned_on, turn_fails, turns_end}
use Rattle.uc_parse_expressions.specs.declared.level.Level.{Level}
use Rattle.uc_parse_expressions.specs.declared.level.Level.TheVariants as level_kinds
use Rattle.uc_forms.specs.CountedGives.{StopsAt}
use Rattle.uc_parse_expressions.specs.Reading.{state, form}
use Rattle.uc_parse_expressions.proofs.Here.{takes, one_deeper, none_left}
use Rattle.uc_syntax.specs.declared.expression.Expr.TheViews as exprs
use Rattle.uc_parse_expressions.proofs.parser.+expressions.Goals as goal

pub arguments-returns-then-levels-eq0 : goal.arguments-returns-then-levels-eq0
arguments-returns-then-levels-eq0 t c = rw c.no_level.ensures (none_left c.args.levels syntax.arguments (state c.args.reader.now) c.if-levels-eq0.true)

pub arguments-returns-in_err-take : goal.arguments-returns-in_err-take
arguments-returns-in_err-take t c = rw (one_deeper c.args.levels syntax.arguments (state c.args.reader.now) (omega arith)) (search rules)

pub arguments-returns-then-is_at : goal.arguments-returns-then-is_at
arguments-returns-then-is_at t c = rw (one_deeper c.args.levels syntax.arguments (state c.args.reader.now) (omega arith)) (search rules)

pub arguments-returns-in_err-found : goal.arguments-returns-in_err-found
arguments-returns-in_err-found t c = rw (one_deeper c.args.levels syntax.arguments (state c.args.reader.now) (omega arith)) (search rules)

pub arguments-returns-in_err-take-3 : goal.arguments-returns-in_err-take-3
arguments-returns-in_err-take-3 t c = rw (one_deeper c.args.levels syntax.arguments (state c.args.reader.now) (omega arith)) (search rules)

pub arguments-returns : goal.arguments-returns
arguments-returns t c = rw (one_deeper c.args.levels syntax.arguments (state c.args.reader.now) (omega arith)) (search rules)

pub parens-returns-then-levels-eq0 : goal.parens-returns-then-levels-eq0
parens-returns-then-levels-eq0 t c = rw c.no_level.ensures (none_left c.args.levels syntax.parens (state c.args.reader.now) c.if-levels-eq0.true)

pub parens-returns-in_err-opening : goal.parens-returns-in_err-opening
parens-returns-in_err-opening t c = rw (one_deeper c.args.levels syntax.parens (state c.args.reader.now) (omega arith)) (search rules)

pub parens-returns-in_err-inner : goal.parens-returns-in_err-inner
parens-returns-in_err-inner t c = rw (one_deeper c.args.levels syntax.parens (state c.args.reader.now) (omega arith)) (search rules)

pub parens-returns : goal.parens-returns
parens-returns t c = rw (one_deeper c.args.levels syntax.parens (state c.args.reader.now) (omega arith)) (search rules)

pub sign_operand-returns-then-levels-eq0 : goal.sign_operand-returns-then-levels-eq0
sign_operand-returns-then-levels-eq0 t c = rw c.no_level_for_sign.ensures (none_left c.args.levels syntax.sign_operand (state c.args.reader.now) c.if-levels-eq0.true)

pub sign_operand-returns-in_err-sign : goal.sign_operand-returns-in_err-sign
sign_operand-returns-in_err-sign t c = rw (one_deeper c.args.levels syntax.sign_operand (state c.args.reader.now) (omega arith)) (search rules)

pub sign_operand-returns-in_err-operand : goal.sign_operand-returns-in_err-operand
sign_operand-returns-in_err-operand t c = rw (one_deeper c.args.levels syntax.sign_operand (state c.args.reader.now) (omega arith)) (search rules)

pub sign_operand-returns : goal.sign_operand-returns
sign_operand-returns t c = rw (one_deeper c.args.levels syntax.sign_operand (state c.args.reader.now) (omega arith)) (search rules)

pub brackets-returns-then-levels-eq0 : goal.brackets-returns-then-levels-eq0
brackets-returns-then-levels-eq0 t c = rw c.no_level.ensures (none_left c.args.levels syntax.brackets (state c.args.reader.now) c.if-levels-eq0.true)

pub brackets-returns-in_err-opening : goal.brackets-returns-in_err-opening
unfolding element new_value
brackets-returns-in_err-opening t c = rw (one_deeper c.args.levels syntax.brackets (state c.args.reader.now) (omega arith)) (search rules)

pub brackets-returns-in_err-low : goal.brackets-returns-in_err-low
unfolding element new_value
brackets-returns-in_err-low t c = rw (one_deeper c.args.levels syntax.brackets (state c.args.reader.now) (omega arith)) (search rules)

pub brackets-returns-in_err-take-2 : goal.brackets-returns-in_err-take-2
unfolding element new_value
brackets-returns-in_err-take-2 t c = rw (one_deeper c.args.levels syntax.brackets (state c.args.reader.now) (omega arith)) (search rules)

pub brackets-returns-then-at_bounds : goal.brackets-returns-then-at_bounds
unfolding element new_value
brackets-returns-then-at_bounds t c = rw (one_deeper c.args.levels syntax.brackets (state c.args.reader.now) (omega arith)) (search rules)

pub brackets-returns : goal.brackets-returns
brackets-returns t c = rw (brackets_given c.args.levels c.in_ok-opening.opening (state c.args.reader.now) (state c.take.new.self) (omega arith) c.in_ok-opening.ensures (search rules)) c.element.ensures

pub if_expression-returns-then-levels-eq0 : goal.if_expression-returns-then-levels-eq0
if_expression-returns-then-levels-eq0 t c = rw c.no_level.ensures (none_left c.args.levels syntax.if_expression (state c.args.reader.now) c.if-levels-eq0.true)

pub if_expression-returns-in_err-first : goal.if_expression-returns-in_err-first
if_expression-returns-in_err-first t c = rw (one_deeper c.args.levels syntax.if_expression (state c.args.reader.now) (omega arith)) (search rules)

pub if_expression-returns-in_err-more_branches : goal.if_expression-returns-in_err-more_branches
if_expression-returns-in_err-more_branches t c = rw (one_deeper c.args.levels syntax.if_expression (state c.args.reader.now) (omega arith)) (search rules)

pub if_expression-returns-in_err-otherwise : goal.if_expression-returns-in_err-otherwise
if_expression-returns-in_err-otherwise t c = rw (one_deeper c.args.levels syntax.if_expression (state c.args.reader.now) (omega arith)) (search rules)

pub if_expression-returns : goal.if_expression-returns
if_expression-returns t c = rw (one_deeper c.args.levels syntax.if_expression (state c.args.reader.now) (omega arith)) (search rules)

pub more_expressions-turns-preserved : goal.more_expressions-turns-preserved
more_expressions-turns-preserved t c =
    let at : is_at words (code_of Comma ∷ []) c.turns.reader.rest.now ≡ true = search rules in
    let read = after_is rule opens c.args.levels Comma expr c.in_ok-take.field-0 c.in_ok-next.next (state c.turns.reader) (state c.take.new.self) (state c.expr.new.reader) c.in_ok-take.ensures c.in_ok-next.ensures in
    let pushed : c.push.new.self ≡ c.turns.found ++ c.in_ok-next.next ∷ [] = c.in_ok-push.ensures.ok in
    rw pushed (goes_on words (code_of Comma ∷ []) (form c.args.levels (after Comma expr)) c.turns.found (state c.turns.reader) c.in_ok-next.next (state c.expr.new.reader) _ (takes c.args.levels (after Comma expr) refl) at read c.turns.invariant)

pub more_expressions-turns-smaller : goal.more_expressions-turns-smaller
more_expressions-turns-smaller t c = takes c.args.levels (after Comma expr) refl (state c.turns.reader) c.in_ok-next.next (state c.expr.new.reader) (after_is rule opens c.args.levels Comma expr c.in_ok-take.field-0 c.in_ok-next.next (state c.turns.reader) (state c.take.new.self) (state c.expr.new.reader) c.in_ok-take.ensures c.in_ok-next.ensures)

pub more_expressions-returns : goal.more_expressions-returns
more_expressions-returns t c =
    let at : is_at words (code_of Comma ∷ []) c.turns.reader.rest.now ≡ false = search rules in
    is_done words (code_of Comma ∷ []) (form c.args.levels (after Comma expr)) c.turns.found (state c.turns.reader) _ at c.turns.invariant

pub more_expressions-returns-in_err-next : goal.more_expressions-returns-in_err-next
more_expressions-returns-in_err-next t c =
    let p = err_from_is_err_and c.from_residual-in_err-next.result c.from_residual-in_err-next.ensures.1 in
    let e = c.in_err-next.field-0.0 in
    let at : is_at words (code_of Comma ∷ []) c.turns.reader.rest.now ≡ true = search rules in
    rw (p.1, p.2) (loop_fails words e (code_of Comma ∷ []) (form c.args.levels (after Comma expr)) c.turns.found (state c.turns.reader) (state c.expr.new.reader) _ at (after_fails rule opens e c.args.levels Comma expr c.in_ok-take.field-0 (state c.turns.reader) (state c.take.new.self) (state c.expr.new.reader) c.in_ok-take.ensures c.in_err-next.ensures) c.turns.invariant)

pub more_branches-turns-preserved : goal.more_branches-turns-preserved
unfolding branch
more_branches-turns-preserved t c =
    let at : is_at words (code_of KwIf ∷ []) c.turns.reader.rest.now ≡ true = search rules in
    let read = c.in_ok-next.ensures in
    let pushed : c.push.new.self ≡ c.turns.found ++ c.in_ok-next.next ∷ [] = c.in_ok-push.ensures.ok in
    rw pushed (goes_on words (code_of KwIf ∷ []) (form c.args.levels branch) c.turns.found (state c.turns.reader) c.in_ok-next.next (state c.if_branch.new.reader) _ (takes c.args.levels branch refl) at read c.turns.invariant)

pub more_branches-turns-smaller : goal.more_branches-turns-smaller
unfolding branch
more_branches-turns-smaller t c = takes c.args.levels branch refl (state c.turns.reader) c.in_ok-next.next (state c.if_branch.new.reader) (c.in_ok-next.ensures)

pub more_branches-returns : goal.more_branches-returns
unfolding branch
more_branches-returns t c =
    let at : is_at words (code_of KwIf ∷ []) c.turns.reader.rest.now ≡ false = search rules in
    is_done words (code_of KwIf ∷ []) (form c.args.levels branch) c.turns.found (state c.turns.reader) _ at c.turns.invariant

pub more_branches-returns-in_err-next : goal.more_branches-returns-in_err-next
unfolding branch
more_branches-returns-in_err-next t c =
    let p = err_from_is_err_and c.from_residual.result c.from_residual.ensures.1 in
    let e = c.in_err-next.field-0.0 in
    let at : is_at words (code_of KwIf ∷ []) c.turns.reader.rest.now ≡ true = search rules in
    rw (p.1, p.2) (loop_fails words e (code_of KwIf ∷ []) (form c.args.levels branch) c.turns.found (state c.turns.reader) (state c.if_branch.new.reader) _ at (c.in_err-next.ensures) c.turns.invariant)

pub selections-turns-preserved : goal.selections-turns-preserved
unfolding selections selection
selections-turns-preserved t c =
    let at : is_at words (code_of Dot ∷ code_of LeftBracket ∷ []) c.turns.reader.rest.now ≡ true = search rules in
    let read = c.in_ok-next.ensures in
    let pushed : c.push.new.self ≡ c.turns.found ++ c.in_ok-next.next ∷ [] = c.in_ok-push.ensures.ok in
    rw pushed (goes_on words (code_of Dot ∷ code_of LeftBracket ∷ []) (form c.args.levels selection) c.turns.found (state c.turns.reader) c.in_ok-next.next (state c.selection.new.reader) _ (takes c.args.levels selection refl) at read c.turns.invariant)

pub selections-turns-smaller : goal.selections-turns-smaller
unfolding selections selection
selections-turns-smaller t c = takes c.args.levels selection refl (state c.turns.reader) c.in_ok-next.next (state c.selection.new.reader) (c.in_ok-next.ensures)

pub selections-returns : goal.selections-returns
unfolding selections selection
selections-returns t c =
    let at : is_at words (code_of Dot ∷ code_of LeftBracket ∷ []) c.turns.reader.rest.now ≡ false = search rules in
    is_done words (code_of Dot ∷ code_of LeftBracket ∷ []) (form c.args.levels selection) c.turns.found (state c.turns.reader) _ at c.turns.invariant

pub selections-returns-in_err-next : goal.selections-returns-in_err-next
unfolding selections selection
selections-returns-in_err-next t c =
    let p = err_from_is_err_and c.from_residual.result c.from_residual.ensures.1 in
    let e = c.in_err-next.field-0.0 in
    let at : is_at words (code_of Dot ∷ code_of LeftBracket ∷ []) c.turns.reader.rest.now ≡ true = search rules in
    rw (p.1, p.2) (loop_fails words e (code_of Dot ∷ code_of LeftBracket ∷ []) (form c.args.levels selection) c.turns.found (state c.turns.reader) (state c.selection.new.reader) _ at (c.in_err-next.ensures) c.turns.invariant)

pub more_operands-turns-preserved : goal.more_operands-turns-preserved
more_operands-turns-preserved t c =
    let at : is_at words (code_of (sign_of c.args.chain) ∷ []) c.turns.reader.rest.now ≡ true = search rules in
    let read = pair_is c.args.levels (word (sign_of c.args.chain)) (operand_form c.args.chain) c.in_ok-sign.sign (c.in_ok-next.field-0-0, c.in_ok-next.next) (state c.turns.reader) (state c.take.new.self) (state c.level.new.reader) (search rules) (subst (λ (l : Level). form c.args.levels (form_of l) (state c.take.new.self) ≡ Ok ((c.in_ok-next.field-0-0, c.in_ok-next.next), state c.level.new.reader)) c.operand.ensures c.in_ok-next.ensures) in
    let operands : c.push.new.self ≡ c.turns.operands ++ c.in_ok-next.next ∷ [] = c.in_ok-push.ensures.ok in
    let marks : c.push-in-turns.new.self ≡ c.turns.places ++ c.in_ok-sign.sign.place ∷ [] = search rules in
    rw (operands, marks) (gathers_on (λ (w : Word). w.place) (code_of (sign_of c.args.chain) ∷ []) (form c.args.levels (both (word (sign_of c.args.chain)) (operand_form c.args.chain))) c.turns.operands c.turns.places (state c.turns.reader) (c.in_ok-sign.sign, (c.in_ok-next.field-0-0, c.in_ok-next.next)) (state c.level.new.reader) _ (takes c.args.levels (both (word (sign_of c.args.chain)) (operand_form c.args.chain)) refl) at read c.turns.invariant)

pub more_operands-turns-smaller : goal.more_operands-turns-smaller
more_operands-turns-smaller t c = takes c.args.levels (both (word (sign_of c.args.chain)) (operand_form c.args.chain)) refl (state c.turns.reader) (c.in_ok-sign.sign, (c.in_ok-next.field-0-0, c.in_ok-next.next)) (state c.level.new.reader) (pair_is c.args.levels (word (sign_of c.args.chain)) (operand_form c.args.chain) c.in_ok-sign.sign (c.in_ok-next.field-0-0, c.in_ok-next.next) (state c.turns.reader) (state c.take.new.self) (state c.level.new.reader) (search rules) (subst (λ (l : Level). form c.args.levels (form_of l) (state c.take.new.self) ≡ Ok ((c.in_ok-next.field-0-0, c.in_ok-next.next), state c.level.new.reader)) c.operand.ensures c.in_ok-next.ensures))

pub more_operands-returns : goal.more_operands-returns
more_operands-returns t c =
    let at : is_at words (code_of (sign_of c.args.chain) ∷ []) c.turns.reader.rest.now ≡ false = search rules in
    gather_done (λ (w : Word). w.place) (code_of (sign_of c.args.chain) ∷ []) (form c.args.levels (both (word (sign_of c.args.chain)) (operand_form c.args.chain))) c.turns.operands c.turns.places (state c.turns.reader) _ at c.turns.invariant

pub more_operands-returns-in_err-next : goal.more_operands-returns-in_err-next
more_operands-returns-in_err-next t c =
    let p = err_from_is_err_and c.from_residual-in_err-next.result c.from_residual-in_err-next.ensures.1 in
    let e = c.in_err-next.field-0.0 in
    let at : is_at words (code_of (sign_of c.args.chain) ∷ []) c.turns.reader.rest.now ≡ true = search rules in
    rw (p.1, p.2) (gather_fails (λ (w : Word). w.place) e (code_of (sign_of c.args.chain) ∷ []) (form c.args.levels (both (word (sign_of c.args.chain)) (operand_form c.args.chain))) c.turns.operands c.turns.places (state c.turns.reader) (state c.level.new.reader) _ at (pair_fails e c.args.levels (word (sign_of c.args.chain)) (operand_form c.args.chain) c.in_ok-sign.sign (state c.turns.reader) (state c.take.new.self) (state c.level.new.reader) (search rules) (subst (λ (l : Level). StopsAt c.in_err-next.field-0.0 (state c.level.new.reader) (form c.args.levels (form_of l) (state c.take.new.self))) c.operand.ensures c.in_err-next.ensures)) c.turns.invariant)

pub more_terms-turns-preserved : goal.more_terms-turns-preserved
more_terms-turns-preserved t c =
    let at : is_at words (sum_codes) c.turns.reader.rest.now ≡ true = search rules in
    let read = pair_is c.args.levels (one_of Plus minus) product c.in_ok-sign.sign (c.in_ok-next.field-0-0, c.in_ok-next.next) (state c.turns.reader) (state c.take_sum_sign.new.reader) (state c.level.new.reader) c.in_ok-sign.ensures c.in_ok-next.ensures in
    let operands : c.push.new.self ≡ c.turns.terms ++ c.in_ok-next.next ∷ [] = c.in_ok-push.ensures.ok in
    let marks : c.push-in-turns.new.self ≡ c.turns.signs ++ sum_sign c.in_ok-sign.sign ∷ [] = search rules in
    rw (operands, marks) (gathers_on sum_sign (sum_codes) (form c.args.levels (both (one_of Plus minus) product)) c.turns.terms c.turns.signs (state c.turns.reader) (c.in_ok-sign.sign, (c.in_ok-next.field-0-0, c.in_ok-next.next)) (state c.level.new.reader) _ (takes c.args.levels (both (one_of Plus minus) product) refl) at read c.turns.invariant)

pub more_terms-turns-smaller : goal.more_terms-turns-smaller
more_terms-turns-smaller t c = takes c.args.levels (both (one_of Plus minus) product) refl (state c.turns.reader) (c.in_ok-sign.sign, (c.in_ok-next.field-0-0, c.in_ok-next.next)) (state c.level.new.reader) (pair_is c.args.levels (one_of Plus minus) product c.in_ok-sign.sign (c.in_ok-next.field-0-0, c.in_ok-next.next) (state c.turns.reader) (state c.take_sum_sign.new.reader) (state c.level.new.reader) c.in_ok-sign.ensures c.in_ok-next.ensures)

pub more_terms-returns : goal.more_terms-returns
more_terms-returns t c =
    let at : is_at words (sum_codes) c.turns.reader.rest.now ≡ false = search rules in
    gather_done sum_sign (sum_codes) (form c.args.levels (both (one_of Plus minus) product)) c.turns.terms c.turns.signs (state c.turns.reader) _ at c.turns.invariant

pub more_terms-returns-in_err-next : goal.more_terms-returns-in_err-next
more_terms-returns-in_err-next t c =
    let p = err_from_is_err_and c.from_residual-in_err-next.result c.from_residual-in_err-next.ensures.1 in
    let e = c.in_err-next.field-0.0 in
    let at : is_at words (sum_codes) c.turns.reader.rest.now ≡ true = search rules in
    rw (p.1, p.2) (gather_fails sum_sign e (sum_codes) (form c.args.levels (both (one_of Plus minus) product)) c.turns.terms c.turns.signs (state c.turns.reader) (state c.level.new.reader) _ at (pair_fails e c.args.levels (one_of Plus minus) product c.in_ok-sign.sign (state c.turns.reader) (state c.take_sum_sign.new.reader) (state c.level.new.reader) c.in_ok-sign.ensures c.in_err-next.ensures) c.turns.invariant)

pub comparison-returns-then-not-at_comparison : goal.comparison-returns-then-not-at_comparison
comparison-returns-then-not-at_comparison t c =
    let at : is_at words order_codes c.args.reader.now.rest.now ≡ false = search rules in
    compared_alone c.args.levels c.args.first (state c.args.reader.now) at

pub comparison-returns-in_err-right : goal.comparison-returns-in_err-right
comparison-returns-in_err-right t c =
    let p = err_from_is_err_and c.from_residual-in_err-right.result c.from_residual-in_err-right.ensures.1 in
    let e = c.in_err-right.field-0.0 in
    let at : is_at words order_codes c.args.reader.now.rest.now ≡ true = search rules in
    rw (p.1, p.2) (compared_fails e c.args.levels c.args.first (state c.args.reader.now) c.in_ok-sign.sign (state c.take_comparison.new.reader) (state c.level.new.reader) at c.in_ok-sign.ensures c.in_err-right.ensures)

pub comparison-returns : goal.comparison-returns
comparison-returns t c =
    let at : is_at words order_codes c.args.reader.now.rest.now ≡ true = search rules in
    let all = compared_pair c.args.levels c.args.first (state c.args.reader.now) c.in_ok-sign.sign (state c.take_comparison.new.reader) (c.in_ok-right.field-0-0, c.in_ok-right.right) (state c.level.new.reader) at c.in_ok-sign.ensures c.in_ok-right.ensures in
    rw (c.comparison_of-operator.ensures, c.in_ok-left.ensures, c.in_ok-right-2.ensures) all

pub chain-returns-then-not-is_at : goal.chain-returns-then-not-is_at
chain-returns-then-not-is_at t c =
    let at : is_at words (code_of (sign_of c.args.level) ∷ []) c.args.reader.now.rest.now ≡ false = search rules in
    fold_alone (λ (w : Word). w.place) (node_of c.args.level) (chain_of (node_of c.args.level)) (chain_folds (node_of c.args.level)) c.args.levels (operand_form c.args.level) (sign_of c.args.level) [] c.args.first (state c.args.reader.now) at

pub chain-returns : goal.chain-returns
chain-returns t c =
    let at : is_at words (code_of (sign_of c.args.level) ∷ []) c.args.reader.now.rest.now ≡ true = search rules in
    let all : turned (gathered (λ (w : Word). w.place) (c.args.first.1 ∷ []) []) (turns words (code_of (sign_of c.args.level) ∷ []) (form c.args.levels (both (one_of (sign_of c.args.level) []) (operand_form c.args.level))) (state c.args.reader.now)) ≡ Ok ((c.more_operands.new.operands, c.more_operands.new.places), state c.more_operands.new.reader) = search rules in
    fold_more (λ (w : Word). w.place) (node_of c.args.level) (chain_of (node_of c.args.level)) (chain_folds (node_of c.args.level)) c.args.levels (operand_form c.args.level) (sign_of c.args.level) [] c.args.first (state c.args.reader.now) c.more_operands.new.operands c.more_operands.new.places (state c.more_operands.new.reader) at all ∙ search rules

pub sum-returns-then-not-at_sum_sign : goal.sum-returns-then-not-at_sum_sign
sum-returns-then-not-at_sum_sign t c =
    let at : is_at words (sum_codes) c.args.reader.now.rest.now ≡ false = search rules in
    fold_alone sum_sign exprs.Sum sum_of sum_folds c.args.levels product Plus minus c.args.first (state c.args.reader.now) at

pub sum-returns : goal.sum-returns
sum-returns t c =
    let at : is_at words (sum_codes) c.args.reader.now.rest.now ≡ true = search rules in
    let all : turned (gathered sum_sign (c.args.first.1 ∷ []) []) (turns words (sum_codes) (form c.args.levels (both (one_of Plus minus) product)) (state c.args.reader.now)) ≡ Ok ((c.more_terms.new.terms, c.more_terms.new.signs), state c.more_terms.new.reader) = search rules in
    fold_more sum_sign exprs.Sum sum_of sum_folds c.args.levels product Plus minus c.args.first (state c.args.reader.now) c.more_terms.new.terms c.more_terms.new.signs (state c.more_terms.new.reader) at all ∙ search rules

pub level-returns-in_err-found : goal.level-returns-in_err-found
level-returns-in_err-found t c =
    let p = err_from_is_err_and c.from_residual.result c.from_residual.ensures.1 in
    let e = c.in_err-found.field-0.0 in
    rw (p.1, p.2) (fails_above e c.args.levels c.args.top level_kinds.Unary (state c.args.reader.now) (state c.unary.new.reader) (omega arith) c.in_err-found.ensures)

pub level-returns-in_err-found-2 : goal.level-returns-in_err-found-2
level-returns-in_err-found-2 t c =
    let p = err_from_is_err_and c.from_residual-in_err-found-2.result c.from_residual-in_err-found-2.ensures.1 in
    let e = c.in_err-found-2.field-0.0 in
    rw (p.1, p.2) (turn_fails e c.args.levels c.args.top c.turns.next c.turns.reached c.turns.found (state c.args.reader.now) (state c.turns.reader) (state c.rest.new.reader) c.turns.invariant.next (search (arith, rules)) (search (arith, rules)) c.turns.invariant.read c.in_err-found-2.ensures)

pub level-turns-preserved : goal.level-turns-preserved
level-turns-preserved t c =
    record {
      read = turned_on c.args.levels c.turns.next c.turns.reached c.turns.found c.in_ok-found-2.found (state c.args.reader.now) (state c.turns.reader) (state c.rest.new.reader) c.turns.invariant.next (search (arith, rules)) c.turns.invariant.read c.in_ok-found-2.ensures;
      next = search rules;
      within = search (arith, rules);
    }

pub level-returns : goal.level-returns
level-returns t c =
    turns_end c.args.levels c.args.top c.turns.next c.turns.reached c.turns.found (state c.args.reader.now) (state c.turns.reader) c.turns.invariant.next c.turns.invariant.within (λ a b. grind (arith, rules)) c.turns.invariant.read
