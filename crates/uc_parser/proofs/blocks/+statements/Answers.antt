use Rattle.std.proofs.Common.{◌≡◌, arith, rules, true, false, [], ◌∷◌, ◌++◌, refl}
use Rattle.std.proofs.lemmas.Result.{err_from_is_err_and}
use Rattle.uc_forms.specs.Reading.{is_at}
use Rattle.uc_forms.specs.Counted.{count_word}
use Rattle.uc_forms.proofs.CountedEndings.{endings_go_on, ending_fails, endings_done, end_stops}
use Rattle.uc_forms.proofs.Links.{links_go_on, links_ended, links_done, link_fails}
use Rattle.uc_grammar.specs.Code.{code_of}
use Rattle.uc_grammar.specs.declared.word.Kind.TheVariants.{LeftBrace, RightBrace, KwVar, KwSkip, KwAssert, KwAssume, KwHavoc, KwIf, KwElse, KwCase, KwDefault, KwEsac, KwFor}
use Rattle.uc_grammar.specs.Syntax.{words, block, statement, default_block}
use Rattle.uc_parse_expressions.specs.Reading.{state, form}
use Rattle.uc_parse_expressions.proofs.Here.{one_deeper, none_left}
use Rattle.uc_parser.specs.ParseStatementsParts.{else_branch, case_arm, case_end}
use Rattle.uc_parser.proofs.Turned.{turned_back, turned_stopped, turned_stops}
use Rattle.uc_parser.proofs.Takes.{statement_takes, branch_takes, case_arm_takes}
use Rattle.uc_parser.proofs.Choice.{Starts, StartsNot, is_local, is_skip, is_block, is_condition, is_assertion, is_assumption, is_havoc, is_branching, is_if, is_case, is_for, is_change}
use Rattle.uc_parser.proofs.Branches.{else_if_is, else_if_stops, else_is, else_stops, if_given, case_given}
use Rattle.uc_parser.proofs.blocks.+statements.Goals as goal

-- ---- blocks

pub block-returns-then-levels-eq0 : goal.block-returns-then-levels-eq0
block-returns-then-levels-eq0 t c = rw c.no_level.ensures (none_left c.args.levels block (state c.args.reader.now) c.if-levels-eq0.true)

pub block-returns-in_err-brace : goal.block-returns-in_err-brace
block-returns-in_err-brace t c = rw (one_deeper c.args.levels block (state c.args.reader.now) (omega arith)) (search rules)

pub block-returns-in_err-found : goal.block-returns-in_err-found
block-returns-in_err-found t c = rw (one_deeper c.args.levels block (state c.args.reader.now) (omega arith)) (search rules)

pub block-returns : goal.block-returns
block-returns t c = rw (one_deeper c.args.levels block (state c.args.reader.now) (omega arith)) (search rules)

pub up_to_brace-turns-preserved : goal.up_to_brace-turns-preserved
up_to_brace-turns-preserved t c =
    let at : StartsNot RightBrace (state c.turns.reader) = search rules in
    let pushed : c.push.new.self ≡ c.turns.found ++ c.in_ok-next.next ∷ [] = c.in_ok-push.ensures.ok in
    rw pushed (endings_go_on words (code_of RightBrace ∷ []) (form c.args.levels statement) (count_word words RightBrace) c.turns.found (state c.turns.reader) c.in_ok-next.next (state c.statement.new.reader) _ (statement_takes c.args.levels) at c.in_ok-next.ensures c.turns.invariant)

pub up_to_brace-turns-smaller : goal.up_to_brace-turns-smaller
up_to_brace-turns-smaller t c = statement_takes c.args.levels (state c.turns.reader) c.in_ok-next.next (state c.statement.new.reader) c.in_ok-next.ensures

pub up_to_brace-returns : goal.up_to_brace-returns
up_to_brace-returns t c =
    let at : Starts RightBrace (state c.turns.reader) = search rules in
    endings_done words (code_of RightBrace ∷ []) (form c.args.levels statement) (count_word words RightBrace) c.turns.found (state c.turns.reader) c.in_ok-brace.brace (state c.take.new.self) _ at c.in_ok-brace.ensures c.turns.invariant

pub up_to_brace-returns-in_err-next : goal.up_to_brace-returns-in_err-next
up_to_brace-returns-in_err-next t c =
    let p = err_from_is_err_and c.from_residual.result c.from_residual.ensures.1 in
    let e = c.in_err-next.field-0.0 in
    let at : StartsNot RightBrace (state c.turns.reader) = search rules in
    rw (p.1, p.2) (ending_fails words e (code_of RightBrace ∷ []) (form c.args.levels statement) (count_word words RightBrace) c.turns.found (state c.turns.reader) (state c.statement.new.reader) _ at c.in_err-next.ensures c.turns.invariant)

-- ---- the choice of a statement

pub statement-returns-then-is_at : goal.statement-returns-then-is_at
statement-returns-then-is_at t c =
    let at : Starts KwVar (state c.args.reader.now) = search rules in
    rw (is_local c.args.levels (state c.args.reader.now) at) c.local.ensures

pub statement-returns-then-is_at-2 : goal.statement-returns-then-is_at-2
statement-returns-then-is_at-2 t c =
    let no1 : StartsNot KwVar (state c.args.reader.now) = search rules in
    let at : Starts KwSkip (state c.args.reader.now) = search rules in
    rw (is_skip c.args.levels (state c.args.reader.now) no1 at) c.skip.ensures

pub statement-returns-then-is_at-3 : goal.statement-returns-then-is_at-3
statement-returns-then-is_at-3 t c =
    let no1 : StartsNot KwVar (state c.args.reader.now) = search rules in
    let no2 : StartsNot KwSkip (state c.args.reader.now) = search rules in
    let at : Starts LeftBrace (state c.args.reader.now) = search rules in
    rw (is_block c.args.levels (state c.args.reader.now) no1 no2 at) c.nested_block.ensures

pub statement-returns : goal.statement-returns
statement-returns t c =
    let no1 : StartsNot KwVar (state c.args.reader.now) = search rules in
    let no2 : StartsNot KwSkip (state c.args.reader.now) = search rules in
    let no3 : StartsNot LeftBrace (state c.args.reader.now) = search rules in
    rw (is_condition c.args.levels (state c.args.reader.now) no1 no2 no3) c.conditions.ensures

pub conditions-returns-then-is_at : goal.conditions-returns-then-is_at
conditions-returns-then-is_at t c =
    let at : Starts KwAssert (state c.args.reader.now) = search rules in
    rw (is_assertion c.args.levels (state c.args.reader.now) at) c.assertion.ensures

pub conditions-returns-then-is_at-2 : goal.conditions-returns-then-is_at-2
conditions-returns-then-is_at-2 t c =
    let no1 : StartsNot KwAssert (state c.args.reader.now) = search rules in
    let at : Starts KwAssume (state c.args.reader.now) = search rules in
    rw (is_assumption c.args.levels (state c.args.reader.now) no1 at) c.assumption.ensures

pub conditions-returns-then-is_at-3 : goal.conditions-returns-then-is_at-3
conditions-returns-then-is_at-3 t c =
    let no1 : StartsNot KwAssert (state c.args.reader.now) = search rules in
    let no2 : StartsNot KwAssume (state c.args.reader.now) = search rules in
    let at : Starts KwHavoc (state c.args.reader.now) = search rules in
    rw (is_havoc c.args.levels (state c.args.reader.now) no1 no2 at) c.havoc.ensures

pub conditions-returns : goal.conditions-returns
conditions-returns t c =
    let no1 : StartsNot KwAssert (state c.args.reader.now) = search rules in
    let no2 : StartsNot KwAssume (state c.args.reader.now) = search rules in
    let no3 : StartsNot KwHavoc (state c.args.reader.now) = search rules in
    rw (is_branching c.args.levels (state c.args.reader.now) no1 no2 no3) c.branching.ensures

pub branching-returns-then-is_at : goal.branching-returns-then-is_at
branching-returns-then-is_at t c =
    let at : Starts KwIf (state c.args.reader.now) = search rules in
    rw (is_if c.args.levels (state c.args.reader.now) at) c.if_statement.ensures

pub branching-returns-then-is_at-2 : goal.branching-returns-then-is_at-2
branching-returns-then-is_at-2 t c =
    let no1 : StartsNot KwIf (state c.args.reader.now) = search rules in
    let at : Starts KwCase (state c.args.reader.now) = search rules in
    rw (is_case c.args.levels (state c.args.reader.now) no1 at) c.case_statement.ensures

pub branching-returns-then-is_at-3 : goal.branching-returns-then-is_at-3
branching-returns-then-is_at-3 t c =
    let no1 : StartsNot KwIf (state c.args.reader.now) = search rules in
    let no2 : StartsNot KwCase (state c.args.reader.now) = search rules in
    let at : Starts KwFor (state c.args.reader.now) = search rules in
    rw (is_for c.args.levels (state c.args.reader.now) no1 no2 at) c.for_statement.ensures

pub branching-returns : goal.branching-returns
branching-returns t c =
    let no1 : StartsNot KwIf (state c.args.reader.now) = search rules in
    let no2 : StartsNot KwCase (state c.args.reader.now) = search rules in
    let no3 : StartsNot KwFor (state c.args.reader.now) = search rules in
    rw (is_change c.args.levels (state c.args.reader.now) no1 no2 no3) c.changes.ensures

-- ---- if

pub if_statement-returns : goal.if_statement-returns
if_statement-returns t c = rw (if_given c.args.levels (state c.args.reader.now) (state c.take.new.self) (state c.arm.new.reader) c.in_ok-word.word c.in_ok-first.first c.in_ok-word.ensures c.in_ok-first.ensures, c.in_ok-arms.ensures) refl

pub if_statement-returns-in_err-arms : goal.if_statement-returns-in_err-arms
if_statement-returns-in_err-arms t c =
    let p = err_from_is_err_and c.from_residual-in_err-arms.result c.from_residual-in_err-arms.ensures.1 in
    let e = c.in_err-arms.field-0.0 in
    rw (p.1, p.2, if_given c.args.levels (state c.args.reader.now) (state c.take.new.self) (state c.arm.new.reader) c.in_ok-word.word c.in_ok-first.first c.in_ok-word.ensures c.in_ok-first.ensures) (turned_stops e _ _ (state c.else_branches.new.reader) c.in_err-arms.ensures)

pub else_branches-turns-preserved : goal.else_branches-turns-preserved
else_branches-turns-preserved t c =
    let at : Starts KwElse (state c.turns.reader) = search rules in
    let if_next : Starts KwIf (state c.take.new.self) = search rules in
    let read = else_if_is c.args.levels (state c.turns.reader) (state c.take.new.self) (state c.take-in-turns.new.self) (state c.arm.new.reader) c.in_ok-take.field-0 c.in_ok-take-2.field-0 c.in_ok-next.next c.in_ok-take.ensures if_next c.in_ok-take-2.ensures c.in_ok-next.ensures in
    let pushed : c.push-in-turns.new.self ≡ c.turns.found ++ c.in_ok-next.next ∷ [] = c.in_ok-push-2.ensures.ok in
    rw pushed (links_go_on words (code_of KwElse ∷ []) (form c.args.levels else_branch) c.turns.found (state c.turns.reader) c.in_ok-next.next (state c.arm.new.reader) _ (branch_takes c.args.levels) at read c.turns.invariant)

pub else_branches-turns-smaller : goal.else_branches-turns-smaller
else_branches-turns-smaller t c =
    let if_next : Starts KwIf (state c.take.new.self) = search rules in
    let read = else_if_is c.args.levels (state c.turns.reader) (state c.take.new.self) (state c.take-in-turns.new.self) (state c.arm.new.reader) c.in_ok-take.field-0 c.in_ok-take-2.field-0 c.in_ok-next.next c.in_ok-take.ensures if_next c.in_ok-take-2.ensures c.in_ok-next.ensures in
    branch_takes c.args.levels (state c.turns.reader) _ (state c.arm.new.reader) read

pub else_branches-returns : goal.else_branches-returns
else_branches-returns t c =
    let at : StartsNot KwElse (state c.turns.reader) = search rules in
    links_done words (code_of KwElse ∷ []) (form c.args.levels else_branch) c.turns.found (state c.turns.reader) _ at c.turns.invariant

pub else_branches-returns-then-not-is_at : goal.else_branches-returns-then-not-is_at
else_branches-returns-then-not-is_at t c =
    let at : Starts KwElse (state c.turns.reader) = search rules in
    let block_next : StartsNot KwIf (state c.take.new.self) = search rules in
    let read = else_is c.args.levels (state c.turns.reader) (state c.take.new.self) (state c.statements.new.reader) c.in_ok-take.field-0 c.in_ok-otherwise.otherwise c.in_ok-take.ensures block_next c.in_ok-otherwise.ensures in
    links_ended words (code_of KwElse ∷ []) (form c.args.levels else_branch) c.turns.found (state c.turns.reader) c.in_ok-otherwise.otherwise (state c.statements.new.reader) _ at read c.turns.invariant

pub else_branches-returns-in_err-otherwise : goal.else_branches-returns-in_err-otherwise
else_branches-returns-in_err-otherwise t c =
    let p = err_from_is_err_and c.from_residual-in_err-otherwise.result c.from_residual-in_err-otherwise.ensures.1 in
    let e = c.in_err-otherwise.field-0.0 in
    let at : Starts KwElse (state c.turns.reader) = search rules in
    let block_next : StartsNot KwIf (state c.take.new.self) = search rules in
    let stopped = else_stops e c.args.levels (state c.turns.reader) (state c.take.new.self) (state c.statements.new.reader) c.in_ok-take.field-0 c.in_ok-take.ensures block_next c.in_err-otherwise.ensures in
    rw (p.1, p.2) (link_fails words e (code_of KwElse ∷ []) (form c.args.levels else_branch) c.turns.found (state c.turns.reader) (state c.statements.new.reader) _ at stopped c.turns.invariant)

pub else_branches-returns-in_err-next : goal.else_branches-returns-in_err-next
else_branches-returns-in_err-next t c =
    let p = err_from_is_err_and c.from_residual-in_err-next.result c.from_residual-in_err-next.ensures.1 in
    let e = c.in_err-next.field-0.0 in
    let at : Starts KwElse (state c.turns.reader) = search rules in
    let if_next : Starts KwIf (state c.take.new.self) = search rules in
    let stopped = else_if_stops e c.args.levels (state c.turns.reader) (state c.take.new.self) (state c.take-in-turns.new.self) (state c.arm.new.reader) c.in_ok-take.field-0 c.in_ok-take-2.field-0 c.in_ok-take.ensures if_next c.in_ok-take-2.ensures c.in_err-next.ensures in
    rw (p.1, p.2) (link_fails words e (code_of KwElse ∷ []) (form c.args.levels else_branch) c.turns.found (state c.turns.reader) (state c.arm.new.reader) _ at stopped c.turns.invariant)

-- ---- case

pub case_statement-returns : goal.case_statement-returns
case_statement-returns t c = rw (case_given c.args.levels (state c.args.reader.now) (state c.take.new.self) c.in_ok-word.word c.in_ok-word.ensures, c.in_ok-arms.ensures) refl

pub case_statement-returns-in_err-arms : goal.case_statement-returns-in_err-arms
case_statement-returns-in_err-arms t c =
    let p = err_from_is_err_and c.from_residual-in_err-arms.result c.from_residual-in_err-arms.ensures.1 in
    let e = c.in_err-arms.field-0.0 in
    rw (p.1, p.2, case_given c.args.levels (state c.args.reader.now) (state c.take.new.self) c.in_ok-word.word c.in_ok-word.ensures) (turned_stops e _ _ (state c.case_arms.new.reader) c.in_err-arms.ensures)

pub case_arms-turns-preserved : goal.case_arms-turns-preserved
case_arms-turns-preserved t c =
    let at : is_at words (code_of KwDefault ∷ code_of KwEsac ∷ []) c.turns.reader.rest.now ≡ false = search rules in
    let pushed : c.push.new.self ≡ c.turns.found ++ c.in_ok-next.next ∷ [] = c.in_ok-push.ensures.ok in
    rw pushed (endings_go_on words (code_of KwDefault ∷ code_of KwEsac ∷ []) (form c.args.levels case_arm) (form c.args.levels case_end) c.turns.found (state c.turns.reader) c.in_ok-next.next (state c.case_arm.new.reader) _ (case_arm_takes c.args.levels) at c.in_ok-next.ensures c.turns.invariant)

pub case_arms-turns-smaller : goal.case_arms-turns-smaller
case_arms-turns-smaller t c = case_arm_takes c.args.levels (state c.turns.reader) c.in_ok-next.next (state c.case_arm.new.reader) c.in_ok-next.ensures

pub case_arms-returns : goal.case_arms-returns
case_arms-returns t c =
    let at : is_at words (code_of KwDefault ∷ code_of KwEsac ∷ []) c.turns.reader.rest.now ≡ true = search rules in
    let end = turned_back default_block (form c.args.levels case_end (state c.turns.reader)) c.in_ok-default.default (state c.default_arm.new.reader) c.in_ok-default.ensures in
    let done = endings_done words (code_of KwDefault ∷ code_of KwEsac ∷ []) (form c.args.levels case_arm) (form c.args.levels case_end) c.turns.found (state c.turns.reader) end.0 (state c.default_arm.new.reader) _ at end.2 c.turns.invariant in
    rw (done, end.1) refl

pub case_arms-returns-in_err-next : goal.case_arms-returns-in_err-next
case_arms-returns-in_err-next t c =
    let p = err_from_is_err_and c.from_residual.result c.from_residual.ensures.1 in
    let e = c.in_err-next.field-0.0 in
    let at : is_at words (code_of KwDefault ∷ code_of KwEsac ∷ []) c.turns.reader.rest.now ≡ false = search rules in
    rw (p.1, p.2) (turned_stops e _ _ (state c.case_arm.new.reader) (ending_fails words e (code_of KwDefault ∷ code_of KwEsac ∷ []) (form c.args.levels case_arm) (form c.args.levels case_end) c.turns.found (state c.turns.reader) (state c.case_arm.new.reader) _ at c.in_err-next.ensures c.turns.invariant))

pub case_arms-returns-in_err-default : goal.case_arms-returns-in_err-default
case_arms-returns-in_err-default t c =
    let p = err_from_is_err_and c.from_residual-in_err-default.result c.from_residual-in_err-default.ensures.1 in
    let e = c.in_err-default.field-0.0 in
    let at : is_at words (code_of KwDefault ∷ code_of KwEsac ∷ []) c.turns.reader.rest.now ≡ true = search rules in
    let stopped = turned_stopped e default_block (form c.args.levels case_end (state c.turns.reader)) (state c.default_arm.new.reader) c.in_err-default.ensures in
    rw (p.1, p.2) (turned_stops e _ _ (state c.default_arm.new.reader) (end_stops words e (code_of KwDefault ∷ code_of KwEsac ∷ []) (form c.args.levels case_arm) (form c.args.levels case_end) c.turns.found (state c.turns.reader) (state c.default_arm.new.reader) _ at stopped c.turns.invariant))
