use Rattle.std.proofs.Common.{◌≡◌, arith, rules, true, false, [], ◌∷◌, ◌++◌, refl}
use Rattle.std.proofs.lemmas.Result.{err_from_is_err_and}
use Rattle.uc_forms.specs.Form.{after}
use Rattle.uc_forms.specs.Reading.{is_at}
use Rattle.uc_forms.proofs.Shapes.{after_is, after_fails}
use Rattle.uc_forms.proofs.CountedTurns.{goes_on, is_done, loop_fails}
use Rattle.uc_grammar.specs.Code.{code_of}
use Rattle.uc_grammar.specs.declared.word.Kind.TheVariants.{Comma}
use Rattle.uc_grammar.specs.Syntax.{words, rule, opens, record_braces, array, ty, parameter}
use Rattle.uc_parse_expressions.specs.Reading.{state, form}
use Rattle.uc_parse_expressions.proofs.Here.{takes, one_deeper, none_left}
use Rattle.uc_parse_expressions.specs.Tails.{braced}
use Rattle.uc_parse_expressions.proofs.types.+types.Goals as goal

pub array-returns-then-levels-eq0 : goal.array-returns-then-levels-eq0
array-returns-then-levels-eq0 t c = rw c.no_level.ensures (none_left c.args.levels array (state c.args.reader.now) c.if-levels-eq0.true)

pub array-returns-in_err-bracket : goal.array-returns-in_err-bracket
array-returns-in_err-bracket t c = rw (one_deeper c.args.levels array (state c.args.reader.now) (omega arith)) (search rules)

pub array-returns-in_err-index : goal.array-returns-in_err-index
array-returns-in_err-index t c = rw (one_deeper c.args.levels array (state c.args.reader.now) (omega arith)) (search rules)

pub array-returns-in_err-take : goal.array-returns-in_err-take
array-returns-in_err-take t c = rw (one_deeper c.args.levels array (state c.args.reader.now) (omega arith)) (search rules)

pub array-returns-in_err-element : goal.array-returns-in_err-element
array-returns-in_err-element t c = rw (one_deeper c.args.levels array (state c.args.reader.now) (omega arith)) (search rules)

pub array-returns : goal.array-returns
array-returns t c = rw (one_deeper c.args.levels array (state c.args.reader.now) (omega arith)) (search rules)

pub more_parameters-turns-preserved : goal.more_parameters-turns-preserved
unfolding ty
more_parameters-turns-preserved t c =
    let at : is_at words (code_of Comma ∷ []) c.turns.reader.rest.now ≡ true = search rules in
    let read = after_is rule opens c.args.levels Comma parameter c.in_ok-take.field-0 c.in_ok-next.next (state c.turns.reader) (state c.take.new.self) (state c.parameter.new.reader) c.in_ok-take.ensures c.in_ok-next.ensures in
    let pushed : c.push.new.self ≡ c.turns.found ++ c.in_ok-next.next ∷ [] = c.in_ok-push.ensures.ok in
    rw pushed (goes_on words (code_of Comma ∷ []) (form c.args.levels (after Comma parameter)) c.turns.found (state c.turns.reader) c.in_ok-next.next (state c.parameter.new.reader) _ (takes c.args.levels (after Comma parameter) refl) at read c.turns.invariant)

pub more_parameters-turns-smaller : goal.more_parameters-turns-smaller
unfolding ty
more_parameters-turns-smaller t c =
    takes c.args.levels (after Comma parameter) refl (state c.turns.reader) c.in_ok-next.next (state c.parameter.new.reader) (after_is rule opens c.args.levels Comma parameter c.in_ok-take.field-0 c.in_ok-next.next (state c.turns.reader) (state c.take.new.self) (state c.parameter.new.reader) c.in_ok-take.ensures c.in_ok-next.ensures)

pub more_parameters-returns : goal.more_parameters-returns
more_parameters-returns t c =
    let at : is_at words (code_of Comma ∷ []) c.turns.reader.rest.now ≡ false = search rules in
    is_done words (code_of Comma ∷ []) (form c.args.levels (after Comma parameter)) c.turns.found (state c.turns.reader) _ at c.turns.invariant

pub more_parameters-returns-in_err-next : goal.more_parameters-returns-in_err-next
more_parameters-returns-in_err-next t c =
    let p = err_from_is_err_and c.from_residual-in_err-next.result c.from_residual-in_err-next.ensures.1 in
    let e = c.in_err-next.field-0.0 in
    let at : is_at words (code_of Comma ∷ []) c.turns.reader.rest.now ≡ true = search rules in
    rw (p.1, p.2) (loop_fails words e (code_of Comma ∷ []) (form c.args.levels (after Comma parameter)) c.turns.found (state c.turns.reader) (state c.parameter.new.reader) _ at (after_fails rule opens e c.args.levels Comma parameter c.in_ok-take.field-0 (state c.turns.reader) (state c.take.new.self) (state c.parameter.new.reader) c.in_ok-take.ensures c.in_err-next.ensures) c.turns.invariant)

pub record_braces-returns-then-levels-eq0 : goal.record_braces-returns-then-levels-eq0
record_braces-returns-then-levels-eq0 t c = rw c.no_level.ensures (none_left c.args.levels record_braces (state c.args.reader.now) c.if-levels-eq0.true)

pub record_braces-returns-in_err-take : goal.record_braces-returns-in_err-take
record_braces-returns-in_err-take t c = rw (one_deeper c.args.levels record_braces (state c.args.reader.now) (omega arith)) (search rules)

pub record_braces-returns-in_err-fields : goal.record_braces-returns-in_err-fields
record_braces-returns-in_err-fields t c = rw (one_deeper c.args.levels record_braces (state c.args.reader.now) (omega arith)) (search rules)

pub record_braces-returns-in_err-take-2 : goal.record_braces-returns-in_err-take-2
record_braces-returns-in_err-take-2 t c = rw (one_deeper c.args.levels record_braces (state c.args.reader.now) (omega arith)) (search rules)

pub record_braces-returns : goal.record_braces-returns
record_braces-returns t c = rw (one_deeper c.args.levels record_braces (state c.args.reader.now) (omega arith)) (search rules)

pub ty-returns : goal.ty-returns
unfolding ty braced
ty-returns t c = search rules
