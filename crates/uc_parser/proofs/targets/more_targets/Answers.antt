use Rattle.std.proofs.Common.{◌≡◌, rules, true, false, [], ◌∷◌, ◌++◌, refl}
use Rattle.std.proofs.lemmas.Result.{err_from_is_err_and}
use Rattle.uc_forms.specs.Form.{after}
use Rattle.uc_forms.specs.Reading.{is_at}
use Rattle.uc_forms.proofs.Shapes.{after_is, after_fails}
use Rattle.uc_forms.proofs.CountedTurns.{goes_on, is_done, loop_fails}
use Rattle.uc_grammar.specs.Code.{code_of}
use Rattle.uc_grammar.specs.declared.word.Kind.TheVariants.{Comma}
use Rattle.uc_grammar.specs.Syntax.{words, rule, opens, target}
use Rattle.uc_parse_expressions.specs.Reading.{state, form}
use Rattle.uc_parse_expressions.proofs.Here.{takes}
use Rattle.uc_parser.proofs.targets.more_targets.Goals as goal

pub turns-preserved : goal.turns-preserved
turns-preserved c =
    let at : is_at words (code_of Comma ∷ []) c.turns.reader.rest.now ≡ true = search rules in
    let read = after_is rule opens c.args.levels Comma target c.in_ok-take.field-0 c.in_ok-next.next (state c.turns.reader) (state c.take.new.self) (state c.target.new.reader) c.in_ok-take.ensures c.in_ok-next.ensures in
    let pushed : c.push.new.self ≡ c.turns.found ++ c.in_ok-next.next ∷ [] = c.in_ok-push.ensures.ok in
    rw pushed (goes_on words (code_of Comma ∷ []) (form c.args.levels (after Comma target)) c.turns.found (state c.turns.reader) c.in_ok-next.next (state c.target.new.reader) _ (takes c.args.levels (after Comma target) refl) at read c.turns.invariant)

pub turns-smaller : goal.turns-smaller
turns-smaller c =
    takes c.args.levels (after Comma target) refl (state c.turns.reader) c.in_ok-next.next (state c.target.new.reader) (after_is rule opens c.args.levels Comma target c.in_ok-take.field-0 c.in_ok-next.next (state c.turns.reader) (state c.take.new.self) (state c.target.new.reader) c.in_ok-take.ensures c.in_ok-next.ensures)

pub returns : goal.returns
returns c =
    let at : is_at words (code_of Comma ∷ []) c.turns.reader.rest.now ≡ false = search rules in
    is_done words (code_of Comma ∷ []) (form c.args.levels (after Comma target)) c.turns.found (state c.turns.reader) _ at c.turns.invariant

pub returns-in_err-next : goal.returns-in_err-next
returns-in_err-next c =
    let p = err_from_is_err_and c.from_residual-in_err-next.result c.from_residual-in_err-next.ensures.1 in
    let e = c.in_err-next.field-0.0 in
    let at : is_at words (code_of Comma ∷ []) c.turns.reader.rest.now ≡ true = search rules in
    rw (p.1, p.2) (loop_fails words e (code_of Comma ∷ []) (form c.args.levels (after Comma target)) c.turns.found (state c.turns.reader) (state c.target.new.reader) _ at (after_fails rule opens e c.args.levels Comma target c.in_ok-take.field-0 (state c.turns.reader) (state c.take.new.self) (state c.target.new.reader) c.in_ok-take.ensures c.in_err-next.ensures) c.turns.invariant)
