use Rattle.std.proofs.Common.{◌≡◌, rules, true, false, refl, [], ◌∷◌, ◌++◌}
use Rattle.std.proofs.lemmas.Result.{err_from_is_err_and}
use Rattle.uc_forms.proofs.CountedTurns.{goes_on, is_done, loop_fails}
use Rattle.uc_forms.specs.Reading.{is_at}
use Rattle.uc_grammar.specs.Code.{code_of}
use Rattle.uc_grammar.specs.declared.word.Kind.TheVariants.{KwModule}
use Rattle.uc_grammar.specs.Syntax.{words, text, module_form}
use Rattle.uc_parse_expressions.specs.Reading.{state, form}
use Rattle.uc_parse_expressions.proofs.Here.{takes}
use Rattle.uc_parser.proofs.module.modules.Goals as goal

pub turns-preserved : goal.turns-preserved
unfolding module_form
turns-preserved c =
    let at : is_at words (code_of KwModule ∷ []) c.turns.reader.rest.now ≡ true = search rules in
    let pushed : c.push.new.self ≡ c.turns.found ++ c.in_ok-next.next ∷ [] = c.in_ok-push.ensures.ok in
    rw pushed (goes_on words (code_of KwModule ∷ []) (form c.args.levels module_form) c.turns.found (state c.turns.reader) c.in_ok-next.next (state c.module_form.new.reader) _ (takes c.args.levels module_form refl) at c.in_ok-next.ensures c.turns.invariant)

pub turns-smaller : goal.turns-smaller
unfolding module_form
turns-smaller c = takes c.args.levels module_form refl (state c.turns.reader) c.in_ok-next.next (state c.module_form.new.reader) c.in_ok-next.ensures

pub returns : goal.returns
unfolding text module_form
returns c =
    let at : is_at words (code_of KwModule ∷ []) c.turns.reader.rest.now ≡ false = search rules in
    is_done words (code_of KwModule ∷ []) (form c.args.levels module_form) c.turns.found (state c.turns.reader) _ at c.turns.invariant

pub returns-in_err-next : goal.returns-in_err-next
unfolding text module_form
returns-in_err-next c =
    let p = err_from_is_err_and c.from_residual.result c.from_residual.ensures.1 in
    let e = c.in_err-next.field-0.0 in
    let at : is_at words (code_of KwModule ∷ []) c.turns.reader.rest.now ≡ true = search rules in
    rw (p.1, p.2) (loop_fails words e (code_of KwModule ∷ []) (form c.args.levels module_form) c.turns.found (state c.turns.reader) (state c.module_form.new.reader) _ at c.in_err-next.ensures c.turns.invariant)
