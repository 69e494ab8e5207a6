use Rattle.std.proofs.Common.{◌≡◌, ap, rules, true, false, refl, [], ◌∷◌, ◌++◌, List}
use Rattle.std.proofs.lemmas.Result.{err_from_is_err_and}
use Rattle.uc_forms.specs.Counted.{Outcome, turned, count_word}
use Rattle.uc_forms.proofs.CountedEndings.{endings_go_on, ending_fails, endings_done}
use Rattle.uc_forms.proofs.Shapes.{made_fails}
use Rattle.uc_forms.specs.Form.{until, word}
use Rattle.uc_forms.specs.Reading.{is_at}
use Rattle.uc_grammar.specs.Code.{code_of}
use Rattle.uc_grammar.specs.declared.word.Word.{Word}
use Rattle.uc_grammar.specs.declared.word.Kind.TheVariants.{RightBrace}
use Rattle.uc_grammar.specs.Syntax.{words, rule, opens, run, counterexample, command}
use Rattle.uc_parse_expressions.specs.Reading.{state, form}
use Rattle.uc_parse_expressions.proofs.Here.{takes}
use Rattle.uc_syntax.specs.declared.declaration.Command.{Command}
use Rattle.uc_parser.proofs.command.commands.Goals as goal

pub turns-preserved : goal.turns-preserved
unfolding command run counterexample
turns-preserved c =
    let at : is_at words (code_of RightBrace ∷ []) c.turns.reader.rest.now ≡ false = search rules in
    let pushed : c.push.new.self ≡ c.turns.found ++ c.in_ok-next.next ∷ [] = c.in_ok-push.ensures.ok in
    rw pushed (endings_go_on words (code_of RightBrace ∷ []) (form c.args.levels command) (count_word words RightBrace) c.turns.found (state c.turns.reader) c.in_ok-next.next (state c.command.new.reader) _ (takes c.args.levels command refl) at c.in_ok-next.ensures c.turns.invariant)

pub turns-smaller : goal.turns-smaller
unfolding command run counterexample
turns-smaller c = takes c.args.levels command refl (state c.turns.reader) c.in_ok-next.next (state c.command.new.reader) c.in_ok-next.ensures

pub returns : goal.returns
returns c =
    let at : is_at words (code_of RightBrace ∷ []) c.turns.reader.rest.now ≡ true = search rules in
    ap (λ (r : Outcome Word (List Command × Word)). turned (λ x. x.0) r) (endings_done words (code_of RightBrace ∷ []) (form c.args.levels command) (count_word words RightBrace) c.turns.found (state c.turns.reader) c.in_ok-take.field-0 (state c.take.new.self) _ at c.in_ok-take.ensures c.turns.invariant)

pub returns-in_err-next : goal.returns-in_err-next
returns-in_err-next c =
    let p = err_from_is_err_and c.from_residual.result c.from_residual.ensures.1 in
    let e = c.in_err-next.field-0.0 in
    let at : is_at words (code_of RightBrace ∷ []) c.turns.reader.rest.now ≡ false = search rules in
    rw (p.1, p.2) (made_fails rule opens e c.args.levels (λ x. x.0) (until command (word RightBrace)) (state c.args.reader.now) (state c.command.new.reader) (ending_fails words e (code_of RightBrace ∷ []) (form c.args.levels command) (count_word words RightBrace) c.turns.found (state c.turns.reader) (state c.command.new.reader) _ at c.in_err-next.ensures c.turns.invariant))
