use Rattle.std.proofs.Common.{◌≡◌, rules, true, false, [], ◌∷◌, ◌++◌}
use Rattle.std.proofs.lemmas.Result.{err_from_is_err_and}
use Rattle.uc_forms.specs.Reading.{is_at}
use Rattle.uc_forms.proofs.CountedTurns.{goes_on, is_done, loop_fails}
use Rattle.uc_grammar.specs.Code.{code_of}
use Rattle.uc_grammar.specs.declared.word.Kind.TheVariants.{Dot, LeftBracket}
use Rattle.uc_grammar.specs.Syntax.{words, target_part}
use Rattle.uc_parse_expressions.specs.Reading.{state, form}
use Rattle.uc_parser.proofs.Takes.{part_takes}
use Rattle.uc_parser.proofs.targets.target_parts.Goals as goal

pub turns-preserved : goal.turns-preserved
turns-preserved c =
    let at : is_at words (code_of Dot ∷ code_of LeftBracket ∷ []) c.turns.reader.rest.now ≡ true = search rules in
    let pushed : c.push.new.self ≡ c.turns.found ++ c.in_ok-next.next ∷ [] = c.in_ok-push.ensures.ok in
    rw pushed (goes_on words (code_of Dot ∷ code_of LeftBracket ∷ []) (form c.args.levels target_part) c.turns.found (state c.turns.reader) c.in_ok-next.next (state c.target_part.new.reader) _ (part_takes c.args.levels) at c.in_ok-next.ensures c.turns.invariant)

pub turns-smaller : goal.turns-smaller
turns-smaller c = part_takes c.args.levels (state c.turns.reader) c.in_ok-next.next (state c.target_part.new.reader) c.in_ok-next.ensures

pub returns : goal.returns
unfolding target_part
returns c =
    let at : is_at words (code_of Dot ∷ code_of LeftBracket ∷ []) c.turns.reader.rest.now ≡ false = search rules in
    is_done words (code_of Dot ∷ code_of LeftBracket ∷ []) (form c.args.levels target_part) c.turns.found (state c.turns.reader) _ at c.turns.invariant

pub returns-in_err-next : goal.returns-in_err-next
unfolding target_part
returns-in_err-next c =
    let p = err_from_is_err_and c.from_residual.result c.from_residual.ensures.1 in
    let e = c.in_err-next.field-0.0 in
    let at : is_at words (code_of Dot ∷ code_of LeftBracket ∷ []) c.turns.reader.rest.now ≡ true = search rules in
    rw (p.1, p.2) (loop_fails words e (code_of Dot ∷ code_of LeftBracket ∷ []) (form c.args.levels target_part) c.turns.found (state c.turns.reader) (state c.target_part.new.reader) _ at c.in_err-next.ensures c.turns.invariant)
