use Rattle.std.proofs.Common.{◌≡◌, ap, rules, true, false, refl, [], ◌∷◌, ◌++◌, List}
use Rattle.std.proofs.lemmas.Result.{err_from_is_err_and}
use Rattle.uc_forms.specs.Counted.{Outcome, turned, count_word}
use Rattle.uc_forms.proofs.CountedEndings.{endings_go_on, ending_fails, endings_done}
use Rattle.uc_forms.proofs.Shapes.{made_fails}
use Rattle.uc_forms.specs.Form.{until, word}
use Rattle.uc_forms.specs.Reading.{is_at}
use Rattle.uc_grammar.specs.Code.{code_of}
use Rattle.uc_grammar.specs.declared.word.Word.{Word}
use Rattle.uc_grammar.specs.declared.word.Kind.TheVariants.{RightBrace}
use Rattle.uc_grammar.specs.Syntax.{words, rule, opens, type_declaration, declaration}
use Rattle.uc_parse_expressions.specs.Reading.{state, form}
use Rattle.uc_parse_expressions.proofs.Here.{takes}
use Rattle.uc_syntax.specs.declared.declaration.Decl.{Decl}
use Rattle.uc_parser.proofs.module.declarations.Goals as goal

pub turns-preserved : goal.turns-preserved
unfolding declaration type_declaration
turns-preserved c =
    let at : is_at words (code_of RightBrace ∷ []) c.turns.reader.rest.now ≡ false = search rules in
    let pushed : c.push.new.self ≡ c.turns.found ++ c.in_ok-next.next ∷ [] = c.in_ok-push.ensures.ok in
    rw pushed (endings_go_on words (code_of RightBrace ∷ []) (form c.args.levels declaration) (count_word words RightBrace) c.turns.found (state c.turns.reader) c.in_ok-next.next (state c.declaration.new.reader) _ (takes c.args.levels declaration refl) at c.in_ok-next.ensures c.turns.invariant)

pub turns-smaller : goal.turns-smaller
unfolding declaration type_declaration
turns-smaller c = takes c.args.levels declaration refl (state c.turns.reader) c.in_ok-next.next (state c.declaration.new.reader) c.in_ok-next.ensures

pub returns : goal.returns
returns c =
    let at : is_at words (code_of RightBrace ∷ []) c.turns.reader.rest.now ≡ true = search rules in
    ap (λ (r : Outcome Word (List Decl × Word)). turned (λ x. x.0) r) (endings_done words (code_of RightBrace ∷ []) (form c.args.levels declaration) (count_word words RightBrace) c.turns.found (state c.turns.reader) c.in_ok-take.field-0 (state c.take.new.self) _ at c.in_ok-take.ensures c.turns.invariant)

pub returns-in_err-next : goal.returns-in_err-next
returns-in_err-next c =
    let p = err_from_is_err_and c.from_residual.result c.from_residual.ensures.1 in
    let e = c.in_err-next.field-0.0 in
    let at : is_at words (code_of RightBrace ∷ []) c.turns.reader.rest.now ≡ false = search rules in
    rw (p.1, p.2) (made_fails rule opens e c.args.levels (λ x. x.0) (until declaration (word RightBrace)) (state c.args.reader.now) (state c.declaration.new.reader) (ending_fails words e (code_of RightBrace ∷ []) (form c.args.levels declaration) (count_word words RightBrace) c.turns.found (state c.turns.reader) (state c.declaration.new.reader) _ at c.in_err-next.ensures c.turns.invariant))
