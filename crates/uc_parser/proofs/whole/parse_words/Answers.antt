use Rattle.std.proofs.Common.{◌≡◌, Ok, Err, None, refl, sym, ◌∙◌, rules}
use Rattle.uc_forms.specs.declared.fault.Fault.TheVariants.{Syntax, TooDeep}
use Rattle.uc_forms.specs.Answer.{too_many, wrong, too_deep}
use Rattle.uc_forms.specs.Tally.{fresh}
use Rattle.uc_forms.proofs.CountedWhole.{all_read, left_over, many_read, many_stopped, wrong_stopped, deep_stopped}
use Rattle.uc_grammar.specs.Language.{grammar}
use Rattle.uc_grammar.specs.Syntax.{text}
use Rattle.uc_parse_expressions.specs.Reading.{state, form}
use Rattle.uc_parser.specs.Verdict.{max_levels, max_names}
use Rattle.uc_parser.proofs.Texts.{read_from}
use Rattle.uc_parser.proofs.whole.parse_words.Goals as goal

pub returns-in-Some : goal.returns-in-Some
returns-in-Some c =
    let counts = read_from max_levels c.args.words.now c.new-reader.result.rest.now c.new-reader.result.names (fresh max_names) (Ok (c.in-Ok.found, state c.modules.new.reader)) c.new-reader.ensures.rest c.new-reader.ensures.names c.in-Ok.ensures in
    (too_many c.in-Some.name, many_read grammar max_levels max_names c.args.words.now c.in-Ok.found c.modules.new.reader.rest.now c.modules.new.reader.names c.in-Some.name counts c.in-Some.is, refl)

pub returns-then-not-is_empty : goal.returns-then-not-is_empty
returns-then-not-is_empty c =
    let counts = read_from max_levels c.args.words.now c.new-reader.result.rest.now c.new-reader.result.names (fresh max_names) (Ok (c.in-Ok.found, state c.modules.new.reader)) c.new-reader.ensures.rest c.new-reader.ensures.names c.in-Ok.ensures in
    let none : c.modules.new.reader.names.past ≡ None = search rules in
    (wrong c.modules.new.reader.rest.now, left_over grammar max_levels max_names c.args.words.now c.in-Ok.found c.modules.new.reader.rest.now c.modules.new.reader.names counts none (sym c.is_empty.ensures ∙ c.if-not-is_empty.true), rw c.place.ensures refl)

pub returns-else-not-is_empty : goal.returns-else-not-is_empty
returns-else-not-is_empty c =
    let counts = read_from max_levels c.args.words.now c.new-reader.result.rest.now c.new-reader.result.names (fresh max_names) (Ok (c.in-Ok.found, state c.modules.new.reader)) c.new-reader.ensures.rest c.new-reader.ensures.names c.in-Ok.ensures in
    let none : c.modules.new.reader.names.past ≡ None = search rules in
    all_read grammar max_levels max_names c.args.words.now c.in-Ok.found c.modules.new.reader.rest.now c.modules.new.reader.names counts none (sym c.is_empty.ensures ∙ c.if-not-is_empty.false)

pub returns-in-Some-past : goal.returns-in-Some-past
returns-in-Some-past c =
    let stopped : form max_levels text (state c.new-reader.result) ≡ Err (c.in-Err-At.fault, state c.modules.new.reader) = search rules in
    let counts = read_from max_levels c.args.words.now c.new-reader.result.rest.now c.new-reader.result.names (fresh max_names) (Err (c.in-Err-At.fault, state c.modules.new.reader)) c.new-reader.ensures.rest c.new-reader.ensures.names stopped in
    (too_many c.in-Some-past.name, many_stopped grammar max_levels max_names c.args.words.now c.in-Err-At.fault c.modules.new.reader.rest.now c.modules.new.reader.names c.in-Some-past.name counts c.in-Some-past.is, refl)

pub returns-in-Syntax : goal.returns-in-Syntax
returns-in-Syntax c =
    let none : c.modules.new.reader.names.past ≡ None = search rules in
    let stopped : form max_levels text (state c.new-reader.result) ≡ Err (Syntax, state c.modules.new.reader) = search rules in
    let counts = read_from max_levels c.args.words.now c.new-reader.result.rest.now c.new-reader.result.names (fresh max_names) (Err (Syntax, state c.modules.new.reader)) c.new-reader.ensures.rest c.new-reader.ensures.names stopped in
    (wrong c.modules.new.reader.rest.now, wrong_stopped grammar max_levels max_names c.args.words.now c.modules.new.reader.rest.now c.modules.new.reader.names counts none, rw c.place-place.ensures refl)

pub returns-in-TooDeep : goal.returns-in-TooDeep
returns-in-TooDeep c =
    let none : c.modules.new.reader.names.past ≡ None = search rules in
    let stopped : form max_levels text (state c.new-reader.result) ≡ Err (TooDeep, state c.modules.new.reader) = search rules in
    let counts = read_from max_levels c.args.words.now c.new-reader.result.rest.now c.new-reader.result.names (fresh max_names) (Err (TooDeep, state c.modules.new.reader)) c.new-reader.ensures.rest c.new-reader.ensures.names stopped in
    (too_deep c.modules.new.reader.rest.now, deep_stopped grammar max_levels max_names c.args.words.now c.modules.new.reader.rest.now c.modules.new.reader.names counts none, rw c.place-place.ensures refl)
