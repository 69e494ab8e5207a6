-- What parsing leads to.
use Rattle.std.proofs.Common.{◌≡◌, ℕ, ◌+◌, ◌<◌, List, [], ◌∷◌, ◌++◌, length, take, drop, fold, slice_get, get_or, Some, Result, Ok, Err, refl, sym, ap, subst, ◌∙◌, append-nil, append_assoc}
use Rattle.uc_syntax.specs.declared.declaration.Module.{Module}
use Rattle.uc_syntax.specs.Numbering.{KeepNumbers}
use Rattle.uc_forms.specs.Answer.{Answer, spelled, wrong, too_deep, too_many, IsAnswer}
use Rattle.uc_grammar.specs.declared.word.Word.{Word}
use Rattle.uc_grammar.specs.Language.{grammar}
use Rattle.uc_words.specs.Words.{AreWords, with_tokens}
use Rattle.uc_words.proofs.TokenByToken.{words_stay}
use Rattle.uc_parser.specs.declared.error.ParseError.{ParseError}
use Rattle.uc_parser.specs.declared.error.ParseError.TheVariants as parse
use Rattle.uc_parser.specs.Verdict.{IsParsedText, AreNamesAfter, said, end_of}
use Rattle.uc_front.specs.declared.lexing.Source.{Source}
use Rattle.uc_front.specs.Denotes.{with_source, HasAnswer, AreSpelled}
use Rattle.uc_front.specs.Refused.{IsUnspelled}
use Rattle.uc_front.specs.Errors.{IsTextError}
use Rattle.uc_front.specs.Turning.{syntactic}
use Rattle.uc_lexer.specs.declared.token.Token.{Token}
use Rattle.uc_front.proofs.Lists.{take_next, stands}
use Rattle.uc_front.proofs.Names.{sources_more, kept_to_end}

-- an answer stays that of the words as names are added
answer_under : (before after : List (List ℕ)) (s : Source) (ws : List Word) (r : Answer Word (List Module)) → KeepNumbers before after → AreWords before s.text s.tokens ws → IsAnswer grammar 200 65535 ws r →
    HasAnswer after s r
answer_under before after s ws r kept are right = record {
  words = ws;
  are_words = words_stay before after s.text s.tokens ws kept are;
  right = right;
}

spelled_behind : (names : List (List ℕ)) (sources : List Source) (modules : List Module) (s : Source) (found : List Module) → AreSpelled names sources modules → HasAnswer names s (spelled found) →
    AreSpelled names (sources ++ s ∷ []) (modules ++ found)
spelled_behind names [] modules s found all last = (found, [], last, refl, ap (λ ms. ms ++ found) all ∙ sym (append-nil found))
spelled_behind names (x ∷ xs) modules s found all last =
    (all.0, all.1 ++ found, all.2, spelled_behind names xs all.1 s found all.3 last, ap (λ ms. ms ++ found) all.4 ∙ append_assoc all.0 all.1 found)

-- the modules of one more text
pub spelled_more : (before after all : List (List ℕ)) (sources : List Source) (i : ℕ) (s : Source) (modules found more : List Module) → slice_get sources i ≡ Some s →
    fold with_source before (drop i sources) ≡ all → AreSpelled all (take i sources) modules → after ≡ with_tokens before s.text s.tokens → IsParsedText after i s.text s.tokens (Ok found) →
    more ≡ modules ++ found → AreSpelled all (take (i + 1) sources) more
spelled_more before after all sources i s modules found more at names so_far e h is =
    let kept = kept_to_end after all (drop (i + 1) sources) (sources_more before after all sources i s at names e) in
    let last = answer_under after all s h.0 (spelled found) kept h.1 h.2 in
    subst (λ ms. AreSpelled all (take (i + 1) sources) ms) (sym is)
    (subst (λ ss. AreSpelled all ss (modules ++ found)) (sym (take_next sources i s at)) (spelled_behind all (take i sources) modules s found so_far last))

abbrev error_in : Result (List Module) ParseError → ParseError
error_in (Ok ms) = parse.NoMemory
error_in (Err d) = d

error_same : (d e : ParseError) → (let r : Result (List Module) ParseError = Err d in r) ≡ Err e → d ≡ e
error_same d e i = ap (λ r. error_in r) i

-- the refusal of an answer is the error that the parser answers
refused_as : (names : List (List ℕ)) (sources : List Source) (i : ℕ) (s : Source) (modules : List Module) (r : Answer Word (List Module)) (e : ParseError) → slice_get sources i ≡ Some s →
    AreSpelled names (take i sources) modules → HasAnswer names s r → said (end_of i s.text) r ≡ Err e → IsTextError (IsUnspelled names sources) (syntactic e)
refused_as names sources i s modules (spelled ms) e at so_far h is = absurd (let z : Result (List Module) ParseError = Ok ms in cc is)
refused_as names sources i s modules (wrong rest) e at so_far h is =
    subst (λ d. IsTextError (IsUnspelled names sources) (syntactic d)) (error_same _ e is) (i, s, modules, wrong rest, at, so_far, h, refl)
refused_as names sources i s modules (too_deep rest) e at so_far h is =
    subst (λ d. IsTextError (IsUnspelled names sources) (syntactic d)) (error_same _ e is) (i, s, modules, too_deep rest, at, so_far, h, refl)
refused_as names sources i s modules (too_many x) e at so_far h is =
    subst (λ d. IsTextError (IsUnspelled names sources) (syntactic d)) (error_same _ e is) (i, s, modules, too_many x, at, so_far, h, refl)

-- a text that is refused
pub parsed_refused : (before after all : List (List ℕ)) (sources : List Source) (i : ℕ) (s : Source) (modules : List Module) (e : ParseError) → slice_get sources i ≡ Some s →
    fold with_source before (drop i sources) ≡ all → AreSpelled all (take i sources) modules → AreNamesAfter before s.text s.tokens (Err e) after → IsParsedText after i s.text s.tokens (Err e) →
    IsTextError (IsUnspelled all sources) (syntactic e)
parsed_refused before after all sources i s modules e at names so_far more h = by e more h
  where
    kept : after ≡ with_tokens before s.text s.tokens → KeepNumbers after all
    kept d = kept_to_end after all (drop (i + 1) sources) (sources_more before after all sources i s at names d)

    by : (e : ParseError) → AreNamesAfter before s.text s.tokens (Err e) after → IsParsedText after i s.text s.tokens (Err e) → IsTextError (IsUnspelled all sources) (syntactic e)
    by parse.NoMemory more h = tt
    by (parse.Syntax p) more h = refused_as all sources i s modules h.2.0 (parse.Syntax p) at so_far (answer_under after all s h.0 h.2.0 (kept more) h.1 h.2.1) h.2.2
    by (parse.TooDeep p) more h = refused_as all sources i s modules h.2.0 (parse.TooDeep p) at so_far (answer_under after all s h.0 h.2.0 (kept more) h.1 h.2.1) h.2.2
    by (parse.TooManyNames p) more h = refused_as all sources i s modules h.2.0 (parse.TooManyNames p) at so_far (answer_under after all s h.0 h.2.0 (kept more) h.1 h.2.1) h.2.2

-- the source at a place, by its parts
pub source_at : (sources : List Source) (i : ℕ) (s : Source) (text : List ℕ) (tokens : List Token) → i < length sources → s ≡ get_or sources i s → text ≡ s.text → tokens ≡ s.tokens →
    slice_get sources i ≡ Some (record { text = text; tokens = tokens })
source_at sources i s text tokens within is t k =
    let back : s.text ≡ text = sym t in
    let again : s.tokens ≡ tokens = sym k in
    stands sources i s within is ∙ (λ j. Some (record { text = back j; tokens = again j }))
