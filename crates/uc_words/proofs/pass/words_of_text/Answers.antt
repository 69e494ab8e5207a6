use Rattle.std.proofs.Common.{◌≡◌, List, None, Result, Ok, Err, OnErr, sym, ap, ◌∙◌, subst, refl, take}
use Rattle.uc_lexer.specs.declared.token.Token.{Token}
use Rattle.uc_lexer.specs.Text.{Tokens}
use Rattle.uc_lexer.proofs.Unique.{one_reading}
use Rattle.uc_syntax.specs.Mentions.{FilesBelow}
use Rattle.uc_words.specs.Mentions.{tokens_mention}
use Rattle.uc_words.specs.Words.{AreWithin, HasFrontOf, with_tokens}
use Rattle.uc_words.proofs.Places.{tokens_within, files_are}
use Rattle.uc_words.proofs.pass.words_of_text.Goals as goal

pub words-requires : goal.words-requires
words-requires c =
    subst (AreWithin c.args.text.now) (sym c.as_slice.ensures.value) (tokens_within c.args.file c.args.text.now c.in_ok-tokens.tokens.items c.in_ok-tokens.ensures.tokens)

pub returns-in-Ok-clause-files_known : goal.returns-in-Ok-clause-files_known
returns-in-Ok-clause-files_known c =
    λ n h. c.in-Ok.ensures.files_known n
    (subst (λ ts. FilesBelow n (tokens_mention ts)) (sym c.as_slice.ensures.value) (files_are n c.args.file c.args.text.now c.in_ok-tokens.tokens.items h c.in_ok-tokens.ensures.tokens))

pub returns-in-Ok-clause-names : goal.returns-in-Ok-clause-names
returns-in-Ok-clause-names c =
    λ tokens are.
    c.in-Ok.ensures.names
    ∙ ap (with_tokens c.args.names.now c.args.text.now)
    (c.as_slice.ensures.value ∙ (one_reading c.args.file c.args.text.now c.in_ok-tokens.tokens.items tokens None None c.in_ok-tokens.ensures.tokens are).0)

on_err : {A E P : Type 0} (r : Result A E) → P → OnErr r P
on_err (Ok a) p = tt
on_err (Err e) p = p

pub returns-in_err-tokens-clause-err : goal.returns-in_err-tokens-clause-err
returns-in_err-tokens-clause-err c =
    let none : (tokens : List Token) → Tokens c.args.file c.args.text.now tokens → HasFrontOf c.args.names.now c.args.text.now tokens c.args.names.now = λ tokens are. (0, refl) in
    on_err _ none

pub returns-clause-err : goal.returns-clause-err
returns-clause-err c =
    λ tokens are. (
      c.in-Err.ensures.err.0,
      c.in-Err.ensures.err.1
          ∙ ap (λ ts. with_tokens c.args.names.now c.args.text.now (take c.in-Err.ensures.err.0 ts))
          (c.as_slice.ensures.value ∙ (one_reading c.args.file c.args.text.now c.in_ok-tokens.tokens.items tokens None None c.in_ok-tokens.ensures.tokens are).0),
    )

pub returns-in_err-tokens-clause-unread : goal.returns-in_err-tokens-clause-unread
returns-in_err-tokens-clause-unread c =
    let same : ((tokens : List Token) → ¬ Tokens c.args.file c.args.text.now tokens) → c.args.names.now ≡ c.args.names.now = λ none. refl in
    on_err _ same

pub returns-clause-unread : goal.returns-clause-unread
returns-clause-unread c = λ none. absurd (none c.in_ok-tokens.tokens.items c.in_ok-tokens.ensures.tokens)
