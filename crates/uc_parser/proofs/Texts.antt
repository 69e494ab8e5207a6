-- From words to texts.
use Rattle.std.proofs.Common.{◌≡◌, ℕ, List, length, Ok, Err, refl, sym, ap, subst, ◌∙◌}
use Rattle.std.specs.Prelude.{Result}
use Rattle.std.proofs.Math.Seq.{take-length}
use Rattle.uc_forms.specs.declared.tally.Tally.{Tally}
use Rattle.uc_forms.specs.Counted.{Outcome}
use Rattle.uc_grammar.specs.declared.word.Word.{Word}
use Rattle.uc_grammar.specs.Syntax.{text}
use Rattle.uc_lexer.specs.declared.place.Place.{Place}
use Rattle.uc_lexer.specs.declared.token.Token.{Token}
use Rattle.uc_parse_expressions.specs.Reading.{form}
use Rattle.uc_syntax.specs.declared.declaration.Module.{Module}
use Rattle.uc_words.specs.Words.{AreWords, with_tokens}
use Rattle.uc_parser.specs.declared.error.ParseError.{ParseError}
use Rattle.uc_parser.specs.declared.error.ParseError.TheVariants.{NoMemory, Syntax, TooDeep, TooManyNames}
use Rattle.uc_parser.specs.Verdict.{IsParsed, IsParsedText, AreNamesAfter, end_of, max_levels, max_names}

-- what a reader reads, by what it began with
pub read_from : (levels : ℕ) (ws us : List Word) (n m : Tally Word) (o : Outcome Word (List Module)) → us ≡ ws → n ≡ m → form levels text (us, n) ≡ o → form levels text (ws, m) ≡ o
read_from levels ws us n m o e f g = subst (λ (zs : List Word). form levels text (zs, m) ≡ o) e (subst (λ (z : Tally Word). form levels text (us, z) ≡ o) f g)

module _ (names : List (List ℕ)) (file : ℕ) (bytes : List ℕ) (tokens : List Token) where
  by_result : (ws : List Word) (r : Result (List Module) ParseError) → AreWords names bytes tokens ws → IsParsed max_levels max_names (end_of file bytes) ws r → IsParsedText names file bytes tokens r
  by_result ws (Ok modules) a p = (ws, a, p)
  by_result ws (Err NoMemory) a p = tt
  by_result ws (Err (Syntax place)) a p = (ws, a, p)
  by_result ws (Err (TooDeep place)) a p = (ws, a, p)
  by_result ws (Err (TooManyNames place)) a p = (ws, a, p)

  -- the answer for the words is that for the text
  pub text_parsed : (ws us : List Word) (end : Place) (r : Result (List Module) ParseError) → AreWords names bytes tokens ws → us ≡ ws → end ≡ end_of file bytes → IsParsed max_levels max_names end us r → IsParsedText names file bytes tokens r
  text_parsed ws us end r a e f p = by_result ws r a (subst (λ (zs : List Word). IsParsed max_levels max_names (end_of file bytes) zs r) e (subst (λ (z : Place). IsParsed max_levels max_names z us r) f p))

-- the names after all tokens
pub names_after : (before after : List (List ℕ)) (bytes : List ℕ) (tokens : List Token) (r : Result (List Module) ParseError) → after ≡ with_tokens before bytes tokens → AreNamesAfter before bytes tokens r after
names_after before after bytes tokens (Ok modules) e = e
names_after before after bytes tokens (Err NoMemory) e = (length tokens, e ∙ ap (λ (ts : List Token). with_tokens before bytes ts) (sym (take-length tokens)))
names_after before after bytes tokens (Err (Syntax place)) e = e
names_after before after bytes tokens (Err (TooDeep place)) e = e
names_after before after bytes tokens (Err (TooManyNames place)) e = e
