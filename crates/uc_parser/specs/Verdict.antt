-- What the parser answers.
use Rattle.std.specs.Prelude.{◌≡◌, ℕ, List, [], ◌∷◌, length, Result, Ok, Err}
use Rattle.uc_forms.specs.Answer.{Answer, spelled, wrong, too_deep, too_many, IsAnswer}
use Rattle.uc_grammar.specs.declared.word.Word.{Word}
use Rattle.uc_grammar.specs.Language.{grammar}
use Rattle.uc_lexer.specs.declared.place.Place.{Place}
use Rattle.uc_lexer.specs.declared.token.Token.{Token}
use Rattle.uc_lexer.specs.Places.{place_of}
use Rattle.uc_syntax.specs.declared.declaration.Module.{Module}
use Rattle.uc_words.specs.Words.{AreWords, HasFrontOf, with_tokens}
use Rattle.uc_parser.specs.declared.error.ParseError.{ParseError}
use Rattle.uc_parser.specs.declared.error.ParseError.TheVariants.{NoMemory, Syntax, TooDeep, TooManyNames}

-- in as many nested forms a word may lie
abbrev pub max_levels : ℕ
max_levels = 200

-- as many names a module may declare
abbrev pub max_names : ℕ
max_names = 65535

-- the place of the first of these words, or the end
abbrev pub place_at : Place → List Word → Place
place_at end [] = end
place_at end (w ∷ ws) = w.place

abbrev pub said : Place → Answer Word (List Module) → Result (List Module) ParseError
said end (spelled modules) = Ok modules
said end (wrong rest) = Err (Syntax (place_at end rest))
said end (too_deep rest) = Err (TooDeep (place_at end rest))
said end (too_many name) = Err (TooManyNames name.place)

-- the one right answer for these words, unless memory ran out
abbrev pub IsParsed : ℕ → ℕ → Place → List Word → Result (List Module) ParseError → Type 0
IsParsed levels limit end ws (Ok modules) = IsAnswer grammar levels limit ws (spelled modules)
IsParsed levels limit end ws (Err NoMemory) = Unit {0}
IsParsed levels limit end ws (Err e) = (r : Answer Word (List Module)) × IsAnswer grammar levels limit ws r × (said end r ≡ Err e)

-- the place behind the last byte of a text
abbrev pub end_of : ℕ → List ℕ → Place
end_of file text = place_of file text (length text)

-- the one right answer for the words that the tokens are under these names, unless memory ran out
abbrev pub IsParsedText : List (List ℕ) → ℕ → List ℕ → List Token → Result (List Module) ParseError → Type 0
IsParsedText names file text tokens (Err NoMemory) = Unit {0}
IsParsedText names file text tokens result = (ws : List Word) × AreWords names text tokens ws × IsParsed max_levels max_names (end_of file text) ws result

-- the names after the call: those of all tokens were added, or of the first ones where memory ran out
abbrev pub AreNamesAfter : List (List ℕ) → List ℕ → List Token → Result (List Module) ParseError → List (List ℕ) → Type 0
AreNamesAfter before text tokens (Err NoMemory) after = HasFrontOf before text tokens after
AreNamesAfter before text tokens result after = after ≡ with_tokens before text tokens
