-- What follows of the grammar and of the words of a text.
use Rattle.std.specs.Prelude.{◌≡◌, ℕ, List}
use Rattle.uc_forms.specs.Spelling.{Spells}
use Rattle.uc_grammar.specs.declared.word.Word.{Word}
use Rattle.uc_grammar.specs.Language.{grammar}
use Rattle.uc_lexer.specs.declared.token.Token.{Token}
use Rattle.uc_syntax.specs.Numbering.{AreDistinct}
use Rattle.uc_syntax.specs.declared.declaration.Module.{Module}
use Rattle.uc_words.specs.Words.{AreWords}

-- the tokens of a text spell these modules: their words do, with brackets as deep as may be
pub record TokensSpell (names : List (List ℕ)) (text : List ℕ) (tokens : List Token) (modules : List Module) : Type 0 where
  pub words : List Word
  pub are_words : AreWords names text tokens words
  pub depth : ℕ
  pub spelled : Spells grammar.rule depth grammar.text words modules

-- tokens spell at most one list of modules
abbrev pub TokensSpellOneList : Type 0
TokensSpellOneList = (names : List (List ℕ)) (text : List ℕ) (tokens : List Token) (modules others : List Module) → AreDistinct names → TokensSpell names text tokens modules → TokensSpell names text tokens others → modules ≡ others
