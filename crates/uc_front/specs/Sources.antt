-- The sources of files: the texts that are held under their names, and the tokens of these.
use Rattle.std.specs.Prelude.{◌≡◌, ℕ, ◌+◌, ◌≤◌, List, [], ◌∷◌, map, length, Option, Some}
use Rattle.std.specs.List.{concat}
use Rattle.std.proofs.Common.{Bor}
use Rattle.uc_lexer.specs.declared.lexer.TheConstants.{MAX_TEXT}
use Rattle.uc_lexer.specs.Text.{Tokens}
use Rattle.uc_front.specs.declared.lexing.Source.{Source}

-- the bytes of each word
abbrev pub words_of : List (Bor (List ℕ)) → List (List ℕ)
words_of words = map (λ w. w.now) words

-- Reading accepts the files: each text is the one that is held under its file's name, and all together are within the limit.
pub record AreTexts (held : List ℕ → Option (List ℕ)) (files texts : List (List ℕ)) : Type 0 where
  pub each : map held files ≡ map (λ t. Some t) texts
  pub within : length (concat texts) ≤ MAX_TEXT

-- Lexing accepts the texts: each has its tokens. The files are numbered from `file` on.
abbrev pub AreLexed : ℕ → List Source → Type 0
AreLexed file [] = Unit {0}
AreLexed file (source ∷ sources) = Tokens file source.text source.tokens × AreLexed (file + 1) sources

abbrev pub texts_of : List Source → List (List ℕ)
texts_of sources = map (λ s. s.text) sources

-- Both accept the files, and these are their sources.
pub record AreSources (held : List ℕ → Option (List ℕ)) (files : List (List ℕ)) (sources : List Source) : Type 0 where
  pub are_texts : AreTexts held files (texts_of sources)
  pub are_lexed : AreLexed 0 sources
